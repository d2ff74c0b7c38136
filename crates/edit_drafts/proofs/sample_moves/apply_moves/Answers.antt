use Rattle.edit_drafts.proofs.MoveLaws.{moves_accepted}
use Rattle.edit_drafts.proofs.sample_moves.apply_moves.Goals as goal

pub returns : goal.returns
returns c = record {
  are_accepted = moves_accepted c.args.bank.now c.args.moves.now
      (record { valid = c.samples-samples.ensures.valid; fits = c.samples-samples.ensures.fits }) c.requires;
  changed = c.in-Ok-move_samples.ensures.change;
  listed = c.in-Ok.ensures.listed;
}
