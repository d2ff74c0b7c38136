use Rattle.bank_changes.proofs.SampleMoveLaws.{samples_moved_sound, totals-samples_moved}
use Rattle.bank_core.proofs.KeptPoints.{same_points, kept_either, sound_before}
use Rattle.bank_core.proofs.bank.Bank.move_samples.Goals as goal

pub invariant_of-self : goal.invariant_of-self
invariant_of-self c =
    let sound = sound_before c.self.view_is c.self.invariant in
    kept_either c.self.view_is c.self.invariant c.move_samples.result
    (rw c.self.view_is at c.move_samples.ensures.change)
    c.move_samples.ensures.err (samples_moved_sound c.args.self.now c.args.moves.now c.requires sound)
    (same_points c.args.self.now _ (totals-samples_moved c.args.self.now c.args.moves.now c.requires))
