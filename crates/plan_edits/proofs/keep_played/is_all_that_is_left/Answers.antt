use Rattle.std.proofs.Common.{map}
use Rattle.plan_edits.specs.Playing.{preset_of}
use Rattle.plan_edits.proofs.SetLaws.{only_kept_too}
use Rattle.plan_edits.proofs.PlayedLaws.{voices_too, selected_too}
use Rattle.plan_edits.proofs.keep_played.is_all_that_is_left.Goals as goal

pub returns-in_ok-has_no_unused : goal.returns-in_ok-has_no_unused
returns-in_ok-has_no_unused c used = record {
  voices =
      voices_too c.args.played.now c.args.notes.now c.args.from.now c.args.to.now c.requires.played
      (c.is_played_alike.ensures c.if-not-is_played_alike.false);
  only =
      only_kept_too c.args.presets.now.keys (map preset_of c.args.notes.now) c.args.to.now c.requires.presets
      (c.are_kept.ensures c.if-not-are_kept.false);
  selected =
      selected_too c.args.played.now c.args.notes.now c.args.to.now c.requires.played
      (c.in_ok-has_no_unselected.ensures c.if-branch.true);
  used = c.in_ok-has_no_unused.ensures used;
}
