use Rattle.std.proofs.Common.{◌≡◌, ℕ, true}
use Rattle.std.specs.List.{list_any}
use Rattle.bank_parts.specs.Owners.{targets}
use Rattle.plan_edits.proofs.UseLaws.{marked_too, target_of_zone}
use Rattle.plan_edits.proofs.uses.mark_targets.Goals as goal
use Rattle.plan_edits.proofs.uses.mark_targets.Goals.{then-target-marks, else-target-marks}

pub loop-k-preserved : goal.loop-k-preserved
loop-k-preserved g c h =
    let owners = c.args.owners.now in
    let target = c.target-target.result in
    let used = target_of_zone owners c.args.i c.loop-k.k target c.target-target.ensures in
    let before = c.loop-k.invariant h in
    let marked = marked_too (λ (n : ℕ). list_any (targets n) owners ≡ true) c.loop-k.marks target used before in
    elim c.if-target-marks.branch [
      | then-target-marks w ↦ rw w.marks-is marked
      | else-target-marks w ↦ rw w.marks-is before
    ]
