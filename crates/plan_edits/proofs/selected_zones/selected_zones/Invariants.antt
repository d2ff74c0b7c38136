use Rattle.plan_edits.specs.Playing.{HasOnlySelected}
use Rattle.plan_edits.proofs.selected_zones.selected_zones.Given as goal

abbrev pub invariant-loop-note : goal.invariant-loop-note
invariant-loop-note l = HasOnlySelected l.fn.notes l.fn.bank l.set
