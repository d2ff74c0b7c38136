use Rattle.plan_take.specs.Additions.{AddsMembers}
use Rattle.plan_take.proofs.samples.add_missing.Given as goal

abbrev pub invariant-loop-i : goal.invariant-loop-i
invariant-loop-i l = AddsMembers l.fn.draft l.draft
