use Rattle.plan_edits.proofs.SameVoices.{AreSameIfRest}
use Rattle.plan_edits.proofs.same_voices.has_same_voices.Given as goal

abbrev pub invariant-loop-pair : goal.invariant-loop-pair
invariant-loop-pair l = AreSameIfRest l.fn.from l.fn.to l.fn.note l.old l.new
