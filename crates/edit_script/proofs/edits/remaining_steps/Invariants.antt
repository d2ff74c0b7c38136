use Rattle.std.proofs.Common.{◌≡◌, [], length}
use Rattle.edit_script.specs.Grammar.{remaining_steps}
use Rattle.edit_script.proofs.edits.remaining_steps.Given as goal

-- the steps so far and the remaining tokens give all steps
abbrev pub invariant-loop-alloc : goal.invariant-loop-alloc
invariant-loop-alloc l =
    (remaining_steps l.steps l.line.token_values ≡ remaining_steps [] l.fn.line.token_values) × (l.line.pool ≡ l.fn.line.pool)

abbrev pub decreases-loop-alloc : goal.decreases-loop-alloc
decreases-loop-alloc l = length l.line.token_values
