use Rattle.std.proofs.Common.{◌≡◌, length}
use Rattle.script_grammar.specs.Items.{items, items_on}
use Rattle.script_grammar.proofs.items.items.Given as goal

-- the content so far and the remaining tokens give the whole content
abbrev pub invariant-loop-line : goal.invariant-loop-line
invariant-loop-line l = (items_on l.content l.line.token_values ≡ items l.fn.line.token_values) × (l.line.pool ≡ l.fn.line.pool)

abbrev pub decreases-loop-line : goal.decreases-loop-line
decreases-loop-line l = length l.line.token_values
