use Rattle.std.proofs.Common.{◌≡◌, ◌≤◌, ◌+◌, length, map}
use Rattle.script_tokens.specs.TokenValue.{values_in}
use Rattle.script_tokens.specs.Pool.{gather, literals_of, pool_bytes}
use Rattle.script_tokens.proofs.pool.pool_of.Given as goal

-- the pool so far and the remaining lines give the pool of the whole text
abbrev pub invariant-loop-line : goal.invariant-loop-line
invariant-loop-line l = record {
  can_next : (goal.iterator-loop-line).can_next l.line-iterator;
  is_finite : (goal.iterator-loop-line).is_finite l.line-iterator;
  left : gather literals_of (l.number + 1) (map values_in l.line-iterator) l.pool.items ≡ pool_bytes l.text;
  counted : l.number + length l.line-iterator ≤ length l.text;
}
