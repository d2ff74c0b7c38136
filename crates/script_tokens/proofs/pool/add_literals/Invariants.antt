use Rattle.std.proofs.Common.{◌≡◌, map}
use Rattle.script_tokens.specs.Tokens.{tokens_of}
use Rattle.script_tokens.specs.TokenValue.{token_value}
use Rattle.script_tokens.specs.Pool.{literals_of}
use Rattle.script_tokens.proofs.pool.add_literals.Given as goal

-- the pool so far and the remaining tokens give the pool of the whole line
abbrev pub invariant-loop-token : goal.invariant-loop-token
invariant-loop-token l = record {
  can_next : (goal.iterator-loop-token).can_next l.token-iterator;
  is_finite : (goal.iterator-loop-token).is_finite l.token-iterator;
  left : literals_of l.number (map token_value l.token-iterator) l.pool.items
      ≡ literals_of l.number (map token_value (tokens_of l.line)) l.initial.pool.items;
}
