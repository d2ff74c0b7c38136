use Rattle.std.proofs.Common.{◌≡◌, drop}
use Rattle.script_grammar.specs.Names.{named}
use Rattle.script_grammar.proofs.names.first_named.Given as goal

-- the remaining values name what the whole list does
abbrev pub invariant-loop-item : goal.invariant-loop-item
invariant-loop-item g l =
    named g.T.HasWord.word_of (drop l.item-index l.items) l.word ≡ named g.T.HasWord.word_of l.items l.word
