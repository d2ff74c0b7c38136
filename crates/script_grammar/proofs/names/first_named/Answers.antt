use Rattle.std.proofs.Common.{◌∙◌, sym}
use Rattle.script_grammar.proofs.NameLaws.{named_here, named_later, named_nowhere}
use Rattle.script_grammar.proofs.names.first_named.Goals as goal

pub returns-then-word_is : goal.returns-then-word_is
returns-then-word_is g c =
    sym
    (named_here _ c.args.items.now _ c.loop-item.item-index _ _ _ c.loop-item.invariant c.loop-item-test.true
    c.item-item.is c.word.ensures (sym c.word_is.ensures ∙ c.if-word_is.true))

pub loop-item-preserved : goal.loop-item-preserved
loop-item-preserved g c =
    named_later _ c.args.items.now _ c.loop-item.item-index _ _ _ c.loop-item.invariant c.loop-item-test.true
    c.item-item.is c.word.ensures (sym c.word_is.ensures ∙ c.if-word_is.false)

pub returns : goal.returns
returns g c =
    sym (named_nowhere _ c.args.items.now c.loop-item.item-index _ _ c.loop-item.invariant c.loop-item-test.false)
