use Rattle.std.proofs.Common.{◌∙◌, codes, not, rules, tests}
use Rattle.std.specs.Str.{bytes_eq}
use Rattle.std.proofs.lemmas.Iterator.{YieldsList-from_slice}
use Rattle.std.proofs.lemmas.Iterator.Search.{YieldsList-from_take_while, any_from_yields_List}
use Rattle.program_commands.specs.Words.{is_explaining}
use Rattle.program_commands.proofs.FlagLaws.{any_before}
use Rattle.program_commands.proofs.explain.asks_for_explanations.Goals as goal

-- The iterator tests the words, and the definition their texts.
pub returns : goal.returns
returns g c =
    let text = g.S.AsStr.text in
    any_from_yields_List (λ word. is_explaining (text word)) c.any.new.self _ c.any.result c.any.ensures.ran
    (YieldsList-from_take_while _ (λ word. not (bytes_eq (text word) (codes "--")))
    (YieldsList-from_slice c.args.words.now cc) c.take_while.ensures.closure c.take_while.ensures.done
    (λ x b q k. search (rules, tests)))
    (λ x b q k. search (rules, tests))
    ∙ any_before text is_explaining (λ word. not (bytes_eq word (codes "--"))) c.args.words.now
