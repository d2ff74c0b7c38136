use Rattle.std.proofs.Common.{◌==◌, ◌∙◌, rules, tests}
use Rattle.std.proofs.lemmas.Iterator.{YieldsList-from_slice}
use Rattle.std.proofs.lemmas.Iterator.Search.{position_from_yields_List}
use Rattle.bank_format.proofs.ZeroLaws.{before_found}
use Rattle.bank_format.proofs.names.before_zero.Goals as goal

pub returns : goal.returns
returns c =
    let found =
    position_from_yields_List (λ b. b == 0) _ _ c.position.result c.position.ensures.ran
    (YieldsList-from_slice c.args.bytes.now cc) (λ x b q k. search (rules, tests)) in
    c.front_of.ensures ∙ before_found c.args.bytes.now c.position.result c.unwrap_or-end.result found (search rules)
