use Rattle.std.proofs.Common.{rules, tests}
use Rattle.std.proofs.lemmas.Iterator.{cases_from_all, YieldsList-from_slice}
use Rattle.bank_parts.proofs.AllTests.{all_decides}
use Rattle.bank_zone_ranges.specs.Agreement.{AgreesButAt}
use Rattle.bank_zone_ranges.proofs.agreement.agree_but.Goals as goal

pub returns : goal.returns
returns g c =
    let Is = AgreesButAt c.args.owners.now c.args.i c.args.zone c.args.operator in
    all_decides Is c.all.result c.args.entries.now
    (cases_from_all _ _ _ Is (λ x. Is x → ⊥) c.all.ensures.ran (YieldsList-from_slice c.args.entries.now cc)
    (λ x q k. search (rules, tests)) (λ x q k. search (rules, tests)))
