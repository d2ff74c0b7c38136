use Rattle.std.proofs.Common.{rules, tests}
use Rattle.std.proofs.lemmas.Iterator.{cases_from_all, YieldsList-from_slice}
use Rattle.std.specs.Bool.{⊤}
use Rattle.bank_parts.specs.Fits.{FitsSample}
use Rattle.bank_parts.proofs.AllTests.{all_where_true}
use Rattle.bank_validity.proofs.validity.are_samples.Goals as goal

pub returns-clause-fits : goal.returns-clause-fits
returns-clause-fits c =
    all_where_true FitsSample _ c.all.result c.args.samples.now
    (cases_from_all _ _ _ FitsSample (λ x. ⊤) c.all.ensures.ran (YieldsList-from_slice c.args.samples.now cc)
    (λ x q k. search (rules, tests)) (λ x q k. tt))
