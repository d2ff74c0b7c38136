use Rattle.std.proofs.Common.{ap, ◌∙◌}
use Rattle.bank_validity.specs.Limits.{broken}
use Rattle.bank_validity.proofs.LimitLaws.{records_broken}
use Rattle.bank_validity.proofs.totals.Totals.broken_with_records.Goals as goal

pub returns : goal.returns
returns c =
    λ r m.
    c.broken.ensures
    ∙ (ap broken c.plus_records.ensures ∙ records_broken c.args.at c.args.self c.args.more r c.requires m)
