use Rattle.bank_validity.specs.Limits.{totals_of}
use Rattle.bank_validity.proofs.LimitLaws.{broken_counted, counted_within}
use Rattle.bank_validity.proofs.totals.totals_with.Goals as goal

pub returns-clause-value : goal.returns-clause-value
unfolding totals_of
returns-clause-value c = λ within.
    rw (c.level_totals.ensures, c.level_totals-2.ensures, c.len.ensures, c.requires)
    (counted_within c.args.parts.now within)

pub returns-clause-limits : goal.returns-clause-limits
unfolding totals_of
returns-clause-limits c =
    rw (c.level_totals.ensures, c.level_totals-2.ensures, c.len.ensures, c.requires)
    (broken_counted (totals_of c.args.parts.now))
