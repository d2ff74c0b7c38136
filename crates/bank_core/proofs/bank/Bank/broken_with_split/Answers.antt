use Rattle.std.proofs.Common.{◌≡◌, ◌∙◌, sym, ap}
use Rattle.bank_parts.specs.Counts.{all_counted}
use Rattle.bank_validity.specs.Limits.{broken}
use Rattle.bank_zone_ranges.specs.Splits.{split_records}
use Rattle.bank_changes.proofs.SplitLaws.{split, split_zone_is, totals-zone_split}
use Rattle.bank_core.proofs.KeptPoints.{no_limit_now}
use Rattle.bank_core.proofs.bank.Bank.broken_with_split.Goals as goal

pub broken_with_records-requires : goal.broken_with_records-requires
broken_with_records-requires c =
    no_limit_now c.args.self.now c.totals.result c.totals.ensures.sound c.totals.ensures.value

pub returns : goal.returns
returns c = λ at can.
    let now = c.args.self.now in
    let o = c.args.owner in
    let zone = (split now o c.args.zone c.args.axis at can).own.zone in
    let count : c.split_records-more.result ≡ all_counted (split_records c.args.axis zone) =
    rw (c.self.view_is, split_zone_is now o c.args.zone c.args.axis at can) at c.split_records-more.ensures in
    rw (c.level.ensures, c.totals.ensures.value) at c.broken_with_records.ensures
    (split_records c.args.axis zone) count
    ∙ sym (ap broken (totals-zone_split now o c.args.zone c.args.axis at can))
