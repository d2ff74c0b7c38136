use Rattle.std.proofs.Common.{◌∙◌, sym, ap}
use Rattle.bank_parts.specs.Counts.{records_of_zone}
use Rattle.bank_validity.specs.Limits.{broken}
use Rattle.bank_changes.proofs.ZoneChangeLaws.{totals-zone_added}
use Rattle.bank_core.proofs.KeptPoints.{no_limit_now}
use Rattle.bank_core.proofs.bank.Bank.broken_with_zone.Goals as goal

pub broken_with_records-requires : goal.broken_with_records-requires
broken_with_records-requires c =
    no_limit_now c.args.self.now c.totals.result c.totals.ensures.sound c.totals.ensures.value

pub returns : goal.returns
returns c = λ at there.
    let now = c.args.self.now in
    let o = c.args.owner in
    let zone = c.args.zone.now in
    rw (c.level.ensures, c.totals.ensures.value) at c.broken_with_records.ensures
    (records_of_zone zone) c.records.ensures
    ∙ sym (ap broken (totals-zone_added now o at zone there))
