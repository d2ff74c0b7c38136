use Rattle.std.proofs.Common.{◌∙◌, ap}
use Rattle.bank_parts.specs.Counts.{all_counted, records_sum}
use Rattle.bank_validity.specs.declared.totals.LevelTotals.{LevelTotals}
use Rattle.bank_validity.proofs.LevelLaws.{put_at}
use Rattle.bank_validity.proofs.totals.Totals.plus_records.Goals as goal

pub returns : goal.returns
returns c =
    let plus : LevelTotals → LevelTotals =
    λ l. record l { records = all_counted (records_sum l.records c.args.more) } in
    c.with_level.ensures ∙ put_at c.args.at plus c.args.self c.plus.result (c.plus.ensures ∙ ap plus c.at.ensures)
