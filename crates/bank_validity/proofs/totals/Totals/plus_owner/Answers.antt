use Rattle.std.proofs.Common.{◌≡◌, ◌+◌, ◌∙◌, ap}
use Rattle.bank_parts.specs.Counts.{counted, all_counted, records_sum}
use Rattle.bank_validity.specs.declared.totals.LevelTotals.{LevelTotals}
use Rattle.bank_validity.specs.Limits.{totals_at, level_counted, plus_owner}
use Rattle.bank_validity.proofs.LevelLaws.{put_at}
use Rattle.bank_validity.proofs.totals.Totals.plus_owner.Goals as goal

pub returns : goal.returns
returns c =
    let more = c.args.more in
    let level : LevelTotals = record { count = c.saturating_add.result; records = c.plus.result.records } in
    let count = c.saturating_add.ensures ∙ ap (λ (l : LevelTotals). counted (l.count + 1)) c.at-level.ensures in
    let records =
    ap (λ (l : LevelTotals). l.records) c.plus.ensures
    ∙ ap (λ (l : LevelTotals). all_counted (records_sum l.records more)) c.at-level.ensures in
    let same : level ≡ level_counted (plus_owner more (totals_at c.args.at c.args.self)) =
    λ i. record { count = count i; records = records i } in
    c.with_level.ensures ∙ put_at c.args.at (λ l. level_counted (plus_owner more l)) c.args.self level same
