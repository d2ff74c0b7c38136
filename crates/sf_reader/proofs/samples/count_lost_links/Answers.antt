use Rattle.std.proofs.Common.{◌∙◌, ℕ, ap, rules, tests}
use Rattle.std.specs.Prelude.{count_by}
use Rattle.std.proofs.lemmas.Iterator.Consumers.{YieldsList-at, YieldsList-from_filter, count_from_yields_List}
use Rattle.std.proofs.lemmas.List.Sums.{length-filter}
use Rattle.bank_format.specs.Windows.{without_terminal}
use Rattle.bank_format.specs.Samples.{is_link_lost}
use Rattle.sf_reader.proofs.RowLaws.{rows_yield}
use Rattle.sf_reader.proofs.samples.count_lost_links.Goals as goal

pub returns : goal.returns
returns c =
    let heads = rows_yield c.without_terminal.result (without_terminal c.args.heads.now) c.without_terminal.ensures in
    let n = c.row_count-count.result in
    count_from_yields_List c.filter.result c.count.result c.count.ensures.ran
    (YieldsList-from_filter _ (is_link_lost n) (YieldsList-at c.filter.ensures.source heads)
    c.filter.ensures.closure (λ x b q k. search (rules, tests)))
    ∙ length-filter (is_link_lost n) (without_terminal c.args.heads.now)
    ∙ ap (λ (k : ℕ). count_by (is_link_lost k) (without_terminal c.args.heads.now)) c.row_count-count.ensures
