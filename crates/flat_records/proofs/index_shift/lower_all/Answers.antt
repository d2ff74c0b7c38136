use Rattle.std.proofs.Common.{get_or, refl, arith, ◌∙◌, ap}
use Rattle.std.proofs.lemmas.List.{get_or_default}
use Rattle.std.proofs.lemmas.List.Edits.{map_over_more}
use Rattle.flat_records.proofs.Starts.{unchanged}
use Rattle.flat_records.proofs.index_shift.lower_all.Goals as goal

pub loop-at-preserved : goal.loop-at-preserved
loop-at-preserved g c =
    let list = c.loop-at.list in
    let i = c.loop-at.at-index in
    let x = get_or list i c.at-item.result in
    rw c.lower.ensures
    (map_over_more (g.I.Index.lowered c.args.by) c.args.list.now list i x c.loop-at-test.true c.loop-at.invariant
    (get_or_default list i c.at-item.result x (omega arith)))

pub returns-else-not-is_origin : goal.returns-else-not-is_origin
returns-else-not-is_origin g c =
    unchanged (g.I.Index.lowered c.args.by)
    (λ at. ap (λ by. g.I.Index.lowered by at) (c.if-not-is_origin.ensures.0 refl) ∙ g.met.I.Index.lowered_by_none at)
    c.args.list.now
