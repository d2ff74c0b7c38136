use Rattle.script_comments.proofs.OwnerLaws.{rows_start, rows_step, rows_end}
use Rattle.script_comments.proofs.RowLaws.{no_row}
use Rattle.script_comments.proofs.owners.put_operators_of_owner.Goals as goal

pub loop-row-init : goal.loop-row-init
loop-row-init g c = rows_start c.args.owners.now c.args.i _ _ _ c.usable_generators-rows.result.now c.requires

pub loop-row-preserved : goal.loop-row-preserved
loop-row-preserved g c =
    rows_step c.args.owners.now c.args.i _ _ _ _ _ _ _ c.usable_generators-rows.result.now c.loop-row.row-index no_row
    _ c.requires c.loop-row-test.true c.owner_has-is_listed.ensures c.loop-row.invariant c.put_if_listed-next.ensures

pub returns : goal.returns
returns g c =
    rows_end c.args.owners.now c.args.i _ _ _ _ _ c.usable_generators-rows.result.now c.loop-row.row-index c.requires
    c.loop-row-test.false c.usable_generators-rows.ensures c.loop-row.invariant
