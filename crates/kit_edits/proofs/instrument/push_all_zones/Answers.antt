use Rattle.kit_edits.specs.Zones.{row_zones}
use Rattle.kit_edits.proofs.ZoneLaws.{member_pushed, all_pushed}
use Rattle.kit_edits.proofs.instrument.push_all_zones.Goals as goal

pub loop-row-preserved : goal.loop-row-preserved
loop-row-preserved c =
    member_pushed (row_zones c.args.numbered.now) c.args.rows.now c.loop-row.row-index _ c.loop-row.made.items _ _
    c.loop-row-test.true c.in_ok-push_row_zones.ensures c.loop-row.invariant

pub returns : goal.returns
returns c =
    all_pushed (row_zones c.args.numbered.now) c.args.rows.now c.loop-row.row-index c.loop-row.made.items _
    c.loop-row-test.false c.loop-row.invariant
