use Rattle.std.proofs.Common.{◌<◌, ◌≤◌, arith, ap}
use Rattle.std.specs.List.{flat_map}
use Rattle.base_outputs.proofs.OutputLaws.{putting_from, putting_step}
use Rattle.show_page.specs.Columns.{column_count, column, columns}
use Rattle.show_page.proofs.Loops.{all_from, from_on, putting_past}
use Rattle.show_page.proofs.columns.put_columns.Goals as goal

pub loop-number-init : goal.loop-number-init
unfolding columns
loop-number-init g c =
    let points = c.args.points.now in
    putting_from _ _ (ap (flat_map (column points)) (all_from (column_count points)))

pub loop-number-preserved : goal.loop-number-preserved
loop-number-preserved g c =
    let points = c.args.points.now in
    let test = c.loop-number-test.true in
    let end = c.column_count-number-end.ensures in
    let lt : c.loop-number.number < column_count points = omega (arith, test, end) in
    putting_step _ _ c.loop-number.invariant (from_on (column points) c.loop-number.number (column_count points) lt)
    c.put_column.ensures

pub put_column-requires : goal.put_column-requires
put_column-requires g c =
    let test = c.loop-number-test.true in
    let end = c.column_count-number-end.ensures in
    omega (arith, test, end)

pub returns : goal.returns
returns g c =
    let points = c.args.points.now in
    let test = c.loop-number-test.false in
    let end = c.column_count-number-end.ensures in
    let over : column_count points ≤ c.loop-number.number = omega (arith, test, end) in
    putting_past (column points) c.loop-number.number (column_count points) c.loop-number.invariant over
