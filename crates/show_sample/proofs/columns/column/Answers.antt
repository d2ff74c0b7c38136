use Rattle.std.proofs.Common.{◌+◌, arith}
use Rattle.show_sample.proofs.ColumnLaws.{starts_within}
use Rattle.show_sample.proofs.columns.column.Goals as goal

pub extremes_between-requires-clause-inside : goal.extremes_between-requires-clause-inside
extremes_between-requires-clause-inside c =
    let within = starts_within c.len-2.result c.args.width (c.args.number + 1) (omega (arith, c.requires.number)) in
    omega (arith, within, c.column_start-end.ensures, c.len-2.ensures.value)
