use Rattle.std.proofs.Common.{◌-◌}
use Rattle.voices.proofs.SliceLaws.{is_current}
use Rattle.voices.proofs.slices.Slice.around.Goals as goal

pub returns-clause-is_current : goal.returns-clause-is_current
returns-clause-is_current c =
    is_current c.args.points.now c.args.i c.slice_at-position.result.1 _ c.slice_at-position.ensures.run
    (λ _. c.args.i - c.slice_at-position.result.1)
