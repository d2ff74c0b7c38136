use Rattle.std.proofs.Common.{◌≡◌, ◌%◌, arith}
use Rattle.base_outputs.proofs.OutputLaws.{putting_step}
use Rattle.pair_waves.specs.Frames.{interleaved}
use Rattle.pair_waves.proofs.FrameLaws.{interleaved-run}
use Rattle.pair_waves.proofs.frames.put_frames.Goals as goal

pub loop-index-preserved : goal.loop-index-preserved
loop-index-preserved g c =
    let left = c.run_from-left_run in
    let right = c.run_from-right_run in
    let size = c.min-size.ensures in
    let even : c.min-size.result % 2 ≡ 0 = omega (arith, size, left.ensures.even, right.ensures.even) in (
      omega (arith, size, left.ensures.inside),
      putting_step {whole = interleaved c.args.left.now c.args.right.now} _ _ c.loop-index.invariant.1
          (interleaved-run c.args.left.now c.args.right.now left.result.now right.result.now c.loop-index.index
          c.min-size.result even (omega (arith, size)) (omega (arith, size)) left.ensures.points right.ensures.points)
          c.put_run.ensures,
    )
