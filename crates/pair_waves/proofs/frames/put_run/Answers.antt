use Rattle.std.proofs.Common.{◌≡◌, ◌%◌, ◌∙◌, List, ℕ, length, subst, sym, arith}
use Rattle.std.proofs.lemmas.Bool.{eqb-true}
use Rattle.std.proofs.lemmas.List.{length-drop}
use Rattle.sample_view.specs.Words.{words}
use Rattle.base_outputs.proofs.OutputLaws.{Putting, putting_step, putting_end, puts_as}
use Rattle.pair_waves.specs.Frames.{interleaved}
use Rattle.pair_waves.proofs.FrameLaws.{interleaved-bytes, no_bytes}
use Rattle.pair_waves.proofs.frames.put_run.Goals as goal

pub loop-left_rest-preserved : goal.loop-left_rest-preserved
loop-left_rest-preserved g c =
    let left = c.loop-left_rest.left_rest.now in
    let right = c.loop-left_rest.right_rest.now in
    let kept = c.loop-left_rest.invariant in
    let size = c.min-size.ensures in
    let even : c.min-size.result % 2 ≡ 0 = omega (arith, size, kept.1) in
    rw (c.split_at.ensures.back, c.split_at-in-loop-left_rest.ensures.back) (
      omega (arith, kept.0, length-drop c.min-size.result left, length-drop c.min-size.result right),
      omega (arith, kept.1, even, length-drop c.min-size.result left, size),
      putting_step _ _ kept.2 (interleaved-bytes left right c.min-size.result even)
          (puts_as _ _ (c.as_slice.ensures.value ∙ c.fill_block.ensures
          ∙ (λ k. interleaved (words (c.split_at.ensures.front k)) (words (c.split_at-in-loop-left_rest.ensures.front k))))
          c.put.ensures),
    )

pub returns : goal.returns
returns g c =
    let left = c.loop-left_rest.left_rest.now in
    let right = c.loop-left_rest.right_rest.now in
    let empty : length left ≡ 0 = eqb-true (length left) 0 (sym c.is_empty.ensures ∙ c.loop-left_rest-test.false) in
    putting_end (subst (λ (rest : List ℕ). Putting g.W.Write.contents c.args.output.now c.loop-left_rest.output
    (interleaved (words c.args.left.now) (words c.args.right.now)) rest) (no_bytes left right empty)
    c.loop-left_rest.invariant.2)
