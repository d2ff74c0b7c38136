use Rattle.std.proofs.Common.{◌++◌, ℕ, List, arith, sym, ap, ◌∙◌}
use Rattle.std.proofs.lemmas.List.{append-nil}
use Rattle.sample_view.specs.Words.{words}
use Rattle.sample_view.proofs.WordLaws.{length-words}
use Rattle.pair_waves.proofs.FrameLaws.{frame_pushed, no_frames}
use Rattle.pair_waves.proofs.frames.fill_block.Goals as goal

pub loop-frame-preserved : goal.loop-frame-preserved
loop-frame-preserved c =
    let len = c.loop-frame.invariant.0 in (
      omega (
        arith,
        len,
        c.push.ensures.len,
        c.push-in-loop-frame.ensures.len,
        c.push-in-loop-frame-2.ensures.len,
        c.push-in-loop-frame-3.ensures.len,
      ),
      frame_pushed c.args.left.now c.args.right.now c.loop-frame.frame _ _ _ _ _ _ c.type_inv.left c.type_inv.right
          c.requires.same c.loop-frame-test.true c.push.ensures.items c.push-in-loop-frame.ensures.items
          c.push-in-loop-frame-2.ensures.items c.push-in-loop-frame-3.ensures.items c.loop-frame.invariant.1,
    )

pub returns : goal.returns
returns c =
    let left = c.args.left.now in
    let right = c.args.right.now in
    let frame = c.loop-frame.frame in
    let none = no_frames (words left) (words right) frame (omega (arith, length-words left, c.loop-frame-test.false)) in
    sym (append-nil c.loop-frame.block.items)
    ∙ ap (λ (bytes : List ℕ). c.loop-frame.block.items ++ bytes) (sym none) ∙ c.loop-frame.invariant.1
