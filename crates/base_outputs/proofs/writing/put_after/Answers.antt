use Rattle.std.proofs.Common.{arith}
use Rattle.std.proofs.lemmas.List.{length-drop, take_rest}
use Rattle.base_outputs.proofs.WrittenParts.{Appends-take}
use Rattle.base_outputs.proofs.writing.put_after.Goals as goal

pub loop-at-preserved : goal.loop-at-preserved
loop-at-preserved g c =
    let written = rw (take_rest c.args.bytes.now c.loop-at.at) at c.in-Ok.ensures.bytes in
    let bound = c.in-Ok.ensures.bound in record {
      within = omega (arith, bound, length-drop c.loop-at.at c.args.bytes.now);
      out = Appends-take _ _ _ _ _ _ c.loop-at.invariant.out written;
    }
