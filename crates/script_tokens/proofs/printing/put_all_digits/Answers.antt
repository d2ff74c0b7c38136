use Rattle.script_tokens.proofs.PrintLaws.{slices_on, slices_end}
use Rattle.script_tokens.proofs.printing.put_all_digits.Goals as goal

pub loop-bytes-preserved : goal.loop-bytes-preserved
loop-bytes-preserved g c =
    slices_on c.args.slices.now _ c.loop-bytes.bytes-index c.loop-bytes.invariant c.loop-bytes-test.true
    c.put_digits.ensures

pub returns : goal.returns
returns g c = slices_end c.args.slices.now c.loop-bytes.bytes-index c.loop-bytes.invariant c.loop-bytes-test.false
