use Rattle.std.proofs.Common.{get_or}
use Rattle.byteorder.specs.Endian.{little_bytes}
use Rattle.base_outputs.proofs.OutputLaws.{puts_as, putting_member}
use Rattle.wave_file.proofs.sample.put_numbers.Goals as goal

pub loop-number-preserved : goal.loop-number-preserved
loop-number-preserved g c =
    let values = c.args.values.now in
    let i = c.loop-number.number-index in
    putting_member (little_bytes 4) values i 0 c.loop-number.invariant c.loop-number-test.true
    (puts_as _ (little_bytes 4 (get_or values i 0)) c.to_le_bytes.ensures c.put.ensures)
