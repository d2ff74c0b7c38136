use Rattle.std.proofs.Common.{append_assoc, rules, FitsSigned}
use Rattle.std.specs.Int.{w8}
use Rattle.std.proofs.lemmas.Int.{to_z-of_z}
use Rattle.hydra_records.specs.Encoding.{sample_head_bytes}
use Rattle.hydra_records.proofs.head.SampleHeadEncoded46.put.Goals as goal

pub returns : goal.returns
unfolding sample_head_bytes
returns c =
    let fits : FitsSigned w8 c.args.self.now.correction = search rules in
    simp (
      c.whole.ensures,
      c.with_u16-2.ensures.value,
      c.with_u16.ensures.value,
      c.with_u8-2.ensures.value,
      c.cast_unsigned.ensures,
      c.with_u8.ensures.value,
      c.with_u32-5.ensures.value,
      c.with_u32-4.ensures.value,
      c.with_u32-3.ensures.value,
      c.with_u32-2.ensures.value,
      c.with_u32.ensures.value,
      c.with_bytes.ensures.value,
      c.new.ensures,
      to_z-of_z,
      append_assoc,
    )
