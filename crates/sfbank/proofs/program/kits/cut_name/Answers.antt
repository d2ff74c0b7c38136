use Rattle.wave_file.proofs.ImportLaws.{name_ok, truncated_text}
use Rattle.sfbank.proofs.Restores.{are_bytes}
use Rattle.sfbank.proofs.program.kits.cut_name.Goals as goal

pub unwrap-requires : goal.unwrap-requires
unwrap-requires c =
    name_ok c.before_zero.result.now c.from_bytes.result
    (rw (c.before_zero.ensures, c.front_of.ensures)
    (truncated_text 20 c.args.stem.now (are_bytes c.args.stem.now c.type_inv.stem))) c.from_bytes.ensures.too_long
    c.from_bytes.ensures.zero_byte
