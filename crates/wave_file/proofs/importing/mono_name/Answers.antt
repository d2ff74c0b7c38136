use Rattle.wave_file.proofs.ImportLaws.{are_bytes, truncated_text}
use Rattle.wave_file.proofs.importing.mono_name.Goals as goal

pub name_of-requires : goal.name_of-requires
name_of-requires c =
    rw (c.before_zero.ensures, c.front_of.ensures)
    (truncated_text 20 c.args.name.now (are_bytes c.args.name.now c.type_inv.name))
