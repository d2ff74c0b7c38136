use Rattle.wave_file.proofs.ImportLaws.{name_ok}
use Rattle.wave_file.proofs.importing.name_of.Goals as goal

pub unwrap-requires : goal.unwrap-requires
unwrap-requires c =
    name_ok c.args.text.now c.from_bytes.result c.requires c.from_bytes.ensures.too_long
    c.from_bytes.ensures.zero_byte
