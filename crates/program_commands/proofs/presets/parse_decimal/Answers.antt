use Rattle.program_commands.proofs.PresetLaws.{decimal_read}
use Rattle.program_commands.proofs.presets.parse_decimal.Goals as goal

pub returns : goal.returns
returns c = rw c.ok.ensures.value (decimal_read 16 c.args.text.now c.parse.result c.parse.ensures.value.0)
