use Rattle.edit_script.proofs.LineLaws.{printed}
use Rattle.edit_script.proofs.laws.printed_lines_spell.Goals as goal

pub returns : goal.returns
returns c = printed
