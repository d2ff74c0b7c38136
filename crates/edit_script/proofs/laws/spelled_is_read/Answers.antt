use Rattle.edit_script.proofs.CompletenessLaws.{spelled_read}
use Rattle.edit_script.proofs.ReadLaws.{read_spelled}
use Rattle.edit_script.proofs.laws.spelled_is_read.Goals as goal

pub returns : goal.returns
returns c text lines = (spelled_read text lines, read_spelled text lines)
