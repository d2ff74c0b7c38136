use Rattle.std.proofs.Common.{◌∙◌}
use Rattle.live_lines.proofs.PathLaws.{text_path, is_no_text}
use Rattle.live_lines.proofs.paths.FilePath.of.Goals as goal

pub returns-in-Ok : goal.returns-in-Ok
returns-in-Ok c = c.without_controls.ensures ∙ text_path _ _ c.in-Ok.ensures.cases.0 c.in-Ok.ensures.cases.1

pub returns-in-Err : goal.returns-in-Err
returns-in-Err c = is_no_text _ c.in-Err.ensures.cases.0
