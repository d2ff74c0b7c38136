use Rattle.std.proofs.Common.{ap}
use Rattle.std.proofs.lemmas.Result.{err_from_is_err_and}
use Rattle.sfbank.specs.Folders.{lines_read}
use Rattle.sfbank.proofs.FolderRuns.{lines_fail}
use Rattle.sfbank.proofs.folders.text_lines.Goals as goal

pub returns-in_err-lines : goal.returns-in_err-lines
returns-in_err-lines c =
    let p = err_from_is_err_and c.from_residual.result c.from_residual.ensures.1 in
    rw (p.1, p.2) (lines_fail c.args.text.text.now c.in_err-lines.field-0.0 c.in_err-lines.ensures.parsed)

pub returns : goal.returns
returns c = ap lines_read c.in_ok-lines.ensures.parsed
