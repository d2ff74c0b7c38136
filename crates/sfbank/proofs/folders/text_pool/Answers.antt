use Rattle.std.proofs.lemmas.Result.{err_from_is_err_and}
use Rattle.sfbank.proofs.Faults.{pool_fails}
use Rattle.sfbank.proofs.FolderRuns.{lines_fail}
use Rattle.sfbank.proofs.folders.text_pool.Goals as goal

pub returns-in_err-pool : goal.returns-in_err-pool
returns-in_err-pool c =
    let p = err_from_is_err_and c.from_residual.result c.from_residual.ensures.1 in
    let text = c.args.text.now in
    let failure = c.in_err-pool.field-0.0 in
    rw (p.1, p.2) (lines_fail text failure (pool_fails text failure c.in_err-pool.ensures))
