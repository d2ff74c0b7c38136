use Rattle.std.proofs.lemmas.Result.{err_from_is_err_and}
use Rattle.sfbank.proofs.Faults.{at_bank, at_script, pool_fails}
use Rattle.sfbank.proofs.edited_bank.read_script.Goals as goal

pub returns-in_err-pool-in-Ok : goal.returns-in_err-pool-in-Ok
returns-in_err-pool-in-Ok c =
    let p = err_from_is_err_and c.from_residual.result c.from_residual.ensures.1 in
    let file = c.args.file.now in
    let script = c.args.script.now in
    let failure = c.in_err-pool-in-Ok.field-0.0 in
    rw (p.1, p.2)
    (λ forms. rw (at_bank forms file script c.in-Ok.bank c.in-Ok._counts c.in-Ok.ensures)
    (at_script forms c.in-Ok.bank script failure (pool_fails script failure c.in_err-pool-in-Ok.ensures)))
