use Rattle.std.proofs.lemmas.Result.{err_from_is_err_and}
use Rattle.sfbank.proofs.OneText.{canon_not_read, canon_runs, empty_edit, fixed}
use Rattle.sfbank.proofs.Restores.{are_bytes}
use Rattle.sfbank.proofs.canon.canon_run.Goals as goal

pub returns-in_err-bank-clause-runs : goal.returns-in_err-bank-clause-runs
returns-in_err-bank-clause-runs g c =
    let p = err_from_is_err_and c.from_residual.result c.from_residual.ensures.1 in
    rw (p.1, p.2)
    (canon_not_read (Unit {0}) c.in_err-bank.field-0.0 (g.W.Write.contents c.args.out.now) c.args.file.now
    c.in_err-bank.ensures.err)

pub returns-in_err-bank-clause-edit : goal.returns-in_err-bank-clause-edit
returns-in_err-bank-clause-edit g c = empty_edit c.args.file.now

pub returns-in_err-bank-clause-fixed : goal.returns-in_err-bank-clause-fixed
returns-in_err-bank-clause-fixed g c = fixed c.args.file.now (are_bytes c.args.file.now c.type_inv.file)

pub returns-clause-runs : goal.returns-clause-runs
returns-clause-runs g c =
    canon_runs _ _ c.args.file.now c.in_ok-bank.bank c.in_ok-bank._counts c.write_one.result
    c.in_ok-bank.ensures.ok c.write_one.ensures

pub returns-clause-edit : goal.returns-clause-edit
returns-clause-edit g c = empty_edit c.args.file.now

pub returns-clause-fixed : goal.returns-clause-fixed
returns-clause-fixed g c = fixed c.args.file.now (are_bytes c.args.file.now c.type_inv.file)
