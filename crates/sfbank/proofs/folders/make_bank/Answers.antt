use Rattle.std.proofs.lemmas.Result.{err_from_is_err_and}
use Rattle.sfbank.proofs.FolderRuns.{bank_made, not_made}
use Rattle.sfbank.proofs.folders.make_bank.Goals as goal

pub returns-in_err-bank : goal.returns-in_err-bank
returns-in_err-bank c =
    let p = err_from_is_err_and c.from_residual.result c.from_residual.ensures.1 in rw (p.1, p.2) tt

pub returns-in_err-undo : goal.returns-in_err-undo
returns-in_err-undo c =
    let p = err_from_is_err_and c.from_residual-in_err-undo.result c.from_residual-in_err-undo.ensures.1 in
    rw (p.1, p.2)
    (not_made c.args.minor c.args.lines.items c.in_err-undo.field-0.0
    (rw c.in_ok-bank.ensures at c.in_err-undo.ensures.applied))

pub returns : goal.returns
returns c =
    bank_made c.args.minor c.apply_all.new.bank c.args.lines.items c.in_ok-undo.undo.items
    (rw c.in_ok-bank.ensures at c.in_ok-undo.ensures.applied)
