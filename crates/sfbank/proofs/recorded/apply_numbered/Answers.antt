use Rattle.std.proofs.Common.{List, ap, ◌∙◌, sym, Ok}
use Rattle.std.proofs.lemmas.Result.{err_from_is_err_and}
use Rattle.edit_script.specs.declared.parsing.Line.{Line}
use Rattle.sfbank.specs.Outcome.{after_script}
use Rattle.sfbank.proofs.Faults.{stops_at, applied_done}
use Rattle.sfbank.proofs.recorded.apply_numbered.Goals as goal

pub returns-in_err-lines : goal.returns-in_err-lines
returns-in_err-lines c =
    let p = err_from_is_err_and c.from_residual.result c.from_residual.ensures.1 in rw (p.1, p.2) tt

pub returns-in_err-undo : goal.returns-in_err-undo
returns-in_err-undo c =
    let p = err_from_is_err_and c.from_residual-in_err-undo.result c.from_residual-in_err-undo.ensures.1 in
    rw (p.1, p.2, ← c.in_ok-lines.ensures)
    (stops_at c.args.bank c.in_ok-lines.lines.items c.in_err-undo.field-0.0 c.in_err-undo.ensures.applied)

pub returns : goal.returns
returns c =
    ap (λ (lines : List Line). after_script c.args.bank (Ok lines)) (sym c.in_ok-lines.ensures)
    ∙ applied_done c.args.bank c.apply_all.new.bank c.in_ok-lines.lines.items c.in_ok-undo.undo.items
    c.in_ok-undo.ensures.applied
