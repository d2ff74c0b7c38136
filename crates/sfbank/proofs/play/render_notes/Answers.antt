use Rattle.std.proofs.Common.{Ok, sym, ap, ◌∙◌}
use Rattle.std.proofs.lemmas.Result.{err_from_is_err_and}
use Rattle.sfbank.proofs.RenderLaws.{played, notes_fail}
use Rattle.sfbank.proofs.CommandLaws.{play_fails}
use Rattle.sfbank.proofs.play.render_notes.Goals as goal

pub returns-in_err-notes-in-Ok-clause-outcome : goal.returns-in_err-notes-in-Ok-clause-outcome
returns-in_err-notes-in-Ok-clause-outcome g c =
    let p = err_from_is_err_and c.from_residual.result c.from_residual.ensures.1 in
    rw (p.1, p.2)
    (notes_fail c.in_err-notes-in-Ok.field-0.0 c.args.file.now c.args.notes.now c.in-Ok.bank c.in-Ok._counts c.in-Ok.ensures
    c.in_err-notes-in-Ok.ensures.parsed)

pub returns-in-Err-clause-outcome : goal.returns-in-Err-clause-outcome
returns-in-Err-clause-outcome g c =
    play_fails (λ both. both) c.in-Err.fault c.args.file.now c.args.notes.now c.in-Err.ensures

pub returns-in_ok-render_with_progress-in-Ok-clause-outcome : goal.returns-in_ok-render_with_progress-in-Ok-clause-outcome
returns-in_ok-render_with_progress-in-Ok-clause-outcome g c =
    played c.args.file.now c.args.notes.now c.in-Ok.bank c.in-Ok._counts c.as_slice.result.now
    c.in_ok-render_with_progress-in-Ok.field-0.items c.in-Ok.ensures
    (c.in_ok-notes-in-Ok.ensures.parsed ∙ ap Ok (sym c.as_slice.ensures.value))
    c.in_ok-render_with_progress-in-Ok.ensures.value
