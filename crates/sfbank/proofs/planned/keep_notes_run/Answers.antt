use Rattle.std.proofs.Common.{List, Ok, ap, sym, ◌∙◌}
use Rattle.script_notes.specs.Notes.{Numbers}
use Rattle.sfbank.specs.Purposes.{keeping_of, keeping_played}
use Rattle.sfbank.proofs.Restores.{are_bytes}
use Rattle.sfbank.proofs.KeptNotes.{keeps, notes_are_undone, notes_render_same}
use Rattle.sfbank.proofs.PlannedEdits.{run_fails}
use Rattle.sfbank.proofs.planned.keep_notes_run.Goals as goal

pub returns-in-Ok-clause-runs : goal.returns-in-Ok-clause-runs
returns-in-Ok-clause-runs g c =
    let file = c.args.file.now in
    let notes = c.args.notes.now in
    c.keep_notes.ensures (keeping_played c.args.zones file notes) file
    (keeps c.args.zones file notes c.in-Ok.bank c.in-Ok.played.items c.in-Ok.ensures.0 c.in-Ok.ensures.1
    ∙ ap (λ (ns : List Numbers). Ok (keeping_of c.args.zones ns)) (sym c.as_slice.ensures.value))
    c.in-Ok.ensures.0

pub returns-in-Err-clause-runs : goal.returns-in-Err-clause-runs
returns-in-Err-clause-runs g c =
    run_fails (Unit {0}) (keeping_played c.args.zones c.args.file.now c.args.notes.now) (g.W.Write.contents c.args.out.now)
    (g.V.Write.contents c.args.undo.now) c.args.file.now c.in-Err.fault (c.in-Err.ensures c.args.zones)

pub returns-in-Ok-clause-restores : goal.returns-in-Ok-clause-restores
returns-in-Ok-clause-restores g c =
    notes_are_undone c.args.zones c.args.file.now c.args.notes.now (are_bytes c.args.file.now c.type_inv.file)

pub returns-in-Err-clause-restores : goal.returns-in-Err-clause-restores
returns-in-Err-clause-restores g c =
    notes_are_undone c.args.zones c.args.file.now c.args.notes.now (are_bytes c.args.file.now c.type_inv.file)

pub returns-in-Ok-clause-renders : goal.returns-in-Ok-clause-renders
returns-in-Ok-clause-renders g c =
    notes_render_same c.args.zones c.args.file.now c.args.notes.now (are_bytes c.args.file.now c.type_inv.file)

pub returns-in-Err-clause-renders : goal.returns-in-Err-clause-renders
returns-in-Err-clause-renders g c =
    notes_render_same c.args.zones c.args.file.now c.args.notes.now (are_bytes c.args.file.now c.type_inv.file)
