use Rattle.wave_file.specs.Wave.{wave}
use Rattle.sfbank.specs.Outcome.{play_outcome}
use Rattle.sfbank.proofs.Restores.{are_bytes}
use Rattle.sfbank.proofs.OneText.{runs_one_text, one_text_fails}
use Rattle.sfbank.proofs.RenderLaws.{fits_wave, canon_renders_same}
use Rattle.sfbank.proofs.play.play_run_with_progress.Goals as goal

pub new-requires : goal.new-requires
new-requires g c = rw c.as_slice.ensures.value (fits_wave c.in-Ok.frames.items c.in-Ok.ensures.fits)

pub returns-in-Ok-clause-runs : goal.returns-in-Ok-clause-runs
returns-in-Ok-clause-runs g c =
    runs_one_text _ _ (play_outcome c.args.file.now c.args.notes.now) (wave c.in-Ok.frames.items) c.write_one.result
    c.in-Ok.ensures.outcome (rw (c.new.ensures, c.as_slice.ensures.value) at c.write_one.ensures)

pub returns-in-Err-clause-runs : goal.returns-in-Err-clause-runs
returns-in-Err-clause-runs g c =
    one_text_fails (Unit {0}) _ (play_outcome c.args.file.now c.args.notes.now) c.in-Err.fault c.in-Err.ensures.outcome

pub returns-in-Ok-clause-canon : goal.returns-in-Ok-clause-canon
returns-in-Ok-clause-canon g c =
    canon_renders_same c.args.file.now c.args.notes.now (are_bytes c.args.file.now c.type_inv.file)

pub returns-in-Err-clause-canon : goal.returns-in-Err-clause-canon
returns-in-Err-clause-canon g c =
    canon_renders_same c.args.file.now c.args.notes.now (are_bytes c.args.file.now c.type_inv.file)
