use Rattle.std.proofs.Common.{refl}
use Rattle.sfbank.specs.Outcome.{play_outcome}
use Rattle.sfbank.proofs.RenderLaws.{fits_wave}
use Rattle.sfbank.specs.PlanParts.{Text}
use Rattle.sfbank.proofs.OutcomeLaws.{text_put, text_fails}
use Rattle.sfbank.proofs.program.play.put_sound.Goals as goal

pub new-requires : goal.new-requires
new-requires g c = rw c.as_slice.ensures.value (fits_wave c.in-Ok.frames.items c.in-Ok.ensures.fits)

pub returns-in-Ok : goal.returns-in-Ok
returns-in-Ok g c =
    text_put c.args.path.now _ (play_outcome c.args.file.now c.args.notes.now) _ _ _ c.put-ended.result
    c.in-Ok.ensures.outcome (rw (c.new.ensures, c.as_slice.ensures.value) at (c.put-ended.ensures (Text _) refl))

pub returns-in-Err : goal.returns-in-Err
returns-in-Err g c =
    text_fails _ _ _ c.args.path c.in-Err.fault (play_outcome c.args.file.now c.args.notes.now) c.in-Err.ensures.outcome
