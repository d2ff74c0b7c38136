use Rattle.std.proofs.Common.{refl}
use Rattle.live_sessions.proofs.RequestLaws.{does_without_output, does_equal}
use Rattle.live_sessions.proofs.requests.do_request.Goals as goal

pub returns-in-Edit-clause-done : goal.returns-in-Edit-clause-done
returns-in-Edit-clause-done g c =
    does_equal _ _ _ _ _ _ _ c.in-Edit.is (does_without_output _ _ _ _ _ _ c.edit.ensures refl (refl, refl))

pub returns-in-Neutral-clause-done : goal.returns-in-Neutral-clause-done
returns-in-Neutral-clause-done g c =
    does_equal _ _ _ _ _ _ _ c.in-Neutral.is (does_without_output _ _ _ _ _ _ c.neutral.ensures refl (refl, refl))

pub returns-in-Undo-clause-done : goal.returns-in-Undo-clause-done
returns-in-Undo-clause-done g c =
    does_equal _ _ _ _ _ _ _ c.in-Undo.is (does_without_output _ _ _ _ _ _ c.undo.ensures refl (refl, refl))

pub returns-in-Redo-clause-done : goal.returns-in-Redo-clause-done
returns-in-Redo-clause-done g c =
    does_equal _ _ _ _ _ _ _ c.in-Redo.is (does_without_output _ _ _ _ _ _ c.redo.ensures refl (refl, refl))

pub returns-in-Note-clause-done : goal.returns-in-Note-clause-done
returns-in-Note-clause-done g c =
    does_equal _ _ _ _ _ _ _ c.in-Note.is (does_without_output _ _ _ _ _ _ c.note.ensures refl (refl, refl))

pub returns-in-Press-clause-done : goal.returns-in-Press-clause-done
returns-in-Press-clause-done g c =
    does_equal _ _ _ _ _ _ _ c.in-Press.is (does_without_output _ _ _ _ _ _ c.press.ensures refl (refl, refl))

pub returns-in-Release-clause-done : goal.returns-in-Release-clause-done
returns-in-Release-clause-done g c =
    does_equal _ _ _ _ _ _ _ c.in-Release.is (does_without_output _ _ _ _ _ _ c.release.ensures refl (refl, refl))

pub returns-in-Silence-clause-done : goal.returns-in-Silence-clause-done
returns-in-Silence-clause-done g c =
    does_equal _ _ _ _ _ _ _ c.in-Silence.is (does_without_output _ _ _ _ _ _ c.silence.ensures refl (refl, refl))

pub returns-in-Show-clause-done : goal.returns-in-Show-clause-done
returns-in-Show-clause-done g c =
    does_equal _ _ _ _ _ _ _ c.in-Show.is (does_without_output _ _ _ _ _ _ refl refl (refl, refl))

pub returns-in-Help-clause-done : goal.returns-in-Help-clause-done
returns-in-Help-clause-done g c =
    does_equal _ _ _ _ _ _ _ c.in-Help.is (does_without_output _ _ _ _ _ _ refl refl (refl, refl))

pub returns-in-Quit-clause-done : goal.returns-in-Quit-clause-done
returns-in-Quit-clause-done g c =
    does_equal _ _ _ _ _ _ _ c.in-Quit.is (does_without_output _ _ _ _ _ _ refl refl (refl, refl))

pub returns-in-Pedal-clause-done : goal.returns-in-Pedal-clause-done
returns-in-Pedal-clause-done g c =
    does_equal _ _ _ _ _ _ _ c.in-Pedal.is (does_without_output _ _ _ _ _ _ c.move_pedal.ensures refl (refl, refl))

pub returns-in-Stop-clause-done : goal.returns-in-Stop-clause-done
returns-in-Stop-clause-done g c =
    does_equal _ _ _ _ _ _ _ c.in-Stop.is (does_without_output _ _ _ _ _ _ c.stop.ensures refl (refl, refl))

pub returns-in-Voices-clause-done : goal.returns-in-Voices-clause-done
returns-in-Voices-clause-done g c =
    does_equal _ _ _ _ _ _ _ c.in-Voices.is (does_without_output _ _ _ _ _ _ c.voices.ensures refl (refl, refl))

pub returns-in-Meter-clause-done : goal.returns-in-Meter-clause-done
returns-in-Meter-clause-done g c =
    does_equal _ _ _ _ _ _ _ c.in-Meter.is (does_without_output _ _ _ _ _ _ c.measure.ensures refl (refl, refl))
