use Rattle.std.proofs.Common.{◌≡◌, ◌++◌, map, take, drop}
use Rattle.mixer.specs.Pressed.{with_handle}
use Rattle.mixer.proofs.playing.set_handles.Given as goal

abbrev pub invariant-loop-p : goal.invariant-loop-p
invariant-loop-p l = l.voices ≡ map (with_handle l.fn.handle) (take l.p-index l.fn.voices) ++ drop l.p-index l.fn.voices
