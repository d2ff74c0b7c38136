use Rattle.std.proofs.Common.{◌≡◌, ◌++◌, map, take, drop}
use Rattle.mixer.specs.Pressed.{released_by}
use Rattle.mixer.proofs.playing.release_voices.Given as goal

abbrev pub invariant-loop-p : goal.invariant-loop-p
invariant-loop-p l = l.voices ≡ map (released_by l.fn.release) (take l.p-index l.fn.voices) ++ drop l.p-index l.fn.voices
