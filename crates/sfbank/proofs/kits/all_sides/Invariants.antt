use Rattle.std.proofs.Common.{◌≡◌, map, take}
use Rattle.sfbank.specs.KitSteps.{sides_in}
use Rattle.sfbank.proofs.kits.all_sides.Given as goal

-- the sides of the recordings so far
abbrev pub invariant-loop-recording : goal.invariant-loop-recording
invariant-loop-recording l = l.sides.items ≡ map sides_in (take l.recording-index l.recordings)
