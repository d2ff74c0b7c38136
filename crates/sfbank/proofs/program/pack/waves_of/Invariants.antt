use Rattle.std.proofs.Common.{◌≡◌, map, take}
use Rattle.sfbank.specs.KitSteps.{FileRead, file_of}
use Rattle.sfbank.proofs.program.pack.waves_of.Given as goal

-- the bytes of the files so far
abbrev pub invariant-loop-file : goal.invariant-loop-file
invariant-loop-file l =
    map (λ wave. wave.now) l.waves.items ≡ map (λ (f : FileRead). f.bytes) (map file_of (take l.file-index l.files))
