use Rattle.std.proofs.Common.{◌≡◌, map, take}
use Rattle.sfbank.specs.Kits.{source_of}
use Rattle.sfbank.specs.KitSteps.{file_of, source_read}
use Rattle.sfbank.proofs.program.listed.kit_waves.Given as goal

-- the recordings so far
abbrev pub invariant-loop-file : goal.invariant-loop-file
invariant-loop-file l = map source_of l.sources.items ≡ map source_read (map file_of (take l.file-index l.files))
