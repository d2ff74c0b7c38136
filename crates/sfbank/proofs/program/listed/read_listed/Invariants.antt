use Rattle.std.proofs.Common.{◌≡◌, map, take}
use Rattle.std.specs.List.{AllZip}
use Rattle.sfbank.specs.KitSteps.{IsReadOf, entry_of, file_of}
use Rattle.sfbank.proofs.program.listed.read_listed.Given as goal

-- the recordings so far are read, and no file is changed
abbrev pub invariant-loop-entry : goal.invariant-loop-entry
invariant-loop-entry g l =
    AllZip (IsReadOf (g.H.Host.world l.initial.host)) (map entry_of (take l.entry-index l.entries)) (map file_of l.files.items)
    × (g.H.Host.world l.host ≡ g.H.Host.world l.initial.host)
