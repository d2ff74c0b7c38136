use Rattle.std.proofs.Common.{◌≡◌, ◌+◌, length, map, suc}
use Rattle.sfbank.specs.Kits.{bare, recordings_from, recordings_in, source_of}
use Rattle.sfbank.proofs.KitRuns.{joined}
use Rattle.sfbank.proofs.kits.read_recordings.Given as goal

-- the recordings so far, followed by the others, are all
abbrev pub invariant-loop-wave : goal.invariant-loop-wave
invariant-loop-wave l =
    (l.number + length l.wave-iterator.rest.items ≡ length l.fn.waves.items)
    × (recordings_in l.options (map source_of l.fn.waves.items)
    ≡ joined (map bare l.recordings.items)
    (recordings_from (suc l.number) l.options (map source_of l.wave-iterator.rest.items)))
