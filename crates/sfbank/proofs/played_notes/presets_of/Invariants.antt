use Rattle.std.proofs.Common.{◌≡◌, take}
use Rattle.sfbank.specs.Purposes.{presets_of}
use Rattle.sfbank.proofs.played_notes.presets_of.Given as goal

-- the presets so far are those of the notes so far
abbrev pub invariant-loop-note : goal.invariant-loop-note
invariant-loop-note l = l.presets.items ≡ presets_of (take l.note-index l.notes)
