-- The voice of a pair of zones at its first frame, and why it isn't started.
use Rattle.std.specs.Prelude.{ℕ, ◌≡◌, Option, None, IsSome}
use Rattle.std.specs.Option.{option_map}
use Rattle.script_notes.specs.Notes.{Numbers}
use Rattle.bank_parts.specs.declared.parts.Parts.{Parts}
use Rattle.zone_select.specs.Select.{Voice}
use Rattle.zone_select.specs.Pairs.{voice_by}
use Rattle.voices.specs.declared.start.VoiceFault.{VoiceFault}
use Rattle.voices.specs.declared.start.VoiceFault.TheVariants.{NoMatch, OutOfMemory}
use Rattle.voices.specs.Sound.{Live}

-- a voice at its first frame
abbrev pub at_first_frame : Voice → Live
at_first_frame v = record { value = v; age = 0 }

-- the voice of a pair, if the note selects the pair
abbrev pub started : Parts → Numbers → ℕ × ℕ → Option Live
started b n q = option_map at_first_frame (voice_by b n q)

-- `NoMatch`: the note doesn't select the pair; `OutOfMemory` is only returned where it does
abbrev pub IsStartFault : Option Live → VoiceFault → Type 0
IsStartFault voice NoMatch = voice ≡ None
IsStartFault voice OutOfMemory = IsSome voice
