-- A pair is among the pairs of a note exactly if it has a voice.
use Rattle.std.specs.Prelude.{◌↔◌, ℕ, IsSome}
use Rattle.std.specs.List.{Contains}
use Rattle.script_notes.specs.Notes.{Numbers}
use Rattle.bank_parts.specs.declared.parts.Parts.{Parts}
use Rattle.bank_parts.specs.Valid.{IsValid}
use Rattle.zone_select.specs.Pairs.{pairs, selected_pair, voice_by}

-- both its zones exist and contain the note
abbrev pub PairsAreSelected : Type 0
PairsAreSelected = (b : Parts) (n : Numbers) (q : ℕ × ℕ) → Contains (pairs b n) q ↔ IsSome (selected_pair b n q)

-- in a valid bank the sample exists too
abbrev pub PairsHaveVoices : Type 0
PairsHaveVoices = (b : Parts) (n : Numbers) (q : ℕ × ℕ) → IsValid b → Contains (pairs b n) q ↔ IsSome (voice_by b n q)
