-- Notes sorted by start.
use Rattle.std.specs.Prelude.{◌≡◌, ℕ, ◌≤◌, Bool, cond, nat_le, ℤ, List, [], ◌∷◌, map}
use Rattle.bank_parts.specs.declared.parts.Parts.{Parts}
use Rattle.script_notes.specs.Notes.{Numbers}
use Rattle.mixer.specs.StartFrames.{Start, note_voices, sum_at, frames}
use Rattle.mixer.specs.Render.{notes_at}

-- a note inserted before those that start no earlier
unfoldable pub placed : Numbers → List Numbers → List Numbers
placed n [] = n ∷ []
placed n (m ∷ ms) = cond (nat_le n.start m.start) (n ∷ m ∷ ms) (m ∷ placed n ms)

-- notes sorted by start; equal starts keep their order
unfoldable pub in_order : List Numbers → List Numbers
in_order [] = []
in_order (n ∷ ns) = placed n (in_order ns)

unfoldable pub start_of : Parts → Numbers → Start
start_of b n = record { frame = n.start; voices = note_voices b n }

-- m frames of sorted notes
unfoldable pub frames_of : Parts → List Numbers → ℕ → List ℤ
frames_of b ns m = frames (map (start_of b) ns) 0 m

-- the notes are sorted by start, the first at frame t or later
abbrev pub IsRising : ℕ → List Numbers → Type 0
IsRising t [] = Unit {0}
IsRising t (n ∷ ns) = (t ≤ n.start) × IsRising n.start ns

-- each note starts at frame m or earlier
abbrev pub StartWithin : ℕ → List Numbers → Type 0
StartWithin m [] = Unit {0}
StartWithin m (n ∷ ns) = (n.start ≤ m) × StartWithin m ns

-- sorting notes by start doesn't change the sum of their voices
abbrev pub OrderIsFree : Type 0
OrderIsFree =
    (b : Parts) (ns : List Numbers) (left : Bool) (t : ℕ)
    → sum_at (map (start_of b) (in_order ns)) left t ≡ notes_at b [] ns left t
