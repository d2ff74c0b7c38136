-- All frames of a list of notes.
use Rattle.std.specs.Prelude.{◌≡◌, ◌≤◌, ◌%◌, length, ℕ, ◌+◌, ◌-◌, ◌*◌, ◌/◌, ℤ, pos, ◌+ℤ◌, Bool, cond, nat_le, max}
use Rattle.std.specs.Prelude.{◌&&◌, ◌||◌, List, [], ◌∷◌, map}
use Rattle.std.specs.List.{list_any, range_with_len}
use Rattle.bank_parts.specs.declared.parts.Parts.{Parts}
use Rattle.script_notes.specs.Notes.{Numbers}
use Rattle.zone_select.specs.Select.{Voice, selected}
use Rattle.voices.specs.Sound.{snd}
use Rattle.mixer.specs.declared.playing.PlayingVoice.{PlayingVoice}
use Rattle.mixer.specs.Sums.{sum_over}
use Rattle.mixer.specs.StartFrames.{note_voices, silences, clipped, is_left}

-- ---- how many frames there are

-- the longest release of voices; 0 for none
unfoldable pub last_release : List Voice → ℕ
last_release [] = 0
last_release (v ∷ vs) = max v.parameters.release (last_release vs)

-- the frame after a note's end, and after the longest release of its voices
unfoldable pub end_of : Parts → Numbers → ℕ
end_of b n = n.start + n.length + last_release (selected b n)

-- the last of these ends
unfoldable pub frame_count : Parts → List Numbers → ℕ
frame_count b [] = 0
frame_count b (n ∷ ns) = max (end_of b n) (frame_count b ns)

-- ---- the frames

-- one of the notes starts from frame k to frame t, and silences q
unfoldable pub silenced_from : Parts → ℕ → ℕ → PlayingVoice → List Numbers → Bool
silenced_from b k t q ms = list_any (λ m. nat_le k m.start && (nat_le m.start t && silences (note_voices b m) q)) ms

-- a note at frame t, without its `quiet` voices
unfoldable pub note_with : Parts → (PlayingVoice → Bool) → Numbers → Bool → ℕ → ℤ
note_with b quiet n left t =
    cond (nat_le n.start t)
    (sum_over (λ p. cond (quiet p) (pos 0) (snd p.voice.value left (p.voice.age + (t - n.start)))) (note_voices b n)) (pos 0)

-- a note among others: it is silenced by those that start later, and by those after it in the list that start with it
unfoldable pub note_at : Parts → List Numbers → List Numbers → Numbers → Bool → ℕ → ℤ
note_at b before after n left t =
    note_with b (λ p. silenced_from b (n.start + 1) t p before || silenced_from b n.start t p after) n left t

-- all notes of a list that follows others
unfoldable pub notes_at : Parts → List Numbers → List Numbers → Bool → ℕ → ℤ
notes_at b before [] left t = pos 0
notes_at b before (n ∷ after) left t = note_at b before after n left t +ℤ notes_at b (n ∷ before) after left t

-- value i of the frames: the sum of all notes, clipped once
unfoldable pub rendered_side : Parts → List Numbers → ℕ → ℤ
rendered_side b ns i = clipped (notes_at b [] ns (is_left i) (i / 2))

-- the first m frames of notes in any order, left and right interleaved
abbrev pub first_frames : Parts → List Numbers → ℕ → List ℤ
first_frames b ns m = map (rendered_side b ns) (range_with_len 0 (2 * m))

-- all of them
unfoldable pub render : Parts → List Numbers → List ℤ
render b ns = first_frames b ns (frame_count b ns)

-- ---- how many that can be

-- whole frames, at most as many as notes that end by frame 100,000,000 need with the longest release
pub record IsRendered (sides : List ℤ) : Type 0 where
  pub whole : length sides % 2 ≡ 0
  pub bound : length sides ≤ 208960568
