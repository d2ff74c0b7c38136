-- Banks that give notes the same voices render them identically.
use Rattle.std.proofs.Common.{◌≡◌, ℕ, ◌+◌, ◌-◌, ◌*◌, ◌/◌, ℤ, pos, ◌+ℤ◌, Bool, cond, nat_le, ◌&&◌, ◌||◌, max, List}
use Rattle.std.proofs.Common.{[], ◌∷◌, map, refl, sym, ap, ◌∙◌}
use Rattle.std.specs.List.{range_with_len}
use Rattle.std.specs.List.Sorted.{IsPermutation}
use Rattle.std.proofs.lemmas.List.Sorted.{IsPermutation-refl, IsPermutation-trans, IsPermutation-map}
use Rattle.std.proofs.lemmas.List.Sorted.{list_any-IsPermutation}
use Rattle.bank_parts.specs.declared.parts.Parts.{Parts}
use Rattle.script_notes.specs.Notes.{Numbers}
use Rattle.zone_select.specs.Select.{selected}
use Rattle.zone_select.specs.Alike.{AreAlike}
use Rattle.voices.specs.Sound.{snd}
use Rattle.mixer.specs.declared.playing.PlayingVoice.{PlayingVoice}
use Rattle.mixer.specs.Sums.{sum_over}
use Rattle.mixer.specs.StartFrames.{Start, playing, note_voices, excludes, silences, is_silenced, voice_at, start_at, sum_at}
use Rattle.mixer.specs.StartFrames.{side_at, frames, clipped, is_left}
use Rattle.mixer.specs.Events.{Event, Edited, Started, Given, starts, given, heard, blocks}
use Rattle.mixer.specs.Render.{end_of, frame_count, silenced_from, note_with, note_at, notes_at, rendered_side, render}
use Rattle.mixer.specs.Alike.{AreAlikeFor, LeaveAlike, without_edits}
use Rattle.mixer.proofs.Sums.{sum_over-same}
use Rattle.mixer.proofs.Permuted.{sum_over-permuted, last_release-permuted}
use Rattle.mixer.proofs.EventLaws.{blocks_from, frames-same}

-- the voices of a note that are the same in both banks, in some order
abbrev SameVoices : Parts → Parts → Numbers → Type 0
SameVoices b c n = IsPermutation (selected b n) (selected c n)

note_voices-alike : (b c : Parts) (n : Numbers) → SameVoices b c n → IsPermutation (note_voices b n) (note_voices c n)
unfolding note_voices
note_voices-alike b c n h = IsPermutation-map (playing n) (selected b n) (selected c n) h

silences-permuted : (ps qs : List PlayingVoice) → IsPermutation ps qs → (p : PlayingVoice) → silences ps p ≡ silences qs p
unfolding silences
silences-permuted ps qs h p = list_any-IsPermutation (λ q. excludes q p) ps qs h

silences-alike : (b c : Parts) (n : Numbers) → SameVoices b c n → (p : PlayingVoice)
    → silences (note_voices b n) p ≡ silences (note_voices c n) p
silences-alike b c n h p = silences-permuted (note_voices b n) (note_voices c n) (note_voices-alike b c n h) p

-- functions that are equal at each element, and lists that are permutations
sum_over-alike : (f g : PlayingVoice → ℤ) (ps qs : List PlayingVoice) → ((p : PlayingVoice) → f p ≡ g p) → IsPermutation ps qs
    → sum_over f ps ≡ sum_over g qs
sum_over-alike f g ps qs e h = sum_over-same f g e ps ∙ sum_over-permuted g ps qs h

-- ---- notes

silenced_from-alike : (b c : Parts) (k t : ℕ) (q : PlayingVoice) (ms : List Numbers) → AreAlikeFor b c ms
    → silenced_from b k t q ms ≡ silenced_from c k t q ms
unfolding silenced_from
silenced_from-alike b c k t q [] h = refl
silenced_from-alike b c k t q (m ∷ ms) h =
    λ j.
    (nat_le k m.start && (nat_le m.start t && silences-alike b c m h.0 q j))
    || silenced_from-alike b c k t q ms h.1 j

note_with-alike : (b c : Parts) (quiet hushed : PlayingVoice → Bool) → ((p : PlayingVoice) → quiet p ≡ hushed p)
    → (n : Numbers) → SameVoices b c n → (left : Bool) (t : ℕ) → note_with b quiet n left t ≡ note_with c hushed n left t
unfolding note_with
note_with-alike b c quiet hushed e n h left t =
    ap (λ z. cond (nat_le n.start t) z (pos 0))
    (sum_over-alike
    (λ p. cond (quiet p) (pos 0) (snd p.voice.value left (p.voice.age + (t - n.start))))
    (λ p. cond (hushed p) (pos 0) (snd p.voice.value left (p.voice.age + (t - n.start))))
    (note_voices b n) (note_voices c n)
    (λ p. ap (λ q. cond q (pos 0) (snd p.voice.value left (p.voice.age + (t - n.start)))) (e p))
    (note_voices-alike b c n h))

notes_at-alike : (b c : Parts) (before ns : List Numbers) → AreAlikeFor b c before → AreAlikeFor b c ns
    → (left : Bool) (t : ℕ) → notes_at b before ns left t ≡ notes_at c before ns left t
unfolding notes_at note_at
notes_at-alike b c before [] g h left t = refl
notes_at-alike b c before (n ∷ after) g h left t =
    λ j. note_with-alike b c
    (λ p. silenced_from b (n.start + 1) t p before || silenced_from b n.start t p after)
    (λ p. silenced_from c (n.start + 1) t p before || silenced_from c n.start t p after)
    (λ p. λ i. silenced_from-alike b c (n.start + 1) t p before g i || silenced_from-alike b c n.start t p after h.1 i)
    n h.0 left t j
    +ℤ notes_at-alike b c (n ∷ before) after (h.0, g) h.1 left t j

end_of-alike : (b c : Parts) (n : Numbers) → SameVoices b c n → end_of b n ≡ end_of c n
unfolding end_of
end_of-alike b c n h = ap (λ r. n.start + n.length + r) (last_release-permuted (selected b n) (selected c n) h)

frame_count-alike : (b c : Parts) (ns : List Numbers) → AreAlikeFor b c ns → frame_count b ns ≡ frame_count c ns
unfolding frame_count
frame_count-alike b c [] h = refl
frame_count-alike b c (n ∷ ns) h = λ j. max (end_of-alike b c n h.0 j) (frame_count-alike b c ns h.1 j)

pub alike_notes_render : (b c : Parts) (ns : List Numbers) → AreAlikeFor b c ns → render b ns ≡ render c ns
unfolding render rendered_side
alike_notes_render b c ns h =
    λ j.
    map (λ i. clipped (notes_at-alike b c [] ns tt h (is_left i) (i / 2) j))
    (range_with_len 0 (2 * frame_count-alike b c ns h j))

alike_for : (b c : Parts) → AreAlike b c → (ns : List Numbers) → AreAlikeFor b c ns
alike_for b c h [] = tt
alike_for b c h (n ∷ ns) = (h n, alike_for b c h ns)

pub alike_render : (b c : Parts) → AreAlike b c → (ns : List Numbers) → render b ns ≡ render c ns
alike_render b c h ns = alike_notes_render b c ns (alike_for b c h ns)

-- ---- events

pub AreAlike-refl : (b : Parts) → AreAlike b b
AreAlike-refl b n = IsPermutation-refl (selected b n)

pub AreAlike-trans : (b c d : Parts) → AreAlike b c → AreAlike c d → AreAlike b d
AreAlike-trans b c d h g n = IsPermutation-trans (selected b n) (selected c n) (selected d n) (h n) (g n)

-- c is the bank with the edits, b the one without them
is_silenced-alike : (b c : Parts) → AreAlike b c → (es : List Event) → LeaveAlike c es → (from t : ℕ) (q : PlayingVoice)
    → is_silenced (starts c from es) t q ≡ is_silenced (starts b from (without_edits es)) t q
unfolding starts is_silenced without_edits
is_silenced-alike b c h [] g from t q = refl
is_silenced-alike b c h (Edited d ∷ es) g from t q = is_silenced-alike b d (AreAlike-trans b c d h g.0) es g.1 from t q
is_silenced-alike b c h (Started n ∷ es) g from t q =
    λ j.
    (nat_le from t && sym (silences-alike b c n (h n) q) j)
    || is_silenced-alike b c h es g from t q j
is_silenced-alike b c h (Given m ∷ es) g from t q = is_silenced-alike b c h es g (from + m) t q

-- a voice that played before the events
voice_at-alike : (b : Parts) (es : List Event) → LeaveAlike b es → (from t : ℕ) (left : Bool) (p : PlayingVoice)
    → voice_at (starts b from es) from left t p ≡ voice_at (starts b from (without_edits es)) from left t p
unfolding voice_at
voice_at-alike b es g from t left p =
    ap (λ x. cond x (pos 0) (snd p.voice.value left (p.voice.age + (t - from))))
    (is_silenced-alike b b (AreAlike-refl b) es g from t p)

sum_at-alike : (b c : Parts) → AreAlike b c → (es : List Event) → LeaveAlike c es → (from : ℕ) (left : Bool) (t : ℕ)
    → sum_at (starts c from es) left t ≡ sum_at (starts b from (without_edits es)) left t
unfolding starts sum_at start_at voice_at without_edits
sum_at-alike b c h [] g from left t = refl
sum_at-alike b c h (Edited d ∷ es) g from left t = sum_at-alike b d (AreAlike-trans b c d h g.0) es g.1 from left t
sum_at-alike b c h (Started n ∷ es) g from left t =
    let later : List Start = starts c from es in
    let others : List Start = starts b from (without_edits es) in
    let one : sum_over (voice_at later from left t) (note_voices c n) ≡ sum_over (voice_at others from left t) (note_voices b n) =
    sum_over-same (voice_at later from left t) (voice_at others from left t)
    (λ p.
    ap (λ x. cond x (pos 0) (snd p.voice.value left (p.voice.age + (t - from))))
    (is_silenced-alike b c h es g from t p))
    (note_voices c n)
    ∙ sym (sum_over-permuted (voice_at others from left t) (note_voices b n) (note_voices c n) (note_voices-alike b c n (h n))) in
    λ j. cond (nat_le from t) (one j) (pos 0) +ℤ sum_at-alike b c h es g from left t j
sum_at-alike b c h (Given m ∷ es) g from left t = sum_at-alike b c h es g (from + m) left t

pub given-without_edits : (es : List Event) → given es ≡ given (without_edits es)
unfolding given without_edits
given-without_edits [] = refl
given-without_edits (Edited d ∷ es) = given-without_edits es
given-without_edits (Started n ∷ es) = given-without_edits es
given-without_edits (Given m ∷ es) = ap (λ a. m + a) (given-without_edits es)

pub alike_heard : (b : Parts) (es : List Event) → LeaveAlike b es → heard b es ≡ heard b (without_edits es)
unfolding heard frames side_at
alike_heard b es g =
    λ j. map (λ i. clipped (sum_at-alike b b (AreAlike-refl b) es g 0 (is_left i) (0 + i / 2) j))
    (range_with_len 0 (2 * given-without_edits es j))

-- the voices of a player are a start before those of the events
joined-alike : (b : Parts) (ps : List PlayingVoice) (es : List Event) → LeaveAlike b es → (left : Bool) (t : ℕ)
    → sum_at (record { frame = 0; voices = ps } ∷ starts b 0 es) left t
    ≡ sum_at (record { frame = 0; voices = ps } ∷ starts b 0 (without_edits es)) left t
unfolding sum_at start_at
joined-alike b ps es g left t =
    λ j.
    cond (nat_le 0 t)
    (sum_over-same (voice_at (starts b 0 es) 0 left t) (voice_at (starts b 0 (without_edits es)) 0 left t)
    (voice_at-alike b es g 0 t left) ps j)
    (pos 0)
    +ℤ sum_at-alike b b (AreAlike-refl b) es g 0 left t j

pub alike_blocks : (b : Parts) (ps : List PlayingVoice) (es : List Event) → LeaveAlike b es
    → blocks b ps es ≡ blocks b ps (without_edits es)
alike_blocks b ps es g =
    let s : Start = record { frame = 0; voices = ps } in
    blocks_from b es ps 0
    ∙ frames-same (s ∷ starts b 0 es) (s ∷ starts b 0 (without_edits es)) 0
    (λ left t _. joined-alike b ps es g left t) (given es)
    ∙ ap (λ m. frames (s ∷ starts b 0 (without_edits es)) 0 m) (given-without_edits es)
    ∙ sym (blocks_from b (without_edits es) ps 0)
