-- Presets that give each note the same voices render all notes identically.
use Rattle.std.proofs.Common.{◌≡◌, ℕ, ◌+◌, ◌-◌, ◌*◌, ◌/◌, ℤ, pos, ◌+ℤ◌, Bool, cond, nat_le, nat_eq, ◌&&◌, ◌||◌}
use Rattle.std.proofs.Common.{max, None, List, [], ◌∷◌, map, refl, sym, ap, ◌∙◌, eq-eqb}
use Rattle.std.specs.Prelude.{not}
use Rattle.std.specs.Ordering.{int_eq}
use Rattle.std.specs.List.{range_with_len}
use Rattle.bank_parts.specs.declared.parts.Parts.{Parts}
use Rattle.script_notes.specs.Notes.{Numbers}
use Rattle.zone_select.specs.Select.{Voice, selected}
use Rattle.voices.specs.Sound.{snd}
use Rattle.mixer.specs.declared.playing.PlayingVoice.{PlayingVoice}
use Rattle.mixer.specs.Sums.{sum_over}
use Rattle.mixer.specs.StartFrames.{playing, note_voices, excludes, silences, clipped, is_left}
use Rattle.mixer.specs.Render.{last_release, end_of, frame_count, silenced_from, note_with, note_at, notes_at}
use Rattle.mixer.specs.Render.{rendered_side, render}
use Rattle.mixer.proofs.Sums.{sum_over-map, sum_over-same}
use Rattle.plan_presets.specs.declared.numbers.PresetNumbers.{PresetNumbers}
use Rattle.plan_take.specs.Taking.{on_preset}

-- a voice of a note on the preset with these numbers, at its first frame
abbrev made : PresetNumbers → Voice → PlayingVoice
made k v = record { voice = record { value = v; age = 0 }; bank = k.bank; number = k.number; handle = None }

-- voices of one preset may exclude each other, whatever its numbers
excludes_same : (k l : PresetNumbers) (v w : Voice) → excludes (made k v) (made k w) ≡ excludes (made l v) (made l w)
unfolding excludes
excludes_same k l v w =
    let bank : nat_eq k.bank k.bank ≡ nat_eq l.bank l.bank =
    eq-eqb k.bank k.bank refl ∙ sym (eq-eqb l.bank l.bank refl) in
    let number : nat_eq k.number k.number ≡ nat_eq l.number l.number =
    eq-eqb k.number k.number refl ∙ sym (eq-eqb l.number l.number refl) in
    λ i.
    not (int_eq v.parameters.class (pos 0))
    && (int_eq v.parameters.class w.parameters.class && (bank i && number i))

silences_same : (k l : PresetNumbers) (vs : List Voice) (w : Voice)
    → silences (map (made k) vs) (made k w) ≡ silences (map (made l) vs) (made l w)
unfolding silences
silences_same k l [] w = refl
silences_same k l (v ∷ vs) w = λ i. excludes_same k l v w i || silences_same k l vs w i

-- ---- banks b and c with the same voices on the preset k and on the preset l

module _ (b c : Parts) (k l : PresetNumbers)
    (h : (n : Numbers) → selected b (on_preset k n) ≡ selected c (on_preset l n)) where
  silenced_same : (j t : ℕ) (w : Voice) (ms : List Numbers)
      → silenced_from b j t (made k w) (map (on_preset k) ms) ≡ silenced_from c j t (made l w) (map (on_preset l) ms)
  unfolding silenced_from note_voices playing
  silenced_same j t w [] = refl
  silenced_same j t w (m ∷ ms) =
      let one : silences (map (made k) (selected b (on_preset k m))) (made k w)
      ≡ silences (map (made l) (selected c (on_preset l m))) (made l w) =
      silences_same k l (selected b (on_preset k m)) w
      ∙ ap (λ vs. silences (map (made l) vs) (made l w)) (h m) in
      λ i. (nat_le j m.start && (nat_le m.start t && one i)) || silenced_same j t w ms i

  note_same : (quiet hushed : PlayingVoice → Bool) → ((w : Voice) → quiet (made k w) ≡ hushed (made l w)) → (n : Numbers)
      (left : Bool) (t : ℕ) → note_with b quiet (on_preset k n) left t ≡ note_with c hushed (on_preset l n) left t
  unfolding note_with note_voices playing
  note_same quiet hushed e n left t =
      let f : PlayingVoice → ℤ = λ p. cond (quiet p) (pos 0) (snd p.voice.value left (p.voice.age + (t - n.start))) in
      let g : PlayingVoice → ℤ = λ p. cond (hushed p) (pos 0) (snd p.voice.value left (p.voice.age + (t - n.start))) in
      ap (λ z. cond (nat_le n.start t) z (pos 0))
      (sum_over-map f (made k) (selected b (on_preset k n))
      ∙ sum_over-same (λ w. f (made k w)) (λ w. g (made l w))
      (λ w. ap (λ q. cond q (pos 0) (snd w left (0 + (t - n.start)))) (e w)) (selected b (on_preset k n))
      ∙ ap (sum_over (λ w. g (made l w))) (h n)
      ∙ sym (sum_over-map g (made l) (selected c (on_preset l n))))

  notes_same : (before ns : List Numbers) (left : Bool) (t : ℕ)
      → notes_at b (map (on_preset k) before) (map (on_preset k) ns) left t
      ≡ notes_at c (map (on_preset l) before) (map (on_preset l) ns) left t
  unfolding notes_at note_at
  notes_same before [] left t = refl
  notes_same before (n ∷ after) left t =
      let one = note_same
      (λ p. silenced_from b (n.start + 1) t p (map (on_preset k) before) || silenced_from b n.start t p (map (on_preset k) after))
      (λ p. silenced_from c (n.start + 1) t p (map (on_preset l) before) || silenced_from c n.start t p (map (on_preset l) after))
      (λ w. λ i. silenced_same (n.start + 1) t w before i || silenced_same n.start t w after i) n left t in
      λ i. one i +ℤ notes_same (n ∷ before) after left t i

  count_same : (ns : List Numbers) → frame_count b (map (on_preset k) ns) ≡ frame_count c (map (on_preset l) ns)
  unfolding frame_count end_of
  count_same [] = refl
  count_same (n ∷ ns) = λ i. max (n.start + n.length + last_release (h n i)) (count_same ns i)

  pub same_render : (ns : List Numbers) → render b (map (on_preset k) ns) ≡ render c (map (on_preset l) ns)
  unfolding render rendered_side
  same_render ns =
      λ j.
      map (λ i. clipped (notes_same [] ns (is_left i) (i / 2) j)) (range_with_len 0 (2 * count_same ns j))
