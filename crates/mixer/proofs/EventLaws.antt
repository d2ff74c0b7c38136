-- A player's blocks are the frames of its note starts.
use Rattle.std.proofs.Common.{◌≡◌, ℕ, ◌+◌, ◌-◌, ◌*◌, ◌/◌, ◌<◌, ◌≤◌, ℤ, pos, ◌+ℤ◌, Bool, true, false, cond, not}
use Rattle.std.proofs.Common.{nat_le, ◌||◌, ◌&&◌, List, [], ◌∷◌, ◌++◌, map, filter, refl, sym, ap, subst, ◌∙◌, arith}
use Rattle.std.proofs.Common.{add_assoc, nat_eq, ◌%◌}
use Rattle.std.specs.List.{range_with_len}
use Rattle.std.proofs.lemmas.Bool.{not-false}
use Rattle.std.proofs.lemmas.Bool.Decides.{nat_tests}
use Rattle.voices.specs.Sound.{snd, unpanned_frame_at, part_of}
use Rattle.voices.specs.Panning.{side}
use Rattle.voices.specs.Position.{is_over}
use Rattle.voices.proofs.OverLaws.{over_stays}
use Rattle.bank_parts.specs.declared.parts.Parts.{Parts}
use Rattle.zone_select.specs.declared.parameters.VoiceParameters.{VoiceParameters}
use Rattle.mixer.specs.declared.playing.PlayingVoice.{PlayingVoice}
use Rattle.mixer.specs.Sums.{sum_over}
use Rattle.mixer.specs.StartFrames.{Start, note_voices, excludes, silences, is_silenced, voice_at, start_at, sum_at, side_at}
use Rattle.mixer.specs.StartFrames.{frames, clipped, is_left}
use Rattle.mixer.specs.Events.{Event, Edited, Started, Given, starts, given, heard, is_sounding, unsilenced}
use Rattle.mixer.specs.Events.{after_start, aged, after_block, total_at, next_side, block, blocks}
use Rattle.mixer.proofs.Ranges.{map_range-same, map_range-split}
use Rattle.mixer.proofs.Sums.{zero-add_z, add_z-zero, add_z-assoc, sum_over-append, sum_over-same, sum_over-map, sum_over-kept}

-- a voice that is over is silent from then on
pub over_is_silent : (p : PlayingVoice) (left : Bool) (u : ℕ) → is_sounding p ≡ false
    → snd p.voice.value left (p.voice.age + u) ≡ pos 0
unfolding is_sounding snd
over_is_silent p left u h =
    let v : VoiceParameters = p.voice.value.parameters in
    let now : is_over v p.voice.age ≡ true = not-false (is_over v p.voice.age) h in
    ap (λ (b : Bool). cond b (pos 0) (side (unpanned_frame_at p.voice.value (p.voice.age + u)) (part_of v left)))
    (over_stays v p.voice.age (p.voice.age + u) (omega arith) now)

-- the same at frame t, whatever silences it
over_at : (later : List Start) (from t : ℕ) (left : Bool) (p : PlayingVoice) → is_sounding p ≡ false
    → voice_at later from left t p ≡ pos 0
unfolding voice_at
over_at later from t left p h =
    let P : Bool → Type 0 = λ b. cond b (pos 0) (snd p.voice.value left (p.voice.age + (t - from))) ≡ pos 0 in
    let at : (b : Bool) → P b = elim [ true ↦ refl | false ↦ over_is_silent p left (t - from) h ] in
    at (is_silenced later t p)

-- after a block, the same voice is m frames older
older : (later : List Start) (from m t : ℕ) (left : Bool) → from + m ≤ t → (p : PlayingVoice)
    → voice_at later (from + m) left t (aged m p) ≡ voice_at later from left t p
unfolding voice_at aged is_silenced silences excludes
older later from m t left h p =
    let e : p.voice.age + m + (t - (from + m)) ≡ p.voice.age + (t - from) = omega arith in
    ap (λ (a : ℕ). cond (is_silenced later t p) (pos 0) (snd p.voice.value left a)) e

-- a voice before later starts, the first of which is at `from`
next_silences : (later : List Start) (new : List PlayingVoice) (from t : ℕ) (left : Bool) → from ≤ t → (p : PlayingVoice)
    → voice_at (record { frame = from; voices = new } ∷ later) from left t p
    ≡ cond (not (silences new p)) (voice_at later from left t p) (pos 0)
unfolding voice_at is_silenced
next_silences later new from t left h p =
    let now : nat_le from t ≡ true = grind (arith, nat_tests) in
    let sound : ℤ = snd p.voice.value left (p.voice.age + (t - from)) in
    let P : Bool → Type 0 =
    λ b.
    cond ((b && silences new p) || is_silenced later t p) (pos 0) sound
    ≡ cond (not (silences new p)) (cond (is_silenced later t p) (pos 0) sound) (pos 0) in
    let Q : Bool → Type 0 =
    λ c.
    cond (c || is_silenced later t p) (pos 0) sound
    ≡ cond (not c) (cond (is_silenced later t p) (pos 0) sound) (pos 0) in
    let at : (c : Bool) → Q c = elim [ true ↦ refl | false ↦ refl ] in
    subst P (sym now) (at (silences new p))

-- voices that are over add nothing
sounding_alone : (later : List Start) (from t : ℕ) (left : Bool) (ps : List PlayingVoice)
    → sum_over (voice_at later from left t) ps ≡ sum_over (voice_at later from left t) (filter is_sounding ps)
sounding_alone later from t left ps =
    sum_over-kept (voice_at later from left t) (voice_at later from left t) is_sounding
    (λ p. let P : Bool → Type 0 = λ b. is_sounding p ≡ b
    → voice_at later from left t p ≡ cond b (voice_at later from left t p) (pos 0) in
    let at : (b : Bool) → P b = elim [ true ↦ λ _. refl | false ↦ λ e. over_at later from t left p e ] in
    at (is_sounding p) refl) ps

started_at : (s : Start) (later : List Start) (left : Bool) (t : ℕ) → s.frame ≤ t
    → sum_at (s ∷ later) left t ≡ sum_over (voice_at later s.frame left t) s.voices +ℤ sum_at later left t
unfolding sum_at start_at
started_at s later left t h =
    let now : nat_le s.frame t ≡ true = grind (arith, nat_tests) in
    ap (λ (b : Bool). cond b (sum_over (voice_at later s.frame left t) s.voices) (pos 0) +ℤ sum_at later left t) now

-- a start adds its voices to those that play
joins : (ps new : List PlayingVoice) (later : List Start) (from t : ℕ) (left : Bool) → from ≤ t
    → sum_at (record { frame = from; voices = ps } ∷ record { frame = from; voices = new } ∷ later) left t
    ≡ sum_at (record { frame = from; voices = after_start ps new } ∷ later) left t
unfolding after_start unsilenced
joins ps new later from t left h =
    let f : PlayingVoice → ℤ = voice_at later from left t in
    let s : Start = record { frame = from; voices = new } in
    let kept : List PlayingVoice = filter (λ q. not (silences new q)) ps in
    let old : sum_over (voice_at (s ∷ later) from left t) ps ≡ sum_over f kept =
    sum_over-kept f (voice_at (s ∷ later) from left t) (λ q. not (silences new q))
    (next_silences later new from t left h) ps in
    let joined : sum_over f (kept ++ filter is_sounding new) ≡ sum_over f kept +ℤ sum_over f new =
    sum_over-append f kept (filter is_sounding new)
    ∙ ap (λ (z : ℤ). sum_over f kept +ℤ z) (sym (sounding_alone later from t left new)) in
    started_at (record { frame = from; voices = ps }) (s ∷ later) left t h
    ∙ (λ i. old i +ℤ started_at s later left t h i)
    ∙ sym (add_z-assoc (sum_over f kept) (sum_over f new) (sum_at later left t))
    ∙ ap (λ (z : ℤ). z +ℤ sum_at later left t) (sym joined)
    ∙ sym (started_at (record { frame = from; voices = after_start ps new }) later left t h)

-- a block advances the voices that play
outlives : (ps : List PlayingVoice) (later : List Start) (from m t : ℕ) (left : Bool) → from + m ≤ t
    → sum_at (record { frame = from; voices = ps } ∷ later) left t
    ≡ sum_at (record { frame = from + m; voices = after_block ps m } ∷ later) left t
unfolding after_block
outlives ps later from m t left h =
    let g : PlayingVoice → ℤ = voice_at later (from + m) left t in
    let same : sum_over (voice_at later from left t) ps ≡ sum_over g (filter is_sounding (map (aged m) ps)) =
    sum_over-same (voice_at later from left t) (λ p. g (aged m p)) (λ p. sym (older later from m t left h p)) ps
    ∙ sym (sum_over-map g (aged m) ps)
    ∙ sounding_alone later (from + m) t left (map (aged m) ps) in
    started_at (record { frame = from; voices = ps }) later left t (omega arith)
    ∙ ap (λ (z : ℤ). z +ℤ sum_at later left t) same
    ∙ sym (started_at (record { frame = from + m; voices = after_block ps m }) later left t h)

late_test : (from t : ℕ) → t < from → nat_le from t ≡ false
late_test from t h = grind (arith, nat_tests)

half_below : (i m : ℕ) → i < 2 * m → i / 2 < m
half_below i m h = omega arith

half-more : (from m i : ℕ) → from + (2 * m + i) / 2 ≡ from + m + i / 2
half-more from m i = omega arith

is_left-more : (m i : ℕ) → is_left (2 * m + i) ≡ is_left i
is_left-more m i = ap (λ a. nat_eq a 0) (let e : (2 * m + i) % 2 ≡ i % 2 = omega arith in e)

-- a voice that nothing has silenced
unsilenced_voice : (later : List Start) (from u : ℕ) (left : Bool) (p : PlayingVoice) → is_silenced later (from + u) p ≡ false
    → voice_at later from left (from + u) p ≡ snd p.voice.value left (p.voice.age + u)
unfolding voice_at
unsilenced_voice later from u left p h =
    let e : p.voice.age + (from + u - from) ≡ p.voice.age + u = omega arith in
    λ j. cond (h j) (pos 0) (snd p.voice.value left (e j))

-- before its first start nothing sounds, and nothing is silenced
not_yet : (b : Parts) (from t : ℕ) (es : List Event) (left : Bool) → t < from → sum_at (starts b from es) left t ≡ pos 0
unfolding starts sum_at start_at
not_yet b from t [] left h = refl
not_yet b from t (Edited c ∷ es) left h = not_yet c from t es left h
not_yet b from t (Started n ∷ es) left h =
    let no : nat_le from t ≡ false = late_test from t h in
    (λ i.
    cond (no i) (sum_over (voice_at (starts b from es) from left t) (note_voices b n)) (pos 0)
    +ℤ not_yet b from t es left h i)
    ∙ zero-add_z (pos 0)
not_yet b from t (Given m ∷ es) left h = not_yet b (from + m) t es left (omega arith)

none_yet : (b : Parts) (from t : ℕ) (es : List Event) (p : PlayingVoice) → t < from
    → is_silenced (starts b from es) t p ≡ false
unfolding starts is_silenced
none_yet b from t [] p h = refl
none_yet b from t (Edited c ∷ es) p h = none_yet c from t es p h
none_yet b from t (Started n ∷ es) p h =
    let no : nat_le from t ≡ false = late_test from t h in
    ap (λ (x : Bool). (x && silences (note_voices b n) p) || is_silenced (starts b from es) t p) no ∙ none_yet b from t es p h
none_yet b from t (Given m ∷ es) p h = none_yet b (from + m) t es p (omega arith)

-- the values of a block are those of its frames
block_is : (b : Parts) (ps : List PlayingVoice) (from m : ℕ) (es : List Event) (i : ℕ) → i < 2 * m
    → side_at (record { frame = from; voices = ps } ∷ starts b (from + m) es) from i ≡ next_side ps i
unfolding side_at next_side total_at
block_is b ps from m es i h =
    let fs : List Start = starts b (from + m) es in
    let t : ℕ = from + i / 2 in
    let early : from + i / 2 < from + m = omega (arith, half_below i m h) in
    let one : (p : PlayingVoice) → voice_at fs from (is_left i) t p ≡ snd p.voice.value (is_left i) (p.voice.age + i / 2) =
    λ p.
    unsilenced_voice fs from (i / 2) (is_left i) p (none_yet b (from + m) (from + i / 2) es p early) in
    ap clipped (started_at (record { frame = from; voices = ps }) fs (is_left i) t (omega arith)
    ∙
    (λ j.
    sum_over-same (voice_at fs from (is_left i) t) (λ p. snd p.voice.value (is_left i) (p.voice.age + i / 2)) one
    ps j
    +ℤ not_yet b (from + m) (from + i / 2) es (is_left i) early j)
    ∙ add_z-zero (sum_over (λ p. snd p.voice.value (is_left i) (p.voice.age + i / 2)) ps))

-- no voices add nothing
no_voices_silent : (later : List Start) (left : Bool) (t : ℕ)
    → sum_at (record { frame = 0; voices = [] } ∷ later) left t ≡ sum_at later left t
unfolding sum_over
no_voices_silent later left t =
    started_at (record { frame = 0; voices = [] }) later left t (omega arith) ∙ zero-add_z (sum_at later left t)

frames-none : (ss : List Start) (from : ℕ) → [] ≡ frames ss from 0
unfolding frames
frames-none ss from = refl

block_all : (b : Parts) (ps : List PlayingVoice) (from m : ℕ) (es : List Event)
    → frames (record { frame = from; voices = ps } ∷ starts b (from + m) es) from m ≡ block ps m
unfolding frames block
block_all b ps from m es =
    map_range-same (side_at (record { frame = from; voices = ps } ∷ starts b (from + m) es) from) (next_side ps) 0
    (2 * m)
    (λ i _ h. block_is b ps from m es i (omega arith))

-- m frames and then k frames
frames-split : (ss : List Start) (from m k : ℕ) → frames ss from (m + k) ≡ frames ss from m ++ frames ss (from + m) k
unfolding frames side_at
frames-split ss from m k =
    ap (λ n. map (side_at ss from) (range_with_len 0 n)) (let e : 2 * (m + k) ≡ 2 * m + 2 * k = omega arith in e)
    ∙ map_range-split (side_at ss from) (2 * m) (2 * k)
    ∙ ap (λ xs. map (side_at ss from) (range_with_len 0 (2 * m)) ++ xs)
    (map_range-same (λ i. side_at ss from (2 * m + i)) (side_at ss (from + m)) 0 (2 * k)
    (λ i _ _. λ j. clipped (sum_at ss (is_left-more m i j) (half-more from m i j))))

pub frames-same : (ss rs : List Start) (from : ℕ)
    → ((left : Bool) (t : ℕ) → from ≤ t → sum_at ss left t ≡ sum_at rs left t) → (m : ℕ)
    → frames ss from m ≡ frames rs from m
unfolding frames side_at
frames-same ss rs from h m =
    map_range-same (side_at ss from) (side_at rs from) 0 (2 * m)
    (λ i _ _. ap clipped (h (is_left i) (from + i / 2) (omega arith)))

pub blocks_from : (b : Parts) (es : List Event) (ps : List PlayingVoice) (from : ℕ)
    → blocks b ps es ≡ frames (record { frame = from; voices = ps } ∷ starts b from es) from (given es)
unfolding blocks starts given
blocks_from b [] ps from = frames-none (record { frame = from; voices = ps } ∷ []) from
blocks_from b (Edited c ∷ es) ps from = blocks_from c es ps from
blocks_from b (Started n ∷ es) ps from =
    blocks_from b es (after_start ps (note_voices b n)) from
    ∙ sym (frames-same
    (record { frame = from; voices = ps } ∷ record { frame = from; voices = note_voices b n } ∷ starts b from es)
    (record { frame = from; voices = after_start ps (note_voices b n) } ∷ starts b from es) from
    (λ left t h. joins ps (note_voices b n) (starts b from es) from t left h) (given es))
blocks_from b (Given m ∷ es) ps from =
    let fs : List Start = starts b (from + m) es in
    let ss : List Start = record { frame = from; voices = ps } ∷ fs in
    (λ j. (sym (block_all b ps from m es)) j ++ blocks_from b es (after_block ps m) (from + m) j)
    ∙ ap (λ xs. frames ss from m ++ xs)
    (sym (frames-same ss (record { frame = from + m; voices = after_block ps m } ∷ fs) (from + m)
    (λ left t h. outlives ps fs from m t left h) (given es)))
    ∙ sym (frames-split ss from m (given es))

pub blocks_heard : (b : Parts) (es : List Event) → blocks b [] es ≡ heard b es
unfolding heard
blocks_heard b es =
    blocks_from b es [] 0
    ∙ frames-same (record { frame = 0; voices = [] } ∷ starts b 0 es) (starts b 0 es) 0
    (λ left t h. no_voices_silent (starts b 0 es) left t) (given es)

starts-clipped : (b : Parts) (from m n : ℕ) (es fs : List Event)
    → starts b from (es ++ Given (m + n) ∷ fs) ≡ starts b from (es ++ Given m ∷ Given n ∷ fs)
unfolding starts
starts-clipped b from m n [] fs = ap (λ t. starts b t fs) (sym (add_assoc from m n))
starts-clipped b from m n (Edited c ∷ es) fs = starts-clipped c from m n es fs
starts-clipped b from m n (Started x ∷ es) fs =
    ap (λ ss. record { frame = from; voices = note_voices b x } ∷ ss) (starts-clipped b from m n es fs)
starts-clipped b from m n (Given k ∷ es) fs = starts-clipped b (from + k) m n es fs

given-clipped : (m n : ℕ) (es fs : List Event) → given (es ++ Given (m + n) ∷ fs) ≡ given (es ++ Given m ∷ Given n ∷ fs)
unfolding given
given-clipped m n [] fs = omega arith
given-clipped m n (Edited c ∷ es) fs = given-clipped m n es fs
given-clipped m n (Started x ∷ es) fs = given-clipped m n es fs
given-clipped m n (Given k ∷ es) fs = ap (λ a. k + a) (given-clipped m n es fs)

pub splits_free : (b : Parts) (es fs : List Event) (m n : ℕ)
    → heard b (es ++ Given (m + n) ∷ fs) ≡ heard b (es ++ Given m ∷ Given n ∷ fs)
unfolding heard
splits_free b es fs m n = λ j. frames (starts-clipped b 0 m n es fs j) 0 (given-clipped m n es fs j)
