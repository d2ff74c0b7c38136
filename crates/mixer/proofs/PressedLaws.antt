-- Pressed notes give the frames of notes that last until their release.
use Rattle.std.proofs.Common.{◌≡◌, ℕ, zero, suc, ◌+◌, ◌*◌, ◌/◌, ◌<◌, ◌≤◌, ℤ, Bool, true, false, cond, not, ◌||◌, min, Option}
use Rattle.std.proofs.Common.{Some, None, List, [], ◌∷◌, ◌++◌, map, filter, inl, inr, refl, sym, ap, subst, ◌∙◌, arith}
use Rattle.std.proofs.Common.{append_assoc}
use Rattle.std.specs.List.{range_with_len}
use Rattle.std.specs.Option.{option_map, option_map_or}
use Rattle.std.proofs.lemmas.Bool.{cases_lt, not-false}
use Rattle.std.proofs.lemmas.List.{map-append}
use Rattle.std.proofs.lemmas.List.Elements.{filter-append}
use Rattle.bank_parts.specs.declared.parts.Parts.{Parts}
use Rattle.script_notes.specs.Notes.{Numbers}
use Rattle.zone_select.specs.declared.parameters.VoiceParameters.{VoiceParameters}
use Rattle.zone_select.specs.Select.{Voice, selected}
use Rattle.voices.specs.Position.{is_over}
use Rattle.voices.specs.Sound.{Live, snd}
use Rattle.voices.specs.Release.{lasting, voice_lasting, released}
use Rattle.voices.proofs.ReleaseLaws.{ends_free, over_when_released}
use Rattle.mixer.specs.declared.playing.PlayingVoice.{PlayingVoice}
use Rattle.mixer.specs.declared.playing.Release.{Release}
use Rattle.mixer.specs.StartFrames.{playing, note_voices, excludes, silences, is_left, clipped}
use Rattle.mixer.specs.Events.{Event, is_sounding, unsilenced, after_start, aged, after_block, total_at, next_side, block}
use Rattle.mixer.specs.Events.{blocks, heard}
use Rattle.mixer.specs.Stops.{least}
use Rattle.mixer.specs.Pressed.{with_handle, pressed_voices, ends, released_by, after_release, KeyEvent, Edited, Started, Pressed}
use Rattle.mixer.specs.Pressed.{Released, Stopped, Given, frames_until, held_note, as_notes, heard_later, heard_keys}
use Rattle.mixer.specs.Pressed.{key_blocks}
use Rattle.mixer.proofs.Sums.{sum_over-map, sum_over-same}
use Rattle.mixer.proofs.Ranges.{map_range-same}
use Rattle.mixer.proofs.Rewinding.{filter-kept, filter-later, sounding_later, next_sounding}
use Rattle.mixer.proofs.EventLaws.{blocks_heard}
use Rattle.mixer.proofs.RetimedNotes.{selected_retimed}

-- ---- a voice whose end is known

-- how long a note lasts of which n frames are allowed, after t frames, if it is released k frames later
abbrev length_by : ℕ → ℕ → Option ℕ → ℕ
length_by n t o = least n (option_map (λ k. t + k) o)

-- the voice as that of a note that lasts so long, without a handle
unfoldable ended : Option ℕ → PlayingVoice → PlayingVoice
ended o p = record {
  voice = record { value = voice_lasting (length_by p.voice.value.parameters.length p.voice.age o) p.voice.value; age = p.voice.age };
  bank = p.bank;
  number = p.number;
  handle = None;
}

-- how many frames come before the release of a voice with this handle
abbrev until : Option ℕ → List KeyEvent → Option ℕ
until handle es = option_map_or (λ h. frames_until h es) handle None

unfoldable resolved : List KeyEvent → PlayingVoice → PlayingVoice
resolved es p = ended (until p.handle es) p

-- a voice that is over is over for an earlier end
over_shorter : (v : VoiceParameters) (t k : ℕ) → is_over v t ≡ true → is_over (lasting (min v.length (t + k)) v) t ≡ true
over_shorter v t zero h =
    subst (λ (n : ℕ). is_over (lasting (min v.length n) v) t ≡ true) (let e : t ≡ t + 0 = omega arith in e) (over_when_released v t h)
over_shorter v t (suc k) h =
    elim (cases_lt (t + suc k) v.length) [
      | inl lt ↦
          let e : t + suc k ≡ min v.length (t + suc k) = omega arith in
          let w : Voice = record { points = []; parameters = v } in
          subst (λ (n : ℕ). is_over (lasting n v) t ≡ true) e
          (sym (ends_free w v.length (t + suc k) t (omega arith) (omega arith)).over ∙ h)
      | inr ge ↦
          let e : v.length ≡ min v.length (t + suc k) = omega arith in
          subst (λ (n : ℕ). is_over (lasting n v) t ≡ true) e h
    ]

over_ended : (o : Option ℕ) (p : PlayingVoice) → is_sounding p ≡ false → is_sounding (ended o p) ≡ false
unfolding is_sounding ended
over_ended None p h = h
over_ended (Some k) p h =
    let v : VoiceParameters = p.voice.value.parameters in
    ap not (over_shorter v p.voice.age k (not-false (is_over v p.voice.age) h))

over_resolved : (es : List KeyEvent) (p : PlayingVoice) → is_sounding p ≡ false → is_sounding (resolved es p) ≡ false
unfolding resolved
over_resolved es p h = over_ended (until p.handle es) p h

-- frames before the end stay
sound_shorter : (v : Voice) (left : Bool) (t k u : ℕ) → u < k
    → snd (voice_lasting (min v.parameters.length (t + k)) v) left (t + u) ≡ snd v left (t + u)
sound_shorter v left t k u h =
    elim (cases_lt (t + k) v.parameters.length) [
      | inl lt ↦
          let e : min v.parameters.length (t + k) ≡ t + k = omega arith in
          ap (λ (n : ℕ). snd (voice_lasting n v) left (t + u)) e
          ∙ (ends_free v (t + k) v.parameters.length (t + u) (omega arith) (omega arith)).sound left
      | inr ge ↦
          let e : min v.parameters.length (t + k) ≡ v.parameters.length = omega arith in
          ap (λ (n : ℕ). snd (voice_lasting n v) left (t + u)) e
    ]

-- ---- other ends of the same list

-- a voice silences others, and is silenced, whatever its end is
silences-resolved : (es : List KeyEvent) (new : List PlayingVoice) (p : PlayingVoice)
    → silences (map (resolved es) new) (resolved es p) ≡ silences new p
unfolding silences excludes resolved ended
silences-resolved es [] p = refl
silences-resolved es (q ∷ new) p = ap (λ (b : Bool). excludes q p || b) (silences-resolved es new p)

started-resolved : (es : List KeyEvent) (ps new : List PlayingVoice)
    → filter is_sounding (map (resolved es) (after_start ps new))
    ≡ after_start (filter is_sounding (map (resolved es) ps)) (map (resolved es) new)
unfolding after_start unsilenced
started-resolved es ps new =
    let kept : List PlayingVoice = filter (λ q. not (silences new q)) ps in
    ap (filter is_sounding) (map-append (resolved es) kept (filter is_sounding new))
    ∙ filter-append is_sounding (map (resolved es) kept) (map (resolved es) (filter is_sounding new))
    ∙
    (λ j.
    sym (filter-kept (resolved es) is_sounding (λ q. not (silences (map (resolved es) new) q)) (λ q. not (silences new q))
    (λ p. ap not (silences-resolved es new p)) ps) j
    ++ filter-later (resolved es) is_sounding is_sounding (over_resolved es) new j)

-- ---- a note that starts

started_each : (n : Numbers) (es : List KeyEvent) (vs : List Voice) → map (resolved es) (map (playing n) vs) ≡ map (playing n) vs
unfolding resolved ended playing
started_each n es [] = refl
started_each n es (v ∷ vs) = ap (λ (ps : List PlayingVoice). playing n v ∷ ps) (started_each n es vs)

-- its end is known already
start_resolved : (b : Parts) (n : Numbers) (es : List KeyEvent) → map (resolved es) (note_voices b n) ≡ note_voices b n
unfolding note_voices
start_resolved b n es = started_each n es (selected b n)

-- ---- a note that is pressed

length_first : (n : ℕ) (o : Option ℕ) → length_by n 0 o ≡ least n o
length_first n None = refl
length_first n (Some k) = omega arith

pressed_each : (h : ℕ) (n : Numbers) (es : List KeyEvent) (vs : List Voice)
    → map (resolved es) (map (with_handle h) (map (playing n) (map (voice_lasting n.length) vs)))
    ≡ map (playing (held_note h n es)) (map (voice_lasting (least n.length (frames_until h es))) vs)
unfolding resolved ended playing held_note
pressed_each h n es [] = refl
pressed_each h n es (v ∷ vs) =
    λ j.
    record {
      voice = record { value = voice_lasting (length_first n.length (frames_until h es) j) v; age = 0 };
      bank = n.bank;
      number = n.number;
      handle = None;
    }
    ∷ pressed_each h n es vs j

pressed_resolved : (b : Parts) (h : ℕ) (n : Numbers) (es : List KeyEvent)
    → map (resolved es) (pressed_voices b h n) ≡ note_voices b (held_note h n es)
unfolding pressed_voices note_voices held_note
pressed_resolved b h n es =
    ap (λ (vs : List Voice). map (resolved es) (map (with_handle h) (map (playing n) vs))) (selected_retimed b n.start n.length n)
    ∙ pressed_each h n es (selected b n)
    ∙ ap (map (playing (held_note h n es))) (sym (selected_retimed b n.start (least n.length (frames_until h es)) n))

-- ---- a release

length_ended : (n t : ℕ) (o : Option ℕ) → length_by (min n t) t o ≡ length_by n t (Some 0)
length_ended n t None = omega arith
length_ended n t (Some k) = omega arith

released_ended : (o : Option ℕ) (v : Live) (bank number : ℕ) (handle : Option ℕ)
    → ended o (record { voice = released v; bank = bank; number = number; handle = handle })
    ≡ ended (Some 0) (record { voice = v; bank = bank; number = number; handle = handle })
unfolding ended released
released_ended o v bank number handle =
    λ j.
    record {
      voice = record { value = voice_lasting (length_ended v.value.parameters.length v.age o j) v.value; age = v.age };
      bank = bank;
      number = number;
      handle = None;
    }

released_resolved : (r : Release) (es : List KeyEvent) (v : Live) (bank number : ℕ) (handle : Option ℕ)
    → (let p : PlayingVoice = record { voice = v; bank = bank; number = number; handle = handle } in
    resolved es (released_by r p) ≡ resolved (Released r ∷ es) p)
unfolding resolved released_by frames_until
released_resolved r es v bank number None = refl
released_resolved r es v bank number (Some h) =
    let p : PlayingVoice = record { voice = v; bank = bank; number = number; handle = Some h } in
    let P : Bool → Type 0 =
    λ b.
    (let q : PlayingVoice = cond b (record p { voice = released v }) p in ended (until q.handle es) q)
    ≡ ended (cond b (Some 0) (frames_until h es)) p in
    let at : (b : Bool) → P b = elim [ true ↦ released_ended (frames_until h es) v bank number (Some h) | false ↦ refl ] in
    at (ends r h)

all_released : (r : Release) (es : List KeyEvent) (ps : List PlayingVoice)
    → map (resolved es) (map (released_by r) ps) ≡ map (resolved (Released r ∷ es)) ps
all_released r es [] = refl
all_released r es (p ∷ ps) = λ j. released_resolved r es p.voice p.bank p.number p.handle j ∷ all_released r es ps j

-- ---- a block

length_later : (n t m : ℕ) (o : Option ℕ) → length_by n (t + m) o ≡ length_by n t (option_map (λ k. m + k) o)
length_later n t m None = refl
length_later n t m (Some k) = omega arith

until_later : (m : ℕ) (handle : Option ℕ) (es : List KeyEvent)
    → until handle (Given m ∷ es) ≡ option_map (λ k. m + k) (until handle es)
unfolding frames_until
until_later m None es = refl
until_later m (Some h) es = refl

aged_resolved : (m : ℕ) (es : List KeyEvent) (p : PlayingVoice)
    → resolved es (aged m p) ≡ aged m (resolved (Given m ∷ es) p)
unfolding resolved ended aged
aged_resolved m es p =
    let n : ℕ = p.voice.value.parameters.length in
    let e : length_by n (p.voice.age + m) (until p.handle es) ≡ length_by n p.voice.age (until p.handle (Given m ∷ es)) =
    length_later n p.voice.age m (until p.handle es)
    ∙ ap (length_by n p.voice.age) (sym (until_later m p.handle es)) in
    λ j.
    record {
      voice = record { value = voice_lasting (e j) p.voice.value; age = p.voice.age + m };
      bank = p.bank;
      number = p.number;
      handle = None;
    }

all_aged : (m : ℕ) (es : List KeyEvent) (ps : List PlayingVoice)
    → map (resolved es) (map (aged m) ps) ≡ map (aged m) (map (resolved (Given m ∷ es)) ps)
all_aged m es [] = refl
all_aged m es (p ∷ ps) = λ j. aged_resolved m es p j ∷ all_aged m es ps j

sound_ended : (o : Option ℕ) (m : ℕ) (p : PlayingVoice) (left : Bool) (u : ℕ) → u < m
    → snd (ended (option_map (λ k. m + k) o) p).voice.value left (p.voice.age + u) ≡ snd p.voice.value left (p.voice.age + u)
unfolding ended
sound_ended None m p left u h = refl
sound_ended (Some k) m p left u h = sound_shorter p.voice.value left p.voice.age (m + k) u (omega arith)

sound_resolved : (m : ℕ) (es : List KeyEvent) (p : PlayingVoice) (left : Bool) (u : ℕ) → u < m
    → snd (resolved (Given m ∷ es) p).voice.value left (p.voice.age + u) ≡ snd p.voice.value left (p.voice.age + u)
unfolding resolved
sound_resolved m es p left u h =
    ap (λ (o : Option ℕ). snd (ended o p).voice.value left (p.voice.age + u)) (until_later m p.handle es)
    ∙ sound_ended (until p.handle es) m p left u h

half_of : (i m : ℕ) → i < 2 * m → i / 2 < m
half_of i m h = omega arith

side_resolved : (m : ℕ) (es : List KeyEvent) (ps : List PlayingVoice) (i : ℕ) → i < 2 * m
    → next_side (map (resolved (Given m ∷ es)) ps) i ≡ next_side ps i
unfolding next_side total_at resolved ended
side_resolved m es ps i h =
    ap clipped
    (sum_over-map (λ p. snd p.voice.value (is_left i) (p.voice.age + i / 2)) (resolved (Given m ∷ es)) ps
    ∙ sum_over-same (λ p. snd (resolved (Given m ∷ es) p).voice.value (is_left i) (p.voice.age + i / 2))
    (λ p. snd p.voice.value (is_left i) (p.voice.age + i / 2))
    (λ p. sound_resolved m es p (is_left i) (i / 2) (half_of i m h)) ps)

block_resolved : (m : ℕ) (es : List KeyEvent) (ps : List PlayingVoice)
    → block ps m ≡ block (filter is_sounding (map (resolved (Given m ∷ es)) ps)) m
unfolding block
block_resolved m es ps =
    let qs : List PlayingVoice = map (resolved (Given m ∷ es)) ps in
    map_range-same (next_side ps) (next_side (filter is_sounding qs)) 0 (2 * m)
    (λ i _ h. sym (next_sounding qs i ∙ side_resolved m es ps i (omega arith)))

-- ---- all events

after_resolved : (r : Release) (es : List KeyEvent) (ps : List PlayingVoice)
    → filter is_sounding (map (resolved es) (after_release ps r)) ≡ filter is_sounding (map (resolved (Released r ∷ es)) ps)
unfolding after_release
after_resolved r es ps =
    filter-later (resolved es) is_sounding is_sounding (over_resolved es) (map (released_by r) ps)
    ∙ ap (filter is_sounding) (all_released r es ps)

later_resolved : (m : ℕ) (es : List KeyEvent) (ps : List PlayingVoice)
    → filter is_sounding (map (resolved es) (after_block ps m))
    ≡ after_block (filter is_sounding (map (resolved (Given m ∷ es)) ps)) m
unfolding after_block
later_resolved m es ps =
    filter-later (resolved es) is_sounding is_sounding (over_resolved es) (map (aged m) ps)
    ∙ ap (filter is_sounding) (all_aged m es ps)
    ∙ sym (sounding_later m (map (resolved (Given m ∷ es)) ps))

presses_from : (b : Parts) (es : List KeyEvent) (ps : List PlayingVoice)
    → key_blocks b ps es ≡ blocks b (filter is_sounding (map (resolved es) ps)) (as_notes es) ++ heard_later b es
unfolding key_blocks blocks as_notes heard_later resolved frames_until
presses_from b [] ps = refl
presses_from b (Edited c ∷ es) ps = presses_from c es ps
presses_from b (Started n ∷ es) ps =
    presses_from b es (after_start ps (note_voices b n))
    ∙ ap (λ (qs : List PlayingVoice). blocks b qs (as_notes es) ++ heard_later b es)
    (started-resolved es ps (note_voices b n)
    ∙ ap (after_start (filter is_sounding (map (resolved es) ps))) (start_resolved b n es))
presses_from b (Pressed h n ∷ es) ps =
    presses_from b es (after_start ps (pressed_voices b h n))
    ∙ ap (λ (qs : List PlayingVoice). blocks b qs (as_notes es) ++ heard_later b es)
    (started-resolved es ps (pressed_voices b h n)
    ∙ ap (after_start (filter is_sounding (map (resolved es) ps))) (pressed_resolved b h n es))
presses_from b (Released r ∷ es) ps =
    presses_from b es (after_release ps r)
    ∙ ap (λ (qs : List PlayingVoice). blocks b qs (as_notes es) ++ heard_later b es) (after_resolved r es ps)
presses_from b (Stopped ∷ es) ps =
    presses_from b es [] ∙ ap (λ (fs : List ℤ). fs ++ heard_later b es) (blocks_heard b (as_notes es))
presses_from b (Given m ∷ es) ps =
    let qs : List PlayingVoice = filter is_sounding (map (resolved (Given m ∷ es)) ps) in
    (λ j.
    block_resolved m es ps j
    ++ (presses_from b es (after_block ps m)
    ∙ ap (λ (rs : List PlayingVoice). blocks b rs (as_notes es) ++ heard_later b es) (later_resolved m es ps))
    j)
    ∙ sym (append_assoc (block qs m) (blocks b (after_block qs m) (as_notes es)) (heard_later b es))

pub presses_heard : (b : Parts) (es : List KeyEvent) → key_blocks b [] es ≡ heard_keys b es
presses_heard b es =
    presses_from b es [] ∙ ap (λ (fs : List ℤ). fs ++ heard_later b es) (blocks_heard b (as_notes es))
