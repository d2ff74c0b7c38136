-- A block that is split in two.
use Rattle.std.proofs.Common.{◌≡◌, ℕ, ◌+◌, ◌-◌, ◌≤◌, ℤ, Bool, true, false, not, cond, List, [], ◌∷◌, ◌++◌, map}
use Rattle.std.proofs.Common.{filter, refl, sym, ap, ◌∙◌, arith, append-nil, Option, ◌*◌, ◌%◌, length}
use Rattle.std.proofs.lemmas.List.FromFn.{length-map-range_with_len}
use Rattle.std.specs.List.{flat_map}
use Rattle.std.proofs.lemmas.Bool.{not-false}
use Rattle.bank_parts.specs.declared.parts.Parts.{Parts}
use Rattle.bank_parts.specs.declared.texts.Texts.{Texts}
use Rattle.voices.specs.Position.{is_over}
use Rattle.voices.proofs.OverLaws.{over_stays}
use Rattle.zone_select.specs.declared.parameters.VoiceParameters.{VoiceParameters}
use Rattle.mixer.specs.declared.playing.PlayingVoice.{PlayingVoice}
use Rattle.mixer.specs.StartFrames.{frames}
use Rattle.mixer.specs.Events.{Given, starts, given, is_sounding, aged, next_side, after_block, block, blocks}
use Rattle.std.proofs.lemmas.Grind.{flat_map-append}
use Rattle.base_outputs.specs.declared.output.Output.{Output}
use Rattle.base_outputs.specs.Output.{Puts}
use Rattle.base_outputs.proofs.OutputLaws.{Putting, putting_step}
use Rattle.wave_file.specs.Wave.{sample_bytes}
use Rattle.mixer.proofs.EventLaws.{blocks_from}
use Rattle.live_sessions.specs.declared.meter.Meter.{Meter}
use Rattle.live_sessions.specs.Meters.{metered}
use Rattle.live_sessions.proofs.Metering.{metered-append, metered_none}

over_later : (p : PlayingVoice) (k n : ℕ) → is_sounding (aged k p) ≡ false → is_sounding (aged (k + n) p) ≡ false
unfolding is_sounding aged
over_later p k n h =
    let v : VoiceParameters = p.voice.value.parameters in
    let now : is_over v (p.voice.age + k) ≡ true = not-false (is_over v (p.voice.age + k)) h in
    ap not (over_stays v (p.voice.age + k) (p.voice.age + (k + n)) (omega arith) now)

aged_twice : (p : PlayingVoice) (k n : ℕ) → aged n (aged k p) ≡ aged (k + n) p
unfolding aged
aged_twice p k n =
    let e : p.voice.age + k + n ≡ p.voice.age + (k + n) = omega arith in
    ap (λ (a : ℕ). let q : PlayingVoice = record p { voice = record { value = p.voice.value; age = a } } in q) e

-- the voices that still sound after both parts
both_parts : (ps : List PlayingVoice) (k n : ℕ)
    → filter is_sounding (map (aged n) (filter is_sounding (map (aged k) ps)))
    ≡ filter is_sounding (map (aged (k + n)) ps)
both_parts [] k n = refl
both_parts (p ∷ ps) k n =
    let kept : List PlayingVoice = filter is_sounding (map (aged k) ps) in
    let all : List PlayingVoice = filter is_sounding (map (aged (k + n)) ps) in
    let same : filter is_sounding (map (aged n) kept) ≡ all = both_parts ps k n in
    let P : Bool → Type 0 = λ b. is_sounding (aged k p) ≡ b
    → filter is_sounding (map (aged n) (cond b (aged k p ∷ kept) kept))
    ≡ cond (is_sounding (aged (k + n) p)) (aged (k + n) p ∷ all) all in
    let at : (b : Bool) → P b = elim [
      | true ↦ λ _. (λ i. cond (is_sounding (aged_twice p k n i)) (aged_twice p k n i ∷ same i) (same i))
      | false ↦ λ h. same ∙ sym (ap (λ (b : Bool). cond b (aged (k + n) p ∷ all) all) (over_later p k n h))
    ] in
    at (is_sounding (aged k p)) refl

pub after_both : (ps : List PlayingVoice) (k n : ℕ) → after_block (after_block ps k) n ≡ after_block ps (k + n)
unfolding after_block
after_both ps k n = both_parts ps k n

-- some bank, since the law is about one
no_texts : Texts
no_texts =
    record {
      engine =
          [];
      name = [];
      date = [];
      engineers = [];
      product = [];
      copyright = [];
      comment = [];
      software = [];
    }

no_bank : Parts
no_bank = record { minor = 1; texts = no_texts; presets = []; instruments = []; samples = [] }

-- a block is everything that a player renders for it
alone : (ps : List PlayingVoice) (k : ℕ) → blocks no_bank ps (Given k ∷ []) ≡ block ps k
unfolding blocks
alone ps k = append-nil (block ps k)

in_two : (ps : List PlayingVoice) (k n : ℕ)
    → blocks no_bank ps (Given k ∷ Given n ∷ []) ≡ block ps k ++ block (after_block ps k) n
unfolding blocks
in_two ps k n = ap (λ (xs : List ℤ). block ps k ++ xs) (append-nil (block (after_block ps k) n))

same_events : (ps : List PlayingVoice) (k n : ℕ)
    → blocks no_bank ps (Given (k + n) ∷ []) ≡ blocks no_bank ps (Given k ∷ Given n ∷ [])
unfolding starts given
same_events ps k n =
    blocks_from no_bank (Given (k + n) ∷ []) ps 0
    ∙ ap (λ (m : ℕ). frames (record { frame = 0; voices = ps } ∷ []) 0 m)
    (let e : k + n + 0 ≡ k + (n + 0) = omega arith in e)
    ∙ sym (blocks_from no_bank (Given k ∷ Given n ∷ []) ps 0)

pub block_split : (ps : List PlayingVoice) (k n : ℕ) → block ps (k + n) ≡ block ps k ++ block (after_block ps k) n
block_split ps k n = sym (alone ps (k + n)) ∙ same_events ps k n ∙ in_two ps k n

pub block_none : (ps : List PlayingVoice) → block ps 0 ≡ []
unfolding block
block_none ps = refl

module _ {W : Type 0} {c : W → Option (List ℕ)} {o p q : Output W} {whole : List ℕ} where
  -- a block of the remaining frames was put
  pub put_next : (ps qs : List PlayingVoice) (n k : ℕ) {m : ℕ} → Putting c o p whole (flat_map sample_bytes (block ps n))
      → Puts c p q (flat_map sample_bytes (block ps m))
      → qs ≡ after_block ps m → m ≡ k → k ≤ n → Putting c o q whole (flat_map sample_bytes (block qs (n - k)))
  put_next ps qs n k {m} s h e same within =
      let left : n ≡ m + (n - k) = omega arith in
      putting_step (flat_map sample_bytes (block ps m)) (flat_map sample_bytes (block qs (n - k))) s
      (ap (λ (j : ℕ). flat_map sample_bytes (block ps j)) left
      ∙ ap (flat_map sample_bytes) (block_split ps m (n - k))
      ∙ flat_map-append sample_bytes (block ps m) (block (after_block ps m) (n - k))
      ∙ ap (λ (xs : List PlayingVoice). flat_map sample_bytes (block ps m) ++ flat_map sample_bytes (block xs (n - k)))
      (sym e)) h

pub played_next : (ps qs first : List PlayingVoice) (n k count : ℕ) {m : ℕ} → qs ≡ after_block ps m
    → after_block ps n ≡ after_block first count → m ≡ k → k ≤ n
    → after_block qs (n - k) ≡ after_block first count
played_next ps qs first n k count {m} e h same within =
    let left : m + (n - k) ≡ n = omega arith in
    ap (λ (xs : List PlayingVoice). after_block xs (n - k)) e ∙ after_both ps m (n - k) ∙ ap (after_block ps) left ∙ h

-- whole frames
block_even : (ps : List PlayingVoice) (k : ℕ) → length (block ps k) % 2 ≡ 0
unfolding block
block_even ps k = let e = length-map-range_with_len (next_side ps) 0 (2 * k) in omega (arith, e)

-- the frames of a block and those that remain are measured one after another
pub measured_next : (ps qs first : List PlayingVoice) (m was all : Meter) (n k count : ℕ) {j : ℕ} → qs ≡ after_block ps j
    → m ≡ metered was (block ps j)
    → metered was (block ps n) ≡ metered all (block first count) → j ≡ k → k ≤ n
    → metered m (block qs (n - k)) ≡ metered all (block first count)
measured_next ps qs first m was all n k count {j} e h whole same within =
    let left : n ≡ j + (n - k) = omega arith in
    (λ i. metered (h i) (block (e i) (n - k)))
    ∙ sym (metered-append was (block ps j) (block (after_block ps j) (n - k)) (block_even ps j))
    ∙ ap (metered was) (sym (ap (block ps) left ∙ block_split ps j (n - k)))
    ∙ whole

pub measured_last : (m all : Meter) (ps first : List PlayingVoice) (n count : ℕ) → n ≡ 0
    → metered m (block ps n) ≡ metered all (block first count) → m ≡ metered all (block first count)
measured_last m all ps first n count e h =
    sym (ap (λ (k : ℕ). metered m (block ps k)) e ∙ ap (metered m) (block_none ps) ∙ metered_none m) ∙ h
