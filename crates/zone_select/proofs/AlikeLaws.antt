-- Banks whose zones have the same voices for each note: from the samples up, where the zones of one owner change.
use Rattle.std.proofs.Common.{◌≡◌, ℕ, ◌==◌, ◌&&◌, Option, Some, None, List, slice_get, refl, ap, subst}
use Rattle.std.specs.List.{find}
use Rattle.std.specs.List.Sorted.{IsPermutation}
use Rattle.std.specs.Option.{option_map}
use Rattle.std.proofs.lemmas.List.Sorted.{IsPermutation-refl}
use Rattle.base_numbered_lists.specs.Moved.{changed}
use Rattle.script_notes.specs.Notes.{Numbers}
use Rattle.bank_parts.specs.declared.parts.Head.{Head}
use Rattle.bank_parts.specs.declared.parts.GlobalZone.{GlobalZone}
use Rattle.bank_parts.specs.declared.parts.Zone.{Zone}
use Rattle.bank_parts.specs.declared.parts.ZoneOwner.{ZoneOwner}
use Rattle.bank_parts.specs.declared.parts.Sample.{Sample}
use Rattle.bank_parts.specs.declared.parts.Parts.{Parts}
use Rattle.bank_parts.specs.Settings.{with_zones}
use Rattle.bank_changes.specs.declared.members.Owner.{Owner}
use Rattle.bank_changes.specs.declared.members.Owner.TheVariants as owner
use Rattle.zone_select.specs.ZoneSettings.{ZoneSettings}
use Rattle.zone_select.specs.Select.{Voice, voice_of, voices_of, has_preset_numbers}
use Rattle.zone_select.proofs.Given.{sample_given, instrument_given, number_given, preset_given, given, GivenAlike}
use Rattle.zone_select.proofs.Matched.{Matched, MatchedOption, matched-get, matched-find, matched-or}
use Rattle.zone_select.proofs.Matched.{matched-same, matched-changed, matched-option_same}
use Rattle.zone_select.proofs.ZoneVoices.{Inside, voices_of-same}

abbrev Instrument : Type 0
Instrument = ZoneOwner (List ℕ)

abbrev Preset : Type 0
Preset = ZoneOwner Head

-- the samples have the same voices
abbrev pub HaveSameVoices : Sample → Sample → Type 0
HaveSameVoices s t = (n : Numbers) (v u : ZoneSettings) → voice_of n v u s ≡ voice_of n v u t

pub sound_same : (s : Sample) → HaveSameVoices s s
sound_same s n v u = refl

pub same_voices : (n : Numbers) (u v : ZoneSettings) (o p : Option Sample) → MatchedOption HaveSameVoices o p
    → option_map (voice_of n v u) o ≡ option_map (voice_of n v u) p
same_voices n u v None None h = refl
same_voices n u v None (Some y) h = absurd h
same_voices n u v (Some x) None h = absurd h
same_voices n u v (Some x) (Some y) h = ap (λ a. Some a) (h n v u)

-- ---- an owner

-- the bank after f changes an owner's zones
abbrev pub owner_changed : Parts → Owner → (GlobalZone → List Zone → List Zone) → Parts
owner_changed b (owner.Preset k) f = record b { presets = changed b.presets k (λ x. with_zones (f x.global x.zones) x) }
owner_changed b (owner.Inst k) f =
    record b { instruments = changed b.instruments k (λ x. with_zones (f x.global x.zones) x) }

-- P holds of an owner's global zone and zones, if the owner exists
abbrev pub OfOwner : Parts → Owner → (GlobalZone → List Zone → Type 0) → Type 0
OfOwner b (owner.Preset k) P = (x : Preset) → slice_get b.presets k ≡ Some x → P x.global x.zones
OfOwner b (owner.Inst k) P = (x : Instrument) → slice_get b.instruments k ≡ Some x → P x.global x.zones

module _ {X : Type 0} (g : Option Voice → List X) where
  abbrev pub InstrumentsAlike : Parts → Parts → Instrument → Instrument → Type 0
  InstrumentsAlike b c i j =
      (n : Numbers) (u : ZoneSettings) → IsPermutation (instrument_given g b n u i) (instrument_given g c n u j)

  abbrev pub PresetsAlike : Parts → Parts → Preset → Preset → Type 0
  PresetsAlike b c p q =
      (p.head.bank ≡ q.head.bank) × (p.head.number ≡ q.head.number)
      × ((n : Numbers) → IsPermutation (preset_given g b n p) (preset_given g c n q))

  sample_given-alike : (b c : Parts) (t k : ℕ) → MatchedOption HaveSameVoices (slice_get b.samples t) (slice_get c.samples k)
      → (n : Numbers) (u v : ZoneSettings) → IsPermutation (sample_given g b n u v t) (sample_given g c n u v k)
  unfolding sample_given
  sample_given-alike b c t k h n u v =
      subst (IsPermutation (g (option_map (voice_of n v u) (slice_get b.samples t))))
      (ap g (same_voices n u v (slice_get b.samples t) (slice_get c.samples k) h)) (IsPermutation-refl _)

  number_given-alike : (b c : Parts) (t k : ℕ)
      → MatchedOption (InstrumentsAlike b c) (slice_get b.instruments t) (slice_get c.instruments k)
      → (n : Numbers) (u : ZoneSettings) → IsPermutation (number_given g b n u t) (number_given g c n u k)
  unfolding number_given
  number_given-alike b c t k h n u =
      matched-or (InstrumentsAlike b c) (instrument_given g b n u) (instrument_given g c n u) (λ x y e. e n u)
      (slice_get b.instruments t) (slice_get c.instruments k) h

  given-alike : (b c : Parts) → Matched (PresetsAlike b c) b.presets c.presets → GivenAlike g b c
  unfolding given has_preset_numbers
  given-alike b c h n =
      matched-or (PresetsAlike b c) (preset_given g b n) (preset_given g c n) (λ p q e. e.2 n)
      (find (has_preset_numbers n) b.presets) (find (has_preset_numbers n) c.presets)
      (matched-find (PresetsAlike b c) (has_preset_numbers n) (has_preset_numbers n) (λ p q e. λ i. e.0 i == n.bank && e.1 i == n.number)
      b.presets c.presets h)

  -- the same presets over instruments that are alike
  same_presets : (b c : Parts)
      → ((t : ℕ) → MatchedOption (InstrumentsAlike b c) (slice_get b.instruments t) (slice_get c.instruments t))
      → (p : Preset) → PresetsAlike b c p p
  unfolding preset_given
  same_presets b c h p = (
    refl,
    refl,
    λ n.
        voices_of-same (number_given g b n) (number_given g c n) (λ v t. number_given-alike b c t t (h t) n v) n
        p.global p.zones,
  )

  -- the same instruments over samples with the same voices
  same_instruments : (b c : Parts) → ((t : ℕ) → MatchedOption HaveSameVoices (slice_get b.samples t) (slice_get c.samples t))
      → (i : Instrument) → InstrumentsAlike b c i i
  unfolding instrument_given
  same_instruments b c h i n u =
      voices_of-same (sample_given g b n u) (sample_given g c n u) (λ v t. sample_given-alike b c t t (h t) n u v) n
      i.global i.zones

  -- ---- one member replaced

  -- an instrument replaced by one that is alike
  instrument_changed-alike : (b : Parts) (k : ℕ) (f : Instrument → Instrument)
      →
      (let c : Parts =
      record b { instruments = changed b.instruments k f } in
      ((i : Instrument) → slice_get b.instruments k ≡ Some i → InstrumentsAlike b c i (f i))
      → GivenAlike g b c)
  instrument_changed-alike b k f h =
      let c : Parts = record b { instruments = changed b.instruments k f } in
      let same : (i : Instrument) → InstrumentsAlike b c i i =
      same_instruments b c (λ t. matched-option_same HaveSameVoices sound_same (slice_get b.samples t)) in
      given-alike b c (matched-same (PresetsAlike b c)
      (same_presets b c
      (λ t.
      matched-get (InstrumentsAlike b c) b.instruments c.instruments t
      (matched-changed (InstrumentsAlike b c) same f b.instruments k h)))
      b.presets)

  -- a preset replaced by one that is alike
  preset_changed-alike : (b : Parts) (k : ℕ) (f : Preset → Preset)
      →
      (let c : Parts =
      record b { presets = changed b.presets k f } in
      ((p : Preset) → slice_get b.presets k ≡ Some p → PresetsAlike b c p (f p))
      → GivenAlike g b c)
  preset_changed-alike b k f h =
      let c : Parts = record b { presets = changed b.presets k f } in
      let same : (p : Preset) → PresetsAlike b c p p =
      same_presets b c
      (λ t.
      matched-option_same (InstrumentsAlike b c)
      (same_instruments b c (λ k. matched-option_same HaveSameVoices sound_same (slice_get b.samples k)))
      (slice_get b.instruments t))
      in
      given-alike b c (matched-changed (PresetsAlike b c) same f b.presets k h)

  -- ---- zones of an owner

  pub owner_changed-alike : (b : Parts) (o : Owner) (f : GlobalZone → List Zone → List Zone)
      → OfOwner b o
      (λ global zones.
      (inside : Inside X) (n : Numbers)
      → IsPermutation (voices_of inside n global zones) (voices_of inside n global (f global zones)))
      → GivenAlike g b (owner_changed b o f)
  unfolding preset_given number_given instrument_given sample_given
  owner_changed-alike b (owner.Preset k) f h =
      preset_changed-alike b k (λ x. with_zones (f x.global x.zones) x)
      (λ p e. (refl, refl, λ n. h p e (number_given g b n) n))
  owner_changed-alike b (owner.Inst k) f h =
      instrument_changed-alike b k (λ x. with_zones (f x.global x.zones) x) (λ i e n u. h i e (sample_given g b n u) n)
