-- Presets whose zones match have the same voices for each note.
use Rattle.std.proofs.Common.{◌≡◌, ℕ, zero, suc, ◌<◌, cond, Option, Some, None, List, [], ◌∷◌, ◌++◌, length}
use Rattle.std.proofs.Common.{slice_get, refl, ap, ◌∙◌, arith}
use Rattle.std.specs.List.{flat_map}
use Rattle.std.specs.Option.{option_map_or}
use Rattle.script_notes.specs.Notes.{Numbers}
use Rattle.bank_parts.specs.declared.parts.Head.{Head}
use Rattle.bank_parts.specs.declared.parts.GlobalZone.{GlobalZone}
use Rattle.bank_parts.specs.declared.parts.Zone.{Zone}
use Rattle.bank_parts.specs.declared.parts.ZoneOwner.{ZoneOwner}
use Rattle.bank_parts.specs.declared.parts.Sample.{Sample}
use Rattle.bank_parts.specs.declared.parts.Parts.{Parts}
use Rattle.zone_select.specs.Ranges.{holds}
use Rattle.zone_select.specs.ZoneSettings.{ZoneSettings, setting, zone_settings}
use Rattle.zone_select.specs.Amounts.{parameters_of, is_looped}
use Rattle.zone_select.specs.Select.{Voice, voice_of, voices_of, sample_voices, instrument_voices, number_voices}
use Rattle.zone_select.specs.Select.{preset_voices, has_preset_numbers, selected}
use Rattle.plan_presets.specs.declared.numbers.PresetNumbers.{PresetNumbers}
use Rattle.plan_take.specs.Taking.{on_preset, preset_with}
use Rattle.plan_take.specs.Matches.{AreBoth, SamplesMatch, ZonesMatch, OwnersMatch}

-- ---- lists and options

-- both exist and R relates them, or neither exists
abbrev pub AreRelated : {X Y : Type 0} → (X → Y → Type 0) → Option X → Option Y → Type 0
AreRelated R None None = Unit {0}
AreRelated R None (Some y) = ⊥
AreRelated R (Some x) None = ⊥
AreRelated R (Some x) (Some y) = R x y

pub related : {X Y : Type 0} (R : X → Y → Type 0) (o : Option X) (p : Option Y) → AreBoth R o p → AreRelated R o p
related R None p h = absurd h
related R (Some x) None h = h
related R (Some x) (Some y) h = h

both_or : {X Y Z : Type 0} (R : X → Y → Type 0) (f : X → Z) (g : Y → Z) (d : Z)
    → ((x : X) (y : Y) → R x y → f x ≡ g y) → (o : Option X) (p : Option Y) → AreRelated R o p
    → option_map_or f o d ≡ option_map_or g p d
both_or R f g d e None None h = refl
both_or R f g d e None (Some y) h = absurd h
both_or R f g d e (Some x) None h = absurd h
both_or R f g d e (Some x) (Some y) h = e x y h

-- members of two lists with related numbers are related
abbrev pub AllRelated : {X Y : Type 0} → (X → Y → Type 0) → (ℕ → ℕ → Type 0) → List X → List Y → Type 0
AllRelated R T xs ys = (i j : ℕ) → T i j → AreRelated R (slice_get xs i) (slice_get ys j)

flat_map-matched : {X Y Z : Type 0} (R : X → Y → Type 0) (f : X → List Z) (g : Y → List Z)
    → ((x : X) (y : Y) → R x y → f x ≡ g y) → (xs : List X) (ys : List Y) → length xs ≡ length ys
    → ((k : ℕ) → k < length xs → AreBoth R (slice_get xs k) (slice_get ys k)) → flat_map f xs ≡ flat_map g ys
flat_map-matched R f g e [] [] l h = refl
flat_map-matched R f g e [] (y ∷ ys) l h = absurd (omega arith)
flat_map-matched R f g e (x ∷ xs) [] l h = absurd (omega arith)
flat_map-matched R f g e (x ∷ xs) (y ∷ ys) l h =
    let first = e x y (h zero (omega arith)) in
    let rest = flat_map-matched R f g e xs ys (omega arith) (λ k lt. h (suc k) (omega arith)) in
    λ i. first i ++ rest i

-- ---- a note, on a preset with the numbers k and on one with the numbers l

module _ (n : Numbers) (k l : PresetNumbers) where
  abbrev old : Numbers
  old = on_preset k n

  abbrev new : Numbers
  new = on_preset l n

  same_voice : (u v : ZoneSettings) (s t : Sample) → SamplesMatch s t → voice_of old v u s ≡ voice_of new v u t
  unfolding voice_of parameters_of is_looped
  same_voice u v s t e = λ i.
      (let x : Sample = record {
        name = s.name;
        points = e.points i;
        looped = e.looped i;
        rate = e.rate i;
        key = e.key i;
        correction = e.correction i;
        kind = s.kind;
      } in voice_of old v u x)

  module _ (T : ℕ → ℕ → Type 0) (a d : GlobalZone) (e : a ≡ d) where
    same_holds : (z w : Zone) → ZonesMatch T z w → holds old a z ≡ holds new d w
    unfolding holds
    same_holds z w s = λ i.
        (let x : Zone = record { target = z.target; gens = s.gens i; mods = s.mods i } in holds old (e i) x)

    same_settings : (z w : Zone) → ZonesMatch T z w → zone_settings a z ≡ zone_settings d w
    unfolding zone_settings setting
    same_settings z w s = λ i.
        (let x : Zone = record { target = z.target; gens = s.gens i; mods = s.mods i } in zone_settings (e i) x)

    -- the voices of the targets are the same
    module _ {X : Type 0} (f g : ZoneSettings → ℕ → List X)
        (inside : (u : ZoneSettings) (s t : ℕ) → T s t → f u s ≡ g u t) where
      same_zone : (z w : Zone) → ZonesMatch T z w
          → cond (holds old a z) (f (zone_settings a z) z.target) []
          ≡ cond (holds new d w) (g (zone_settings d w) w.target) []
      same_zone z w s =
          let held = same_holds z w s in
          let voices = ap (λ u. f u z.target) (same_settings z w s) ∙ inside (zone_settings d w) z.target w.target s.target in
          λ i. cond (held i) (voices i) []

      same_zones : (xs ys : List Zone) → length xs ≡ length ys
          → ((j : ℕ) → j < length xs → AreBoth (ZonesMatch T) (slice_get xs j) (slice_get ys j))
          → voices_of f old a xs ≡ voices_of g new d ys
      unfolding voices_of
      same_zones xs ys m h =
          flat_map-matched (ZonesMatch T) (λ (z : Zone). cond (holds old a z) (f (zone_settings a z) z.target) [])
          (λ (w : Zone). cond (holds new d w) (g (zone_settings d w) w.target) []) same_zone xs ys m h

  -- ---- members of two banks that match

  module _ (from b : Parts) (S I : ℕ → ℕ → Type 0) (heard : AllRelated SamplesMatch S from.samples b.samples)
      (played : AllRelated (OwnersMatch S) I from.instruments b.instruments) where
    same_samples : (u v : ZoneSettings) (s t : ℕ) → S s t
        → sample_voices from old u v s ≡ sample_voices b new u v t
    unfolding sample_voices
    same_samples u v s t h =
        both_or SamplesMatch (λ (x : Sample). voice_of old v u x ∷ []) (λ (x : Sample). voice_of new v u x ∷ []) []
        (λ x y e. ap (λ (r : Voice). r ∷ []) (same_voice u v x y e)) (slice_get from.samples s) (slice_get b.samples t)
        (heard s t h)

    same_instrument : (u : ZoneSettings) (x y : ZoneOwner (List ℕ)) → OwnersMatch S x y
        → instrument_voices from old u x ≡ instrument_voices b new u y
    unfolding instrument_voices
    same_instrument u x y m =
        same_zones S x.global y.global m.global (sample_voices from old u) (sample_voices b new u)
        (same_samples u) x.zones y.zones m.count m.zones

    same_instruments : (u : ZoneSettings) (i j : ℕ) → I i j
        → number_voices from old u i ≡ number_voices b new u j
    unfolding number_voices
    same_instruments u i j h =
        both_or (OwnersMatch S) (instrument_voices from old u) (instrument_voices b new u) [] (same_instrument u)
        (slice_get from.instruments i) (slice_get b.instruments j) (played i j h)

    same_preset : (x y : ZoneOwner Head) → OwnersMatch I x y → preset_voices from old x ≡ preset_voices b new y
    unfolding preset_voices
    same_preset x y m =
        same_zones I x.global y.global m.global (number_voices from old) (number_voices b new)
        same_instruments x.zones y.zones m.count m.zones

    pub same_selected : AreRelated (OwnersMatch I) (preset_with from.presets k) (preset_with b.presets l)
        → selected from old ≡ selected b new
    unfolding selected has_preset_numbers
    same_selected h =
        both_or (OwnersMatch I) (preset_voices from old) (preset_voices b new) [] same_preset
        (preset_with from.presets k) (preset_with b.presets l) h
