-- Zones of two banks that match: they are equal except for their targets, which match too.
use Rattle.std.specs.Prelude.{◌≡◌, ◌<◌, ℕ, List, length, Option, Some, None, slice_get}
use Rattle.bank_parts.specs.declared.parts.Zone.{Zone}
use Rattle.bank_parts.specs.declared.parts.ZoneOwner.{ZoneOwner}
use Rattle.bank_parts.specs.declared.parts.Sample.{Sample}
use Rattle.bank_parts.specs.declared.parts.Parts.{Parts}
use Rattle.plan_presets.specs.declared.numbers.TakenPreset.{TakenPreset}
use Rattle.plan_take.specs.Taking.{preset_with}

-- both exist, and R relates them
abbrev pub AreBoth : {X Y : Type 0} → (X → Y → Type 0) → Option X → Option Y → Type 0
AreBoth R None o = ⊥
AreBoth R (Some x) None = ⊥
AreBoth R (Some x) (Some y) = R x y

-- member i of `from` has the number j
abbrev pub HasNumber : List (Option ℕ) → ℕ → ℕ → Type 0
HasNumber numbers i j = slice_get numbers i ≡ Some (Some j)

-- each member of the first list that has a number matches the member of the second list with this number
abbrev pub AllMatch : {X Y : Type 0} → (X → Y → Type 0) → List (Option ℕ) → List X → List Y → Type 0
AllMatch R numbers xs ys = (i j : ℕ) → HasNumber numbers i j → AreBoth R (slice_get xs i) (slice_get ys j)

-- the samples are equal except for their names and kinds
pub record SamplesMatch (s t : Sample) : Type 0 where
  pub points : s.points ≡ t.points
  pub looped : s.looped ≡ t.looped
  pub rate : s.rate ≡ t.rate
  pub key : s.key ≡ t.key
  pub correction : s.correction ≡ t.correction

-- two zones with equal generators and modulators, whose targets T relates
pub record ZonesMatch (T : ℕ → ℕ → Type 0) (z w : Zone) : Type 0 where
  pub gens : z.gens ≡ w.gens
  pub mods : z.mods ≡ w.mods
  pub target : T z.target w.target

-- two presets or instruments with the same global zone, whose zones match in order
pub record OwnersMatch {H : Type 0} (T : ℕ → ℕ → Type 0) (x y : ZoneOwner H) : Type 0 where
  pub global : x.global ≡ y.global
  pub count : length x.zones ≡ length y.zones
  pub zones : (k : ℕ) → k < length x.zones → AreBoth (ZonesMatch T) (slice_get x.zones k) (slice_get y.zones k)

-- the same for their settings and zones, with the numbers that their targets have
abbrev pub Renumbered : {H : Type 0} → List (Option ℕ) → ZoneOwner H → ZoneOwner H → Type 0
Renumbered targets = OwnersMatch (HasNumber targets)

-- the preset matches the original
abbrev pub PresetsMatch : List (Option ℕ) → Parts → Parts → TakenPreset → Type 0
PresetsMatch instruments from b p =
    AreBoth (Renumbered instruments) (preset_with from.presets p.from) (preset_with b.presets p.to)
