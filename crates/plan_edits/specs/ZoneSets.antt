-- Sets of zones.
use Rattle.std.specs.Prelude.{◌≡◌, ◌==◌, ◌&&◌, ℕ, Bool, true, false, List}
use Rattle.std.specs.List.{list_any}
use Rattle.bank_changes.specs.declared.members.Owner.{Owner}
use Rattle.bank_changes.specs.declared.members.Owner.TheVariants.{Preset, Inst}
use Rattle.plan_edits.specs.declared.zone_set.ZoneSet.{ZoneSet}

-- the numbers of an owner and of its zone are in a list
abbrev pub has_numbers : List (ℕ × ℕ) → ℕ → ℕ → Bool
has_numbers list i k = list_any (λ (x : ℕ × ℕ). x.0 == i && x.1 == k) list

-- no others than these are added
abbrev pub AddsNumbers : List (ℕ × ℕ) → List (ℕ × ℕ) → ℕ → ℕ → Type 0
AddsNumbers old new i k =
    (j l : ℕ) → has_numbers new j l ≡ true → has_numbers old j l ≡ false → (j ≡ i) × (l ≡ k)

-- the set has zone k of an owner
abbrev pub has_zone : ZoneSet → Owner → ℕ → Bool
has_zone set (Preset i) k = has_numbers set.of_presets.keys i k
has_zone set (Inst i) k = has_numbers set.of_instruments.keys i k

-- no zone is added but k of the owner
abbrev pub AddsZone : ZoneSet → ZoneSet → Owner → ℕ → Type 0
AddsZone old new o k =
    (p : Owner) (l : ℕ) → has_zone new p l ≡ true → has_zone old p l ≡ false → (p ≡ o) × (l ≡ k)
