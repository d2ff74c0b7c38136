-- The zones of presets in a list, by their targets.
use Rattle.std.specs.Prelude.{◌≡◌, ℕ, Bool, List, Option}
use Rattle.std.specs.List.{flat_map, filter_map, list_any}
use Rattle.std.specs.List.Sorted.{IsNonDecreasingBy}
use Rattle.std.specs.Option.{option_map}
use Rattle.bank_parts.specs.declared.parts.Parts.{Parts}
use Rattle.bank_changes.specs.declared.members.Owner.{Owner}
use Rattle.bank_changes.specs.Members.{target_of}
use Rattle.show_zone_map.specs.Rectangles.{area_of, zone_numbers}
use Rattle.show_findings.specs.declared.zones.Use.{Use}
use Rattle.show_findings.specs.Numbers.{preset_owners}

abbrev pub use_of : ℕ → Parts → Owner → ℕ → Use
use_of t b o k = record { target = t; area = area_of b o k }

abbrev pub use_at : Parts → Owner → ℕ → Option Use
use_at b o k = option_map (λ (t : ℕ). use_of t b o k) (target_of b o k)

abbrev pub uses_in : Parts → List Use
uses_in b = flat_map (λ (o : Owner). filter_map (use_at b o) (zone_numbers b o)) (preset_owners b)

-- the targets ascend
abbrev pub AscendByTarget : List Use → Type 0
AscendByTarget uses = IsNonDecreasingBy (λ (u : Use). u.target) uses

-- the zones of all presets, with ascending targets
pub record AreSorted (b : Parts) (uses : List Use) : Type 0 where
  pub same : (p : Use → Bool) → list_any p uses ≡ list_any p (uses_in b)
  pub ascend : AscendByTarget uses
