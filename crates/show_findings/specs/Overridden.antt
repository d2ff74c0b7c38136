-- Generators that a global zone sets in vain.
use Rattle.std.specs.Prelude.{ℕ, Bool, cond, ◌&&◌, nat_lt, List, [], Option, Some, None, is_some}
use Rattle.std.specs.List.{flat_map, filter_map, list_all}
use Rattle.std.specs.Option.{unwrap_or}
use Rattle.bank_parts.specs.declared.parts.Parts.{Parts}
use Rattle.bank_parts.specs.Owners.{entries_at}
use Rattle.bank_changes.specs.declared.members.Owner.{Owner}
use Rattle.bank_changes.specs.declared.members.Place.{Place}
use Rattle.bank_changes.specs.declared.members.Place.TheVariants as place
use Rattle.bank_changes.specs.Members.{read_of_owner, zone_place, amount_of}
use Rattle.zone_select.specs.Remaining.{zones_in}
use Rattle.show_zone_map.specs.Rectangles.{zone_numbers}
use Rattle.show_findings.specs.declared.finding.Finding.{Finding}
use Rattle.show_findings.specs.declared.finding.Finding.TheVariants.{OverriddenGenerator}
use Rattle.show_findings.specs.Numbers.{owners}

-- the generators of a place with their amounts, in the order of a file
abbrev pub entries_of : Parts → Owner → Place → List (ℕ × ℕ)
entries_of b o at = unwrap_or (read_of_owner b o (λ _ owners i. entries_at owners i (zone_place at))) []

-- each zone sets the generator
abbrev pub is_set_by_all : Parts → Owner → ℕ → Bool
is_set_by_all b o op = list_all (λ k. is_some (amount_of b o (place.Zone k) op)) (zone_numbers b o)

-- there is a zone, and each sets the generator that the global zone sets
abbrev pub overridden_generator : Parts → Owner → ℕ × ℕ → Option Finding
overridden_generator b o entry =
    cond (nat_lt 0 (zones_in b o) && is_set_by_all b o entry.0) (Some (OverriddenGenerator o entry.0)) None

unfoldable pub overridden_generators : Parts → List Finding
overridden_generators b =
    flat_map (λ o. filter_map (overridden_generator b o) (entries_of b o place.Global)) (owners b)
