-- The raw changes of zones.
use Rattle.std.specs.Prelude.{ℕ, Bool, List, Option}
use Rattle.bank_parts.specs.declared.parts.Zone.{Zone}
use Rattle.bank_parts.specs.declared.parts.Parts.{Parts}
use Rattle.bank_parts.specs.Settings.{zones_changed}
use Rattle.bank_parts.specs.ZoneChanges as list
use Rattle.bank_zone_ranges.specs.declared.axes.Axis.{Axis}
use Rattle.bank_zone_ranges.specs.declared.axes.Keep.{Keep}
use Rattle.bank_zone_ranges.specs.Ranges.{range_at}
use Rattle.bank_zone_ranges.specs.Splits as split
use Rattle.bank_changes.specs.declared.members.Owner.{Owner}
use Rattle.bank_changes.specs.Members.{read_of_owner, owner_list_changed}

-- the zones of an owner are changed by f, and nothing else changes
abbrev pub owner_zones_changed : Parts → Owner → (List Zone → List Zone) → Parts
owner_zones_changed b o f = owner_list_changed b o (λ _ owners i. zones_changed owners i f)

-- the zone is inserted as number k
abbrev pub zone_added : Parts → Owner → ℕ → Zone → Parts
zone_added b o k zone = owner_list_changed b o (λ _ owners i. list.zone_added owners i k zone)

-- zone k is removed
abbrev pub zone_removed : Parts → Owner → ℕ → Parts
zone_removed b o k = owner_list_changed b o (λ _ owners i. list.zone_removed owners i k)

-- a zone becomes another number, and the others keep their order
abbrev pub zone_moved : Parts → Owner → ℕ → ℕ → Parts
zone_moved b o from to = owner_list_changed b o (λ _ owners i. list.zone_moved owners i from to)

-- zone k has this target
abbrev pub target_set : Parts → Owner → ℕ → ℕ → Parts
target_set b o k target = owner_list_changed b o (λ _ owners i. list.target_set owners i k target)

-- zone k is split into two at m
abbrev pub zone_split : Parts → Owner → ℕ → Axis → ℕ → Parts
zone_split b o k axis m = owner_list_changed b o (λ _ owners i. split.zone_split owners i k axis m)

-- zone k and the next one are joined
abbrev pub zone_joined : Parts → Owner → ℕ → Axis → Keep → Parts
zone_joined b o k axis keep = owner_list_changed b o (λ _ owners i. split.zone_joined owners i k axis keep)

-- the zone exists, and m is greater than the low end and not above the high end of its effective range
abbrev pub can_split : Parts → Owner → ℕ → Axis → ℕ → Bool
can_split b o k axis m = read_of_owner b o (λ _ owners i. split.is_splittable_at axis m owners i k)

-- the zone and the next one exist and can be joined
abbrev pub can_join : Parts → Owner → ℕ → Axis → Keep → Bool
can_join b o k axis keep = read_of_owner b o (λ _ owners i. split.is_joinable_at axis keep owners i k)

-- the effective range of the zone
abbrev pub range_of_zone : Parts → Owner → ℕ → Axis → Option ℕ
range_of_zone b o k axis = read_of_owner b o (λ _ owners i. range_at axis owners i k)
