-- Split of a zone in two at a key or a velocity, join of two neighbouring zones, and when each can be done.
use Rattle.std.specs.Prelude.{ℕ, ◌+◌, ◌-◌, ◌==◌, ◌&&◌, nat_le, nat_lt, Bool, true, false, List, [], ◌∷◌, insert}
use Rattle.std.specs.Prelude.{remove, slice_get, slice_set, length, unwrap_or}
use Rattle.std.specs.Option.{option_map_or}
use Rattle.std.specs.FinMap.{entries, len}
use Rattle.std.specs.Ordering.{int_eq}
use Rattle.base_numbered_lists.specs.Moved.{changed}
use Rattle.modulators.specs.declared.modulator.Modulator.{Modulator}
use Rattle.bank_parts.specs.declared.counting.Records.{Records}
use Rattle.bank_parts.specs.declared.parts.GlobalZone.{GlobalZone}
use Rattle.bank_parts.specs.declared.parts.Zone.{Zone}
use Rattle.bank_parts.specs.declared.parts.ZoneOwner.{ZoneOwner}
use Rattle.bank_parts.specs.Settings.{with_zones}
use Rattle.bank_zone_ranges.specs.declared.axes.Axis.{Axis}
use Rattle.bank_zone_ranges.specs.declared.axes.Keep.{Keep}
use Rattle.bank_zone_ranges.specs.declared.axes.Keep.TheVariants as keep
use Rattle.bank_zone_ranges.specs.Ranges.{low_end, high_end, range_from, whole_range, own_range, inherited_range}
use Rattle.bank_zone_ranges.specs.Ranges.{range_of, with_range, without_range}

-- ---- split

-- m lies in the effective range of the zone, but not at the low end
abbrev pub is_split_point : Axis → ℕ → GlobalZone → Zone → Bool
is_split_point axis m global z = nat_lt (low_end (range_of axis global z)) m && nat_le m (high_end (range_of axis global z))

-- the first zone after a split at m
abbrev pub lower_zone : Axis → ℕ → GlobalZone → Zone → Zone
lower_zone axis m global z = with_range axis (range_from (low_end (range_of axis global z)) (m - 1)) z

-- the second zone after a split at m
abbrev pub upper_zone : Axis → ℕ → GlobalZone → Zone → Zone
upper_zone axis m global z = with_range axis (range_from m (high_end (range_of axis global z))) z

-- member k replaced by two members
abbrev pub split_in_two : {X : Type 0} → List X → ℕ → X → X → List X
split_in_two xs k x y = slice_set (insert xs (k + 1) y) k x

-- zone k replaced by its two halves: from its low end to m - 1, and from m on
abbrev pub zones_split : Axis → ℕ → GlobalZone → List Zone → ℕ → List Zone
zones_split axis m global zones k =
    option_map_or (λ (z : Zone). split_in_two zones k (lower_zone axis m global z) (upper_zone axis m global z))
    (slice_get zones k) zones

-- zone k of owner i is split
abbrev pub zone_split : {H : Type 0} → List (ZoneOwner H) → ℕ → ℕ → Axis → ℕ → List (ZoneOwner H)
zone_split owners i k axis m = changed owners i (λ x. with_zones (zones_split axis m x.global x.zones k) x)

-- ---- join

-- the same list of generators
abbrev pub same_gens : List (ℕ × ℕ) → List (ℕ × ℕ) → Bool
same_gens [] [] = true
same_gens (e ∷ es) (f ∷ fs) = e.0 == f.0 && e.1 == f.1 && same_gens es fs
same_gens _ _ = false

-- the same modulator
abbrev pub same_mod : Modulator → Modulator → Bool
same_mod m n =
    m.source == n.source && m.dest == n.dest && int_eq m.amount n.amount && m.amount_source == n.amount_source
    && m.transform == n.transform

-- the same list of modulators
abbrev pub same_mods : List Modulator → List Modulator → Bool
same_mods [] [] = true
same_mods (m ∷ ms) (n ∷ ns) = same_mod m n && same_mods ms ns
same_mods _ _ = false

-- the zones differ only in their own ranges on the axis
abbrev pub agree_but_range : Axis → Zone → Zone → Bool
agree_but_range axis y z =
    y.target == z.target && same_gens (entries (without_range axis y).gens) (entries (without_range axis z).gens)
    && same_mods y.mods z.mods

-- from the low end of the first range to the high end of the second
abbrev pub joint_range : ℕ → ℕ → ℕ
joint_range first second = range_from (low_end first) (high_end second)

-- the second range begins one above the end of the first; without a range of its own the joined zone inherits both
-- together
abbrev pub are_neighbours : Axis → Keep → GlobalZone → ℕ → ℕ → Bool
are_neighbours axis keep.Keep global first second = low_end second == high_end first + 1
are_neighbours axis keep.Bare global first second =
    low_end second == high_end first + 1 && joint_range first second == inherited_range axis global

-- both zones have ranges of their own, which are neighbours
abbrev pub have_neighbours : Axis → Keep → GlobalZone → Zone → Zone → Bool
have_neighbours axis keep global y z =
    option_map_or
    (λ first. option_map_or (λ second. are_neighbours axis keep global first second) (own_range axis z) false)
    (own_range axis y) false

-- the two zones can be joined
abbrev pub are_joinable : Axis → Keep → GlobalZone → Zone → Zone → Bool
are_joinable axis keep global y z = agree_but_range axis y z && have_neighbours axis keep global y z

-- the joined zone
abbrev pub joined : Axis → Keep → Zone → Zone → Zone
joined axis keep.Keep y z =
    with_range axis
    (joint_range (unwrap_or (own_range axis y) whole_range) (unwrap_or (own_range axis z) whole_range)) y
joined axis keep.Bare y z = without_range axis y

-- members k and k + 1 replaced by one member
abbrev pub merged : {X : Type 0} → List X → ℕ → X → List X
merged xs k x = slice_set (remove xs (k + 1)) k x

-- zones k and k + 1 replaced by the joined zone
abbrev pub zones_joined : Axis → Keep → List Zone → ℕ → List Zone
zones_joined axis keep zones k =
    option_map_or
    (λ (y : Zone).
    option_map_or (λ (z : Zone). merged zones k (joined axis keep y z)) (slice_get zones (k + 1)) zones)
    (slice_get zones k) zones

-- zones k and k + 1 of owner i are joined
abbrev pub zone_joined : {H : Type 0} → List (ZoneOwner H) → ℕ → ℕ → Axis → Keep → List (ZoneOwner H)
zone_joined owners i k axis keep = changed owners i (λ x. with_zones (zones_joined axis keep x.zones k) x)

-- ---- tests of the zones of an owner; false if there is no such zone

-- zone k can be split at m
abbrev pub is_splittable : {H : Type 0} → Axis → ℕ → ℕ → ZoneOwner H → Bool
is_splittable axis m k x = option_map_or (is_split_point axis m x.global) (slice_get x.zones k) false

-- zones k and k + 1 can be joined
abbrev pub is_joinable : {H : Type 0} → Axis → Keep → ℕ → ZoneOwner H → Bool
is_joinable axis keep k x =
    option_map_or (λ (y : Zone). option_map_or (are_joinable axis keep x.global y) (slice_get x.zones (k + 1)) false)
    (slice_get x.zones k) false

-- the join that undoes a split of the zone: the joined zone has a range of its own if the zone had one
abbrev pub keep_for : Axis → Zone → Keep
keep_for axis z = option_map_or (λ _. keep.Keep) (own_range axis z) keep.Bare

-- zone k of owner i can be split at m
abbrev pub is_splittable_at : {H : Type 0} → Axis → ℕ → List (ZoneOwner H) → ℕ → ℕ → Bool
is_splittable_at axis m owners i k = option_map_or (λ x. is_splittable axis m k x) (slice_get owners i) false

-- zones k and k + 1 of owner i can be joined
abbrev pub is_joinable_at : {H : Type 0} → Axis → Keep → List (ZoneOwner H) → ℕ → ℕ → Bool
is_joinable_at axis keep owners i k = option_map_or (λ x. is_joinable axis keep k x) (slice_get owners i) false

-- ---- records

-- the records of the zone with `more` generators in addition
abbrev pub records_with : ℕ → Zone → Records
records_with more z = record { zones = 1; gens = len z.gens + more; mods = length z.mods }

-- the records that a split of the zone adds: its own again, and two ranges if it had none
abbrev pub split_records : Axis → Zone → Records
split_records axis z = records_with (option_map_or (λ _. 1) (own_range axis z) 3) z
