-- A split and a join undo each other, and after each of them the other can be done.
use Rattle.std.specs.Prelude.{◌≡◌, ◌<◌, ◌+◌, ◌^◌, ℕ, true, List, Some, slice_get, unwrap_or}
use Rattle.generators.specs.Ranges.{IsRange}
use Rattle.bank_parts.specs.declared.parts.GlobalZone.{GlobalZone}
use Rattle.bank_parts.specs.declared.parts.Zone.{Zone}
use Rattle.bank_parts.specs.declared.parts.ZoneOwner.{ZoneOwner}
use Rattle.bank_zone_ranges.specs.declared.axes.Axis.{Axis}
use Rattle.bank_zone_ranges.specs.declared.axes.Keep.{Keep}
use Rattle.bank_zone_ranges.specs.Ranges.{low_end, whole_range, own_range}
use Rattle.bank_zone_ranges.specs.Splits.{is_split_point, lower_zone, upper_zone, zone_split, are_joinable, joined}
use Rattle.bank_zone_ranges.specs.Splits.{zone_joined, keep_for}

-- the low end of the range that the zone sets itself
abbrev pub own_low : Axis → Zone → ℕ
own_low axis z = low_end (unwrap_or (own_range axis z) whole_range)

-- the range that the zone sets itself
abbrev pub own_amount : Axis → Zone → ℕ
own_amount axis z = unwrap_or (own_range axis z) whole_range

-- the join undoes the split
abbrev pub SplitUndone : Type 0 → Type 0
SplitUndone H =
    (owners : List (ZoneOwner H)) (i k : ℕ) (axis : Axis) (m : ℕ) (x : ZoneOwner H) (z : Zone)
    → slice_get owners i ≡ Some x → slice_get x.zones k ≡ Some z
    → m < 2 ^ 8 → is_split_point axis m x.global z ≡ true
    → zone_joined (zone_split owners i k axis m) i k axis (keep_for axis z) ≡ owners

-- the split undoes the join
abbrev pub JoinUndone : Type 0 → Type 0
JoinUndone H = (owners : List (ZoneOwner H)) (i k : ℕ) (axis : Axis) (keep : Keep) (x : ZoneOwner H) (y z : Zone)
    → slice_get owners i ≡ Some x → slice_get x.zones k ≡ Some y → slice_get x.zones (k + 1) ≡ Some z
    → are_joinable axis keep x.global y z ≡ true
    → zone_split (zone_joined owners i k axis keep) i k axis (own_low axis z) ≡ owners

-- after a split the two zones can be joined
abbrev pub SplitIsJoinable : Type 0
SplitIsJoinable = (axis : Axis) (m : ℕ) (global : GlobalZone) (z : Zone) → m < 2 ^ 8 → is_split_point axis m global z ≡ true
    → are_joinable axis (keep_for axis z) global (lower_zone axis m global z) (upper_zone axis m global z) ≡ true

-- after a join the zone can be split
abbrev pub JoinIsSplittable : Type 0
JoinIsSplittable =
    (axis : Axis) (keep : Keep) (global : GlobalZone) (y z : Zone) → are_joinable axis keep global y z ≡ true
    → IsRange (own_amount axis y) → IsRange (own_amount axis z)
    → is_split_point axis (own_low axis z) global (joined axis keep y z) ≡ true
