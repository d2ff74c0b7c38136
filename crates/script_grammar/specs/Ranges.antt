-- The words for a zone's axis, and for whether it keeps its own range.
use Rattle.std.specs.Prelude.{ℕ, List, [], ◌∷◌, codes}
use Rattle.bank_zone_ranges.specs.declared.axes.Axis.{Axis}
use Rattle.bank_zone_ranges.specs.declared.axes.Axis.TheVariants as axis
use Rattle.bank_zone_ranges.specs.declared.axes.Keep.{Keep}
use Rattle.bank_zone_ranges.specs.declared.axes.Keep.TheVariants as keep

-- the axis of a range: key or velocity
abbrev pub axis_word : Axis → List ℕ
axis_word axis.Key = codes "key"
axis_word axis.Vel = codes "vel"

abbrev pub axes : List Axis
axes = axis.Key ∷ axis.Vel ∷ []

-- whether the range is the zone's own
abbrev pub keep_word : Keep → List ℕ
keep_word keep.Keep = codes "keep"
keep_word keep.Bare = codes "bare"

abbrev pub keeps : List Keep
keeps = keep.Keep ∷ keep.Bare ∷ []
