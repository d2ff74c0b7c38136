-- Steps that edit the zones of a preset or an instrument: their effects, causes of refusal, and inverses.
use Rattle.std.specs.Prelude.{◌<◌, ◌^◌, ◌+◌, ℕ, Bool, true, false, List, [], ◌∷◌, unwrap_or, Option, Some, None}
use Rattle.std.specs.Option.{option_map_or}
use Rattle.bank_parts.specs.declared.parts.Zone.{Zone}
use Rattle.bank_parts.specs.declared.parts.Parts.{Parts}
use Rattle.bank_parts.specs.Fits.{FitsZone}
use Rattle.bank_zone_ranges.specs.Ranges.{low_end, own_range, whole_range}
use Rattle.bank_zone_ranges.specs.Splits.{keep_for}
use Rattle.bank_changes.specs.declared.members.Owner.{Owner}
use Rattle.bank_changes.specs.Members.{level_of, zone_of, target_of}
use Rattle.bank_changes.specs.Zones.{zone_added, zone_removed, zone_moved, zone_split, zone_joined, target_set}
use Rattle.edit_forms.specs.declared.zones.ZoneStep.{ZoneStep}
use Rattle.edit_forms.specs.declared.zones.ZoneStep.TheVariants.{AddZone, RemoveZone, MoveZone, SplitZone, JoinZone}
use Rattle.edit_forms.specs.declared.zones.ZoneStep.TheVariants.{SetTarget}
use Rattle.edit_forms.specs.Causes.{Test, zone_total, no_such_zone, no_such_target_of, bad_member_index, bad_insert_index}
use Rattle.edit_forms.specs.Causes.{bad_zone_generator, bad_zone_range, split_outside, not_joinable}

-- each number, name and text is in the range of its field
abbrev pub Fits : ZoneStep → Type 0
Fits (AddZone at zone) = (at < 2 ^ 32) × FitsZone zone
Fits (RemoveZone zone) = zone < 2 ^ 32
Fits (MoveZone from to) = (from < 2 ^ 32) × (to < 2 ^ 32)
Fits (SplitZone zone axis at) = (zone < 2 ^ 32) × (at < 2 ^ 8)
Fits (JoinZone zone axis kept) = zone < 2 ^ 32
Fits (SetTarget zone target) = (zone < 2 ^ 32) × (target < 2 ^ 16)

-- the bank after an accepted step
abbrev pub raw : Parts → Owner → ZoneStep → Parts
raw b o (AddZone at zone) = zone_added b o at zone
raw b o (RemoveZone zone) = zone_removed b o zone
raw b o (MoveZone from to) = zone_moved b o from to
raw b o (SplitZone zone axis at) = zone_split b o zone axis at
raw b o (JoinZone zone axis kept) = zone_joined b o zone axis kept
raw b o (SetTarget zone target) = target_set b o zone target

-- the step's possible causes of refusal, in the order of their numbers
abbrev pub causes : Parts → Owner → ZoneStep → List Test
causes b o (AddZone at zone) =
    no_such_target_of b o zone.target
    ∷ bad_insert_index (zone_total b o) at
    ∷ bad_zone_generator (level_of o) zone
    ∷ bad_zone_range zone
    ∷ []
causes b o (RemoveZone zone) = no_such_zone b o zone ∷ []
causes b o (MoveZone from to) = no_such_zone b o from ∷ bad_member_index (zone_total b o) to ∷ []
causes b o (SplitZone zone axis at) = no_such_zone b o zone ∷ split_outside b o zone axis at ∷ []
causes b o (JoinZone zone axis kept) = no_such_zone b o (zone + 1) ∷ not_joinable b o zone axis kept ∷ []
causes b o (SetTarget zone target) = no_such_target_of b o target ∷ no_such_zone b o zone ∷ []

-- the inverse step, computed from the bank before the step
abbrev pub inverse : Parts → Owner → ZoneStep → ZoneStep
inverse b o (AddZone at zone) = RemoveZone at
inverse b o (RemoveZone zone) = option_map_or (λ (z : Zone). AddZone zone z) (zone_of b o zone) (RemoveZone zone)
inverse b o (MoveZone from to) = MoveZone to from
inverse b o (SplitZone zone axis at) =
    option_map_or (λ (z : Zone). JoinZone zone axis (keep_for axis z)) (zone_of b o zone) (SplitZone zone axis at)
inverse b o (JoinZone zone axis kept) =
    option_map_or (λ (z : Zone). SplitZone zone axis (low_end (unwrap_or (own_range axis z) whole_range)))
    (zone_of b o (zone + 1)) (JoinZone zone axis kept)
inverse b o (SetTarget zone target) =
    option_map_or (λ (was : ℕ). SetTarget zone was) (target_of b o zone) (SetTarget zone target)

-- applying the step allocates nothing
abbrev pub AllocatesNothing : ZoneStep → Type 0
AllocatesNothing (AddZone at zone) = ⊥
AllocatesNothing (RemoveZone zone) = ⊥
AllocatesNothing (MoveZone from to) = ⊥
AllocatesNothing (SplitZone zone axis at) = ⊥
AllocatesNothing (JoinZone zone axis kept) = ⊥
AllocatesNothing (SetTarget zone target) = Unit {0}

-- the step changes no sound, for any bank
abbrev pub is_neutral : ZoneStep → Bool
is_neutral (AddZone at zone) = false
is_neutral (RemoveZone zone) = false
is_neutral (MoveZone from to) = true
is_neutral (SplitZone zone axis at) = true
is_neutral (JoinZone zone axis kept) = true
is_neutral (SetTarget zone target) = false

-- the zone that the step adds
abbrev pub added_zone : ZoneStep → Option Zone
added_zone (AddZone at zone) = Some zone
added_zone _ = None
