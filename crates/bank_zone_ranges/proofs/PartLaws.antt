-- The zones after a split or a join are valid if the zones before are.
use Rattle.std.proofs.Common.{◌≡◌, ◌<◌, ◌^◌, ◌+◌, ◌-◌, ℕ, true, Option, Some, None, unwrap_or, refl, sym, ap, ◌∙◌}
use Rattle.std.proofs.Common.{arith}
use Rattle.std.specs.FinMap as map
use Rattle.generators.specs.Gens.{Gens, FitsEntry}
use Rattle.generators.specs.Ranges.{is_range_operator, IsRange}
use Rattle.generators.specs.declared.level.Level.{Level}
use Rattle.generators.proofs.EntryLaws as entries
use Rattle.generators.proofs.LevelLaws.{ranges_are_allowed}
use Rattle.bank_parts.specs.declared.parts.GlobalZone.{GlobalZone}
use Rattle.bank_parts.specs.declared.parts.Zone.{Zone}
use Rattle.bank_parts.specs.Valid.{IsGenerator, AreGenerators, IsZone}
use Rattle.bank_parts.specs.Fits.{FitsZone}
use Rattle.bank_zone_ranges.specs.declared.axes.Axis.{Axis}
use Rattle.bank_zone_ranges.specs.declared.axes.Axis.TheVariants.{Key, Vel}
use Rattle.bank_zone_ranges.specs.declared.axes.Keep.{Keep}
use Rattle.bank_zone_ranges.specs.declared.axes.Keep.TheVariants as keeping
use Rattle.bank_zone_ranges.specs.Ranges.{range_operator, low_end, high_end, range_from, whole_range, own_range}
use Rattle.bank_zone_ranges.specs.Ranges.{inherited_range, range_of, with_range, without_range}
use Rattle.bank_zone_ranges.specs.Splits.{joint_range, joined, are_joinable}
use Rattle.bank_zone_ranges.specs.Undone.{own_amount}
use Rattle.bank_zone_ranges.proofs.SplitLists.{all_at}
use Rattle.bank_zone_ranges.proofs.SplitLaws.{IsSplitAt, joined_at, low_of_range, high_of_range, low_is_small}

is_range : (axis : Axis) → is_range_operator (range_operator axis) ≡ true
is_range Key = refl
is_range Vel = refl

small_operator : (axis : Axis) → range_operator axis < 2 ^ 16
small_operator Key = omega arith
small_operator Vel = omega arith

small_range : (amount : ℕ) → IsRange amount → amount < 2 ^ 16
small_range amount h = let few = h.1 in omega (arith, few)

-- ---- zones with and without a range

module _ (at : Level) (targets : ℕ) (axis : Axis) (z : Zone) (v : IsZone at targets z) where
  pub valid_with : (amount : ℕ) → IsRange amount → IsZone at targets (with_range axis amount z)
  valid_with amount r = record {
    target = v.target;
    gens =
        entries.All-insert (IsGenerator at) z.gens (range_operator axis) amount
        (record { allowed = ranges_are_allowed at (range_operator axis) (is_range axis); range = λ _. r })
        v.gens;
  }

  pub valid_without : IsZone at targets (without_range axis z)
  valid_without =
      record { target = v.target; gens = entries.All-remove (IsGenerator at) z.gens (range_operator axis) v.gens }

module _ (axis : Axis) (z : Zone) (f : FitsZone z) where
  pub fits_with : (amount : ℕ) → IsRange amount → FitsZone (with_range axis amount z)
  fits_with amount r =
      record {
        target =
            f.target;
        gens =
            entries.All-insert FitsEntry z.gens (range_operator axis) amount
            (small_operator axis, small_range amount r) f.gens;
        mods =
            f.mods;
      }

  pub fits_without : FitsZone (without_range axis z)
  fits_without =
      record
      { target = f.target; gens = entries.All-remove FitsEntry z.gens (range_operator axis) f.gens; mods = f.mods }

-- ---- the effective range

either_range : (o : Option ℕ) (d : ℕ) → ((w : ℕ) → o ≡ Some w → IsRange w) → IsRange d → IsRange (unwrap_or o d)
either_range None d h r = r
either_range (Some w) d h r = h w refl

module _ (at : Level) (axis : Axis) where
  pub set_range : (gens : Gens) (w : ℕ) → AreGenerators at gens → map.get gens (range_operator axis) ≡ Some w
      → IsRange w
  set_range gens w v e =
      let (j, there) = entries.set_is_entry gens (range_operator axis) w e in
      (all_at (IsGenerator at) (map.entries gens) j (range_operator axis, w) there v).range (is_range axis)

  pub range_holds : (global : GlobalZone) (z : Zone) → AreGenerators at global.gens → AreGenerators at z.gens
      → IsRange (range_of axis global z)
  range_holds global z g v =
      either_range (own_range axis z) (inherited_range axis global) (λ w e. set_range z.gens w v e)
      (either_range (map.get global.gens (range_operator axis)) whole_range (λ w e. set_range global.gens w g e)
      (omega arith, omega arith))

  pub own_holds : (z : Zone) → AreGenerators at z.gens → IsRange (own_amount axis z)
  own_holds z v = either_range (own_range axis z) whole_range (λ w e. set_range z.gens w v e) (omega arith, omega arith)

-- ---- the ranges of both halves

module _ (axis : Axis) (m : ℕ) (global : GlobalZone) (z : Zone) (h : IsSplitAt axis m global z)
    (r : IsRange (range_of axis global z)) where
  pub small_split : m < 256
  small_split = let within = h.within in let few = r.1 in omega (arith, within, few)

  pub lower_is_range : IsRange (range_from (low_end (range_of axis global z)) (m - 1))
  lower_is_range =
      let w = range_of axis global z in
      let low = low_of_range (low_end w) (m - 1) (low_is_small w) in
      let high = high_of_range (low_end w) (m - 1) (low_is_small w) in
      let above = h.above in
      let within = h.within in
      let few = r.1 in
      (omega (arith, low, high, above), omega (arith, high, within, few))

  pub upper_is_range : IsRange (range_from m (high_end (range_of axis global z)))
  upper_is_range =
      let w = range_of axis global z in
      let low = low_of_range m (high_end w) small_split in
      let high = high_of_range m (high_end w) small_split in
      let within = h.within in
      let few = r.1 in
      (omega (arith, low, high, within), omega (arith, high, few))

pub joint_is_range : (v w : ℕ) → low_end w ≡ high_end v + 1 → IsRange v → IsRange w → IsRange (joint_range v w)
joint_is_range v w next r s =
    let low = low_of_range (low_end v) (high_end w) (low_is_small v) in
    let high = high_of_range (low_end v) (high_end w) (low_is_small v) in
    let a = r.0 in
    let b = s.0 in
    let few = s.1 in
    (omega (arith, low, high, next, a, b), omega (arith, high, few))

-- ---- joined zones

module _ (axis : Axis) (global : GlobalZone) (y z : Zone) where
  pub joined_range : (keep : Keep) → are_joinable axis keep global y z ≡ true → IsRange (own_amount axis y)
      → IsRange (own_amount axis z) → IsRange (joint_range (own_amount axis y) (own_amount axis z))
  joined_range keep h r s =
      let j = joined_at axis keep global y z h in
      let v = ap (λ o. unwrap_or o whole_range) j.own_first in
      let w = ap (λ o. unwrap_or o whole_range) j.own_second in
      joint_is_range (own_amount axis y) (own_amount axis z)
      (ap low_end w ∙ j.next ∙ sym (ap (λ n. high_end n + 1) v)) r s

  pub valid_joined : (at : Level) (targets : ℕ) (keep : Keep) → IsZone at targets y
      → IsRange (joint_range (own_amount axis y) (own_amount axis z)) → IsZone at targets (joined axis keep y z)
  valid_joined at targets keeping.Keep v r =
      valid_with at targets axis y v (joint_range (own_amount axis y) (own_amount axis z)) r
  valid_joined at targets keeping.Bare v r = valid_without at targets axis y v

  pub fits_joined : (keep : Keep) → FitsZone y → IsRange (joint_range (own_amount axis y) (own_amount axis z))
      → FitsZone (joined axis keep y z)
  fits_joined keeping.Keep f r = fits_with axis y f (joint_range (own_amount axis y) (own_amount axis z)) r
  fits_joined keeping.Bare f r = fits_without axis y f
