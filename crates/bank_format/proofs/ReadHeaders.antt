-- The global zone and zones read from the bags of a preset or an instrument: they are valid except for targets, fit,
-- and have no more generators and modulators than the bags.
use Rattle.std.proofs.Common.{◌≡◌, ◌≤◌, ◌<◌, ◌+◌, ◌^◌, ℕ, Bool, true, false, cond, eqb, List, [], ◌∷◌, length, Some}
use Rattle.std.proofs.Common.{None, refl, ap, subst, arith}
use Rattle.std.specs.Prelude.{is_some, sum_by, filter_map}
use Rattle.std.specs.List.{AllByRecursion, cons_option, find}
use Rattle.std.specs.Option.{option_map}
use Rattle.std.specs.FinMap.{len}
use Rattle.std.proofs.lemmas.List.Sums.{sum_by-cons}
use Rattle.generators.specs.declared.level.Level.{Level}
use Rattle.modulators.specs.Modulators.{FitsModulator}
use Rattle.bank_parts.specs.declared.parts.GlobalZone.{GlobalZone}
use Rattle.bank_parts.specs.declared.parts.Zone.{Zone}
use Rattle.bank_parts.specs.Valid.{AreGenerators, global_count, zone_count, gen_count, mod_count}
use Rattle.bank_parts.specs.Fits.{FitsGlobal, FitsZone}
use Rattle.hydra_records.specs.declared.zone.Generator.{Generator}
use Rattle.hydra_records.specs.Fits.{FitsGenerator}
use Rattle.bank_format.specs.Zones.{Bagged, is_target, target_of, gens_read, zone_of, zone_read, zones_read}
use Rattle.bank_format.specs.Zones.{no_global, has_target, global_read}
use Rattle.bank_format.proofs.ReadZones.{gens_valid, gens_fit, len-gens_read, len-none, one_for}

-- a bag whose records are read from bytes
pub record FitsBagged (r : Bagged) : Type 0 where
  pub gens : AllByRecursion FitsGenerator r.gens
  pub mods : AllByRecursion FitsModulator r.mods

-- how many generators and modulators a bag has
abbrev pub gens_in : Bagged → ℕ
gens_in r = length r.gens

abbrev pub mods_in : Bagged → ℕ
mods_in r = length r.mods

-- how many generators (with the target) and modulators a zone has
abbrev zone_gens : Zone → ℕ
zone_gens z = len z.gens + 1

abbrev zone_mods : Zone → ℕ
zone_mods z = length z.mods

abbrev made_global : Level → Bagged → GlobalZone
made_global at r = record { gens = gens_read at r.gens; mods = r.mods }

module _ (at : Level) where
  abbrev later_zones : List Bagged → List Zone
  later_zones bags = filter_map (zone_read at) bags

  -- ---- generators that are allowed at the level

  abbrev pub HasGenerators : Zone → Type 0
  HasGenerators z = AreGenerators at z.gens

  pub zones_hold : (bags : List Bagged) → AllByRecursion HasGenerators (zones_read at bags)
  unfolding zones_read
  zones_hold [] = tt
  zones_hold (r ∷ bags) =
      elim (target_of at r.gens) as
      (λ o. AllByRecursion HasGenerators (cons_option (option_map (zone_of at r) o) (later_zones bags))) [
        | None ↦ zones_hold bags
        | Some t ↦ (gens_valid at r.gens, zones_hold bags)
      ]

  pub global_holds : (bags : List Bagged) → AreGenerators at (global_read at bags).gens
  unfolding global_read
  global_holds [] = gens_valid at []
  global_holds (r ∷ bags) =
      elim (has_target at r) as (λ b. AreGenerators at (cond b no_global (made_global at r)).gens) [
        | true ↦ gens_valid at []
        | false ↦ gens_valid at r.gens
      ]

  -- ---- numbers in range

  target_fits : (rs : List Generator) → AllByRecursion FitsGenerator rs → (t : ℕ) → target_of at rs ≡ Some t
      → t < 2 ^ 16
  target_fits [] v t e = absurd cc
  target_fits (r ∷ rs) v t e =
      elim (is_target at r) as
      (λ b.
      option_map (λ (x : Generator). x.amount) (cond b (Some r) (find (is_target at) rs)) ≡ Some t
      → t < 2 ^ 16) [
        | true ↦ λ h. (let same : r.amount ≡ t = cc in let f = v.0.amount in omega (arith, same, f))
        | false ↦ λ h. target_fits rs v.1 t h
      ] e

  pub zones_fit : (bags : List Bagged) → AllByRecursion FitsBagged bags → AllByRecursion FitsZone (zones_read at bags)
  unfolding zones_read
  zones_fit [] v = tt
  zones_fit (r ∷ bags) v =
      (elim (target_of at r.gens) as (λ o. target_of at r.gens ≡ o
      → AllByRecursion FitsZone (cons_option (option_map (zone_of at r) o) (later_zones bags))) [
        | None ↦ λ e. zones_fit bags v.1
        | Some t ↦ λ e. (
          record
              { target = target_fits r.gens v.0.gens t e; gens = gens_fit at r.gens v.0.gens; mods = v.0.mods },
          zones_fit bags v.1,
        )
      ]) refl

  none_fit : FitsGlobal no_global
  none_fit = record { gens = gens_fit at [] tt; mods = tt }

  pub global_fits : (bags : List Bagged) → AllByRecursion FitsBagged bags → FitsGlobal (global_read at bags)
  unfolding global_read
  global_fits [] v = none_fit
  global_fits (r ∷ bags) v = elim (has_target at r) as (λ b. FitsGlobal (cond b no_global (made_global at r))) [
    | true ↦ none_fit
    | false ↦ record { gens = gens_fit at r.gens v.0.gens; mods = v.0.mods }
  ]

  -- ---- the totals of the zones

  pub record AreCounted (bags : List Bagged) (g : GlobalZone) (zs : List Zone) : Type 0 where
    pub zones : zone_count g zs ≤ length bags
    pub gens : gen_count g zs ≤ sum_by gens_in bags
    pub mods : mod_count g zs ≤ sum_by mods_in bags

  -- the same without the global zone
  record HaveFew (bags : List Bagged) (zs : List Zone) : Type 0 where
    zones : length zs ≤ length bags
    gens : sum_by zone_gens zs ≤ sum_by gens_in bags
    mods : sum_by zone_mods zs ≤ sum_by mods_in bags

  few_zones : (bags : List Bagged) → HaveFew bags (later_zones bags)
  few_zones [] = record { zones = omega arith; gens = omega arith; mods = omega arith }
  few_zones (r ∷ bags) =
      let rest = few_zones bags in
      let zs = later_zones bags in
      let rz = rest.zones in
      let rg = rest.gens in
      let rm = rest.mods in
      let gs = sum_by-cons gens_in r bags in
      let ms = sum_by-cons mods_in r bags in
      let own = len-gens_read at r.gens in
      (elim (target_of at r.gens) as
      (λ o. target_of at r.gens ≡ o → HaveFew (r ∷ bags) (cons_option (option_map (zone_of at r) o) zs)) [
        | None ↦ λ e. record { zones = omega (arith, rz); gens = omega (arith, rg, gs); mods = omega (arith, rm, ms) }
        | Some t ↦ λ e.
            let z = zone_of at r t in
            let one : one_for (target_of at r.gens) ≡ 1 = ap one_for e in
            let zg = sum_by-cons zone_gens z zs in
            let zm = sum_by-cons zone_mods z zs in
            record {
              zones =
                  omega (arith, rz);
              gens = omega (arith, rg, gs, own, one, zg);
              mods = omega (arith, rm, ms, zm);
            }
      ]) refl

  -- an empty global zone has total zero, any other one its own totals
  no_global_count : global_count no_global ≡ 0
  no_global_count = ap (λ (n : ℕ). cond (eqb (n + 0) 0) 0 1) len-none

  one_at_most : (b : Bool) → cond b 0 1 ≤ 1
  one_at_most true = omega arith
  one_at_most false = omega arith

  pub counted : (bags : List Bagged) → AreCounted bags (global_read at bags) (zones_read at bags)
  unfolding global_read zones_read
  counted [] = record { zones = omega (arith, no_global_count); gens = omega (arith, len-none); mods = omega arith }
  counted (r ∷ bags) =
      let few = few_zones (r ∷ bags) in
      let rest = few_zones bags in
      let rz = rest.zones in
      let rg = rest.gens in
      let rm = rest.mods in
      let gs = sum_by-cons gens_in r bags in
      let ms = sum_by-cons mods_in r bags in
      let own = len-gens_read at r.gens in
      let few_global = one_at_most (eqb (len (gens_read at r.gens) + length r.mods) 0) in
      let zs = later_zones bags in
      (elim (target_of at r.gens) as (λ o. target_of at r.gens ≡ o → AreCounted (r ∷ bags)
      (cond (is_some o) no_global (made_global at r)) (cons_option (option_map (zone_of at r) o) zs)) [
        | None ↦ λ e.
            record {
              zones =
                  omega (arith, rz, few_global);
              gens = omega (arith, rg, gs, own);
              mods = omega (arith, rm, ms);
            }
        | Some t ↦ λ e.
            let all : HaveFew (r ∷ bags) (zone_of at r t ∷ zs) =
            subst (λ o. HaveFew (r ∷ bags) (cons_option (option_map (zone_of at r) o) zs)) e few in
            let az = all.zones in
            let ag = all.gens in
            let am = all.mods in
            record {
              zones =
                  omega (arith, no_global_count, az);
              gens = omega (arith, len-none, ag);
              mods = omega (arith, am);
            }
      ]) refl
