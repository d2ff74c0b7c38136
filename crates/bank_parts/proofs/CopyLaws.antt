-- Copies of owners equal the owners in the flat lists.
use Rattle.std.proofs.Common.{◌≡◌, ℕ, ◌<◌, ◌≤◌, suc, List, [], ◌∷◌, ◌++◌, length, take, slice_get, Option, Some}
use Rattle.std.proofs.Common.{None, Result, Ok, Err, IfOk, refl, sym, subst, ◌∙◌, ap, arith}
use Rattle.std.specs.FinMap.{entries, same_entries_map}
use Rattle.std.specs.Option.{IfSome, IsSomeAnd, option_map, option_and_then}
use Rattle.generators.specs.Gens.{Gens, FitGens, AreGens}
use Rattle.modulators.specs.declared.modulator.Modulator.{Modulator}
use Rattle.bank_parts.specs.declared.parts.GlobalZone.{GlobalZone}
use Rattle.bank_parts.specs.declared.parts.Zone.{Zone}
use Rattle.bank_parts.specs.declared.parts.ZoneOwner.{ZoneOwner}
use Rattle.bank_parts.proofs.GenLaws.{are_gens}
use Rattle.bank_parts.proofs.AppendLaws.{take-next, take-all}

pub gens_held : (o : Option Gens) (es : List (ℕ × ℕ)) → option_map entries o ≡ Some es → IfSome o FitGens → AreGens es
gens_held None es e fit = cc
gens_held (Some m) es e fit = let same : entries m ≡ es = cc in subst AreGens same (are_gens m fit)

same_gens : (o : Option Gens) (es : List (ℕ × ℕ)) (m : Gens) → option_map entries o ≡ Some es → entries m ≡ es
    → o ≡ Some m
same_gens None es m e f = cc
same_gens (Some n) es m e f = let same : entries n ≡ es = cc in ap Some (same_entries_map n m (same ∙ sym f))

pub gens_copied : {E : Type 0} (o : Option Gens) (es : List (ℕ × ℕ)) (r : Result Gens E)
    → option_map entries o ≡ Some es → IfOk r (λ m. entries m ≡ es) → IfOk r (λ m. o ≡ Some m)
gens_copied o es (Ok m) e h = same_gens o es m e h
gens_copied o es (Err x) e h = tt

pub zone_of : (o : Option Zone) (target : ℕ) (gens : Gens) (mods : List Modulator)
    → option_map (λ (z : Zone). z.target) o ≡ Some target → option_map (λ (z : Zone). z.gens) o ≡ Some gens
    → option_map (λ (z : Zone). z.mods) o ≡ Some mods → o ≡ Some (record { target = target; gens = gens; mods = mods })
zone_of None target gens mods t g m = cc
zone_of (Some z) target gens mods t g m =
    let same_t : z.target ≡ target = cc in
    let same_g : z.gens ≡ gens = cc in
    let same_m : z.mods ≡ mods = cc in
    λ i. Some (record { target = same_t i; gens = same_g i; mods = same_m i })

pub no_zones : (o : Option (List Zone)) → IfSome o (λ all. [] ≡ take 0 all)
no_zones None = tt
no_zones (Some all) = refl

module _ {H : Type 0} where
  pub global_of : (o : Option (ZoneOwner H)) (gens : Gens) (mods : List Modulator)
      → option_map (λ (x : ZoneOwner H). x.global.gens) o ≡ Some gens
      → option_map (λ (x : ZoneOwner H). x.global.mods) o ≡ Some mods
      → option_map (λ (x : ZoneOwner H). x.global) o ≡ Some (record { gens = gens; mods = mods })
  global_of None gens mods g m = cc
  global_of (Some x) gens mods g m =
      let same_g : x.global.gens ≡ gens = cc in
      let same_m : x.global.mods ≡ mods = cc in
      λ i. Some (record { gens = same_g i; mods = same_m i })

  pub owner_of : (o : Option (ZoneOwner H)) (head : H) (global : GlobalZone) (zones : List Zone)
      → option_map (λ (x : ZoneOwner H). x.head) o ≡ Some head
      → option_map (λ (x : ZoneOwner H). x.global) o ≡ Some global
      → option_map (λ (x : ZoneOwner H). x.zones) o ≡ Some zones
      → o ≡ Some (record { head = head; global = global; zones = zones })
  owner_of None head global zones h g z = cc
  owner_of (Some x) head global zones h g z =
      let same_h : x.head ≡ head = cc in
      let same_g : x.global ≡ global = cc in
      let same_z : x.zones ≡ zones = cc in
      λ i. Some (record { head = same_h i; global = same_g i; zones = same_z i })

  -- ---- zones one by one

  pub place_within : (o : Option (ZoneOwner H)) (n k : ℕ)
      → option_map (λ (x : ZoneOwner H). length x.zones) o ≡ Some n → k < n
      → IsSomeAnd (option_map (λ (x : ZoneOwner H). length x.zones) o) (λ n. k < n)
  place_within o n k e h = subst (λ o. IsSomeAnd o (λ n. k < n)) (sym e) h

  pub next_copied : (o : Option (ZoneOwner H)) (k : ℕ) (zones : List Zone) (z : Zone)
      → IfSome (option_map (λ (x : ZoneOwner H). x.zones) o) (λ all. zones ≡ take k all)
      → option_and_then (λ (x : ZoneOwner H). slice_get x.zones k) o ≡ Some z
      → IfSome (option_map (λ (x : ZoneOwner H). x.zones) o) (λ all. zones ++ z ∷ [] ≡ take (suc k) all)
  next_copied None k zones z h e = tt
  next_copied (Some x) k zones z h e = ap (λ zs. zs ++ z ∷ []) h ∙ sym (take-next x.zones k z e)

  pub all_copied : (o : Option (ZoneOwner H)) (n k : ℕ) (zones : List Zone)
      → option_map (λ (x : ZoneOwner H). length x.zones) o ≡ Some n → n ≤ k
      → IfSome (option_map (λ (x : ZoneOwner H). x.zones) o) (λ all. zones ≡ take k all)
      → option_map (λ (x : ZoneOwner H). x.zones) o ≡ Some zones
  all_copied None n k zones count over h = cc
  all_copied (Some x) n k zones count over h =
      let same : length x.zones ≡ n = cc in ap Some (sym (h ∙ take-all x.zones k (omega arith)))
