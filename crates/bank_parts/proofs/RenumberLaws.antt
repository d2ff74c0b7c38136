-- Renumbering of targets: of each generator with their operator, in all bags.
use Rattle.std.proofs.Common.{if◌then◌else◌, ◌≡◌, ◌<◌, ◌^◌, ◌==◌, ◌+◌, ◌-◌, ℕ, Bool, true, false, true≢false, List, []}
use Rattle.std.proofs.Common.{◌∷◌, ◌++◌, length, length-append, arith, map, take, refl, sym, subst, ◌∙◌, ap}
use Rattle.std.specs.Prelude.{All}
use Rattle.std.specs.List.{AllByRecursion}
use Rattle.std.specs.FinMap.{entries, len}
use Rattle.std.proofs.lemmas.List.{map-append, take_at}
use Rattle.std.proofs.lemmas.List.Elements.{All-from_recursion, All-same, All-take, recursion_from_All}
use Rattle.base_numbered_lists.specs.declared.renumbering.Renumbering.{Renumbering}
use Rattle.base_numbered_lists.specs.Renumbered.{renumbered}
use Rattle.flat_records.specs.Bags.{Bag, gens_in}
use Rattle.flat_records.specs.Renumbered.{gen_renumbered, bag_renumbered, CanRenumber, IsOnlyLast}
use Rattle.flat_records.proofs.RenumberLaws.{others_stay}
use Rattle.flat_records.specs.Owned.{all_bags}
use Rattle.bank_parts.specs.declared.parts.GlobalZone.{GlobalZone}
use Rattle.bank_parts.specs.declared.parts.Zone.{Zone}
use Rattle.bank_parts.specs.declared.parts.ZoneOwner.{ZoneOwner}
use Rattle.bank_parts.specs.Bagged.{zone_bag, global_bag, global_bags, bags_of, IsPlain, IsPlainOwner}
use Rattle.bank_parts.specs.Flat.{RepresentOwners}
use Rattle.bank_parts.specs.Renumbered.{zone_renumbered, owner_renumbered, CanRenumberOwner}
use Rattle.bank_parts.proofs.RecordLaws.{same_op, others, owner_gens, gens_before}

all_join : {X : Type 0} (P : X → Type 0) (xs ys : List X) → AllByRecursion P xs → AllByRecursion P ys
    → AllByRecursion P (xs ++ ys)
all_join P [] ys p q = q
all_join P (x ∷ xs) ys p q = (p.0, all_join P xs ys p.1 q)

module _ (op : ℕ) (by : Renumbering) where
  -- ---- the renumbered owners

  target_follows : (target : ℕ) → gen_renumbered op by (op, target) ≡ (op, renumbered by target)
  target_follows target = rw (same_op op) refl

  zone_follows : (z : Zone) → IsPlain op z.gens
      → bag_renumbered op by (zone_bag op z) ≡ zone_bag op (zone_renumbered by z)
  zone_follows z p =
      let gens = map-append (gen_renumbered op by) (entries z.gens) ((op, z.target) ∷ [])
      ∙ (λ i. others_stay op by (entries z.gens) (others op z.gens p) i ++ target_follows z.target i ∷ []) in
      λ i. record { gens = gens i; mods = z.mods }

  zones_follow : (zones : List Zone) → AllByRecursion (λ (z : Zone). IsPlain op z.gens) zones
      → map (bag_renumbered op by) (map (zone_bag op) zones) ≡ map (zone_bag op) (map (zone_renumbered by) zones)
  zones_follow [] p = refl
  zones_follow (z ∷ zs) p = λ i. zone_follows z p.0 i ∷ zones_follow zs p.1 i

  global_stays : (c : Bool) (g : GlobalZone) → IsPlain op g.gens
      → map (bag_renumbered op by) (if c then [] else (global_bag g ∷ [])) ≡ (if c then [] else (global_bag g ∷ []))
  global_stays true g p = refl
  global_stays false g p =
      let gens = others_stay op by (entries g.gens) (others op g.gens p) in
      λ i. record { gens = gens i; mods = g.mods } ∷ []

  module _ {H : Type 0} where
    owner_follows : (x : ZoneOwner H) → IsPlainOwner op x
        → map (bag_renumbered op by) (bags_of op x) ≡ bags_of op (owner_renumbered by x)
    owner_follows x p =
        map-append (bag_renumbered op by) (global_bags x.global) (map (zone_bag op) x.zones)
        ∙
        (λ i.
        global_stays (len x.global.gens + length x.global.mods == 0) x.global p.global i
        ++ zones_follow x.zones p.zones i)

    owners_follow : (owners : List (ZoneOwner H)) → AllByRecursion (IsPlainOwner op) owners
        → map (λ bags. map (bag_renumbered op by) bags) (map (bags_of op) owners)
        ≡ map (bags_of op) (map (owner_renumbered by) owners)
    owners_follow [] p = refl
    owners_follow (x ∷ xs) p = λ i. owner_follows x p.0 i ∷ owners_follow xs p.1 i

    heads_stay : (owners : List (ZoneOwner H))
        → map (λ (x : ZoneOwner H). x.head) owners
        ≡ map (λ (x : ZoneOwner H). x.head) (map (owner_renumbered by) owners)
    heads_stay [] = refl
    heads_stay (x ∷ xs) = ap (λ hs. x.head ∷ hs) (heads_stay xs)

  zones_plain : (zones : List Zone) → AllByRecursion (λ (z : Zone). IsPlain op z.gens) zones
      → AllByRecursion (λ (z : Zone). IsPlain op z.gens) (map (zone_renumbered by) zones)
  zones_plain [] p = tt
  zones_plain (z ∷ zs) p = (p.0, zones_plain zs p.1)

  owners_plain : {H : Type 0} (owners : List (ZoneOwner H)) → AllByRecursion (IsPlainOwner op) owners
      → AllByRecursion (IsPlainOwner op) (map (owner_renumbered by) owners)
  owners_plain [] p = tt
  owners_plain (x ∷ xs) p =
      let own = p.0 in (record { global = own.global; zones = zones_plain x.zones own.zones }, owners_plain xs p.1)

  pub all_follow : {H : Type 0} {heads : List H} {bags : List (List Bag)} {owners : List (ZoneOwner H)}
      → RepresentOwners op heads bags owners
      → (new : List (List Bag)) → new ≡ map (λ bags. map (bag_renumbered op by) bags) bags
      → RepresentOwners op heads new (map (owner_renumbered by) owners)
  all_follow {owners = owners} a new e = record {
    heads = a.heads ∙ heads_stay owners;
    bags = e ∙ (ap (map (λ bags. map (bag_renumbered op by) bags)) a.bags ∙ owners_follow owners a.plain);
    plain = owners_plain owners a.plain;
  }

  -- ---- that targets can be renumbered

  others_can : (es : List (ℕ × ℕ)) → AllByRecursion (λ e. (e.0 == op) ≡ false) es
      → AllByRecursion (CanRenumber op by) es
  others_can [] h = tt
  others_can (e ∷ es) h = (λ t. absurd (true≢false (sym t ∙ h.0)), others_can es h.1)

  zones_can : (zones : List Zone) → AllByRecursion (λ (z : Zone). IsPlain op z.gens) zones
      → AllByRecursion (λ (z : Zone). renumbered by z.target < 2 ^ 16) zones
      → AllByRecursion (CanRenumber op by) (gens_in (map (zone_bag op) zones))
  zones_can [] p can = tt
  zones_can (z ∷ zs) p can =
      let own =
      all_join (CanRenumber op by) (entries z.gens) ((op, z.target) ∷ [])
      (others_can (entries z.gens) (others op z.gens p.0)) ((λ t. can.0), tt) in
      all_join (CanRenumber op by) (entries z.gens ++ (op, z.target) ∷ []) (gens_in (map (zone_bag op) zs)) own
      (zones_can zs p.1 can.1)

  owners_can : {H : Type 0} (owners : List (ZoneOwner H)) → AllByRecursion (IsPlainOwner op) owners
      → AllByRecursion (CanRenumberOwner by) owners
      → AllByRecursion (CanRenumber op by) (gens_in (all_bags (map (bags_of op) owners)))
  owners_can [] p can = tt
  owners_can (x ∷ xs) p can =
      let own = p.0 in
      let zones =
      zones_can x.zones own.zones
      (recursion_from_All (λ (z : Zone). renumbered by z.target < 2 ^ 16) x.zones can.0) in
      let all =
      all_join (CanRenumber op by) (entries x.global.gens) (gens_in (map (zone_bag op) x.zones))
      (others_can (entries x.global.gens) (others op x.global.gens own.global)) zones in
      subst (AllByRecursion (CanRenumber op by)) (sym (gens_before op x (all_bags (map (bags_of op) xs))))
      (all_join (CanRenumber op by) (gens_in (bags_of op x)) (gens_in (all_bags (map (bags_of op) xs)))
      (subst (AllByRecursion (CanRenumber op by)) (sym (owner_gens op x)) all) (owners_can xs p.1 can.1))

  pub can_follow : {H : Type 0} {heads : List H} {bags : List (List Bag)} {owners : List (ZoneOwner H)}
      → RepresentOwners op heads bags owners
      → All (CanRenumberOwner by) owners → All (CanRenumber op by) (gens_in (all_bags bags))
  can_follow {owners = owners} a can =
      subst (λ bags. All (CanRenumber op by) (gens_in (all_bags bags))) (sym a.bags)
      (All-from_recursion (CanRenumber op by) (gens_in (all_bags (map (bags_of op) owners)))
      (owners_can owners a.plain (recursion_from_All (CanRenumberOwner by) owners can)))

  -- ---- that targets are last

  zone_last : (z : Zone) → IsPlain op z.gens → IsOnlyLast op (zone_bag op z)
  zone_last z p =
      let gens = entries z.gens ++ (op, z.target) ∷ [] in
      let n : length (entries z.gens) ≡ length gens - 1 =
      omega (arith, length-append (entries z.gens) ((op, z.target) ∷ [])) in
      All-same (λ e. (e.0 == op) ≡ false) (take (length gens - 1) gens) (entries z.gens)
      (take_at (entries z.gens) ((op, z.target) ∷ []) (length gens - 1) n)
      (All-from_recursion (λ e. (e.0 == op) ≡ false) (entries z.gens) (others op z.gens p))

  zones_last : (zones : List Zone) → AllByRecursion (λ (z : Zone). IsPlain op z.gens) zones
      → AllByRecursion (IsOnlyLast op) (map (zone_bag op) zones)
  zones_last [] p = tt
  zones_last (z ∷ zs) p = (zone_last z p.0, zones_last zs p.1)

  global_last : (c : Bool) (g : GlobalZone) → IsPlain op g.gens
      → AllByRecursion (IsOnlyLast op) (if c then [] else (global_bag g ∷ []))
  global_last true g p = tt
  global_last false g p =
      let n = length (entries g.gens) - 1 in (
        All-take (λ e. (e.0 == op) ≡ false) n (entries g.gens)
            (All-from_recursion (λ e. (e.0 == op) ≡ false) (entries g.gens) (others op g.gens p)),
        tt,
      )

  owners_last : {H : Type 0} (owners : List (ZoneOwner H)) → AllByRecursion (IsPlainOwner op) owners
      → AllByRecursion (IsOnlyLast op) (all_bags (map (bags_of op) owners))
  owners_last [] p = tt
  owners_last (x ∷ xs) p =
      let own = p.0 in
      let all =
      all_join (IsOnlyLast op) (global_bags x.global) (map (zone_bag op) x.zones)
      (global_last (len x.global.gens + length x.global.mods == 0) x.global own.global) (zones_last x.zones own.zones) in
      all_join (IsOnlyLast op) (bags_of op x) (all_bags (map (bags_of op) xs)) all (owners_last xs p.1)

  pub last_follow : {H : Type 0} {heads : List H} {bags : List (List Bag)} {owners : List (ZoneOwner H)}
      → RepresentOwners op heads bags owners → All (IsOnlyLast op) (all_bags bags)
  last_follow {owners = owners} a =
      subst (λ bags. All (IsOnlyLast op) (all_bags bags)) (sym a.bags)
      (All-from_recursion (IsOnlyLast op) (all_bags (map (bags_of op) owners)) (owners_last owners a.plain))
