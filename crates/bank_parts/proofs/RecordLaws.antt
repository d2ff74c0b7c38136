-- What the generator records state about presets or instruments.
use Rattle.std.proofs.Common.{if◌then◌else◌, ◌≡◌, ℕ, ◌<◌, ◌+◌, ◌^◌, ◌==◌, ◌&&◌, ◌||◌, not, suc, Bool, true, false}
use Rattle.std.proofs.Common.{List, [], ◌∷◌, ◌++◌, length, map, slice_get, Some, refl, sym, ◌∙◌, ap, length-append}
use Rattle.std.proofs.Common.{append-nil, arith}
use Rattle.std.specs.Prelude.{sum_by}
use Rattle.std.specs.List.{AllByRecursion, flat_map, list_any, list_all}
use Rattle.std.specs.FinMap.{entries, len, len-entries}
use Rattle.std.proofs.lemmas.Bool.Decides.{nat_tests}
use Rattle.std.proofs.lemmas.List.{nil_from_length, length-map}
use Rattle.std.proofs.lemmas.List.Concat.{flat_map-append}
use Rattle.std.proofs.lemmas.List.Sums.{sum_by-cons}
use Rattle.generators.specs.Gens.{Gens}
use Rattle.generators.specs.Levels.{target_operator}
use Rattle.generators.specs.declared.level.Level.{Level}
use Rattle.generators.specs.declared.level.Level.TheVariants as level
use Rattle.generators.proofs.EntryLaws.{entries_are_set}
use Rattle.flat_records.specs.Bags.{Bag, gens_in, mods_in}
use Rattle.flat_records.specs.Owned.{all_bags}
use Rattle.bank_parts.specs.declared.parts.GlobalZone.{GlobalZone}
use Rattle.bank_parts.specs.declared.parts.Zone.{Zone}
use Rattle.bank_parts.specs.declared.parts.ZoneOwner.{ZoneOwner}
use Rattle.bank_parts.specs.Owners.{targets}
use Rattle.bank_parts.specs.Valid.{global_count, zone_count, gen_count, mod_count}
use Rattle.bank_parts.specs.Counts.{counted}
use Rattle.bank_parts.specs.Bagged.{zone_bag, global_bag, global_bags, bags_of, IsPlain, IsPlainOwner}
use Rattle.bank_parts.specs.Records.{is_target}
use Rattle.bank_parts.specs.Flat.{RepresentOwners}

-- ---- tests

and_false : (b : Bool) → (b && false) ≡ false
and_false true = refl
and_false false = refl

pub and_true : (b : Bool) → (b && true) ≡ b
and_true true = refl
and_true false = refl

or_false : (b : Bool) → (b || false) ≡ b
or_false true = refl
or_false false = refl

pub not_or : (a b : Bool) → not (a || b) ≡ (not a && not b)
not_or true b = refl
not_or false b = refl

or-assoc : (a b c : Bool) → (a || (b || c)) ≡ ((a || b) || c)
or-assoc true b c = refl
or-assoc false b c = refl

and-assoc : (a b c : Bool) → (a && (b && c)) ≡ ((a && b) && c)
and-assoc true b c = refl
and-assoc false b c = refl

pub same_op : (op : ℕ) → (op == op) ≡ true
same_op op = grind (arith, nat_tests)

same_number : (a b : ℕ) → (a == b) ≡ true → a ≡ b
same_number a b e = grind (arith, nat_tests)

is_none : (n : ℕ) → (n == 0) ≡ true → n ≡ 0
is_none n e = same_number n 0 e

-- conjunctions in another order
pub six : (u v w x y z : Bool) → (((u && v) && w) && (x && (y && z))) ≡ ((w && x) && ((u && y) && (v && z)))
six true true true x y z = refl
six true true false x y z = refl
six true false w x y z = sym (ap (λ b. (w && x) && b) (and_false y) ∙ and_false (w && x))
six false v w x y z = sym (and_false (w && x))

pub five : (u v x y z : Bool) → ((u && v) && (x && (y && z))) ≡ (x && ((u && y) && (v && z)))
five true true x y z = refl
five true false x y z = sym (ap (λ b. x && b) (and_false y) ∙ and_false x)
five false v x y z = sym (and_false x)

module _ {X : Type 0} (t : X → Bool) where
  any-append : (xs ys : List X) → list_any t (xs ++ ys) ≡ (list_any t xs || list_any t ys)
  any-append [] ys = refl
  any-append (x ∷ xs) ys = ap (λ b. t x || b) (any-append xs ys) ∙ or-assoc (t x) (list_any t xs) (list_any t ys)

  pub all-append : (xs ys : List X) → list_all t (xs ++ ys) ≡ (list_all t xs && list_all t ys)
  all-append [] ys = refl
  all-append (x ∷ xs) ys = ap (λ b. t x && b) (all-append xs ys) ∙ and-assoc (t x) (list_all t xs) (list_all t ys)

-- ---- the records of a global zone, of zones and of an owner

module _ {X : Type 0} (f : Bag → List X) where
  split_bags : (bs cs : List Bag) → flat_map f (bs ++ cs) ≡ flat_map f bs ++ flat_map f cs
  split_bags bs cs = flat_map-append f bs cs

  records_of_both : (bs cs : List Bag)
      → length (flat_map f (bs ++ cs)) ≡ length (flat_map f bs) + length (flat_map f cs)
  records_of_both bs cs = ap length (split_bags bs cs) ∙ length-append (flat_map f bs) (flat_map f cs)

global_gens_by : (g : GlobalZone) (c : Bool) → (len g.gens + length g.mods == 0) ≡ c
    → gens_in (if c then [] else (global_bag g ∷ [])) ≡ entries g.gens
global_gens_by g true e =
    let none = is_none (len g.gens + length g.mods) e in
    let count = len-entries g.gens in
    sym (nil_from_length (entries g.gens) (omega arith))
global_gens_by g false e = append-nil (entries g.gens)

global_mods_by : (g : GlobalZone) (c : Bool) → (len g.gens + length g.mods == 0) ≡ c
    → mods_in (if c then [] else (global_bag g ∷ [])) ≡ g.mods
global_mods_by g true e =
    let none = is_none (len g.gens + length g.mods) e in sym (nil_from_length g.mods (omega arith))
global_mods_by g false e = append-nil g.mods

global_gens : (g : GlobalZone) → gens_in (global_bags g) ≡ entries g.gens
global_gens g = global_gens_by g (len g.gens + length g.mods == 0) refl

global_mods : (g : GlobalZone) → mods_in (global_bags g) ≡ g.mods
global_mods g = global_mods_by g (len g.gens + length g.mods == 0) refl

pub owner_gens : {H : Type 0} (op : ℕ) (x : ZoneOwner H)
    → gens_in (bags_of op x) ≡ entries x.global.gens ++ gens_in (map (zone_bag op) x.zones)
owner_gens op x =
    split_bags (λ (b : Bag). b.gens) (global_bags x.global) (map (zone_bag op) x.zones)
    ∙ ap (λ es. es ++ gens_in (map (zone_bag op) x.zones)) (global_gens x.global)

pub owner_mods : {H : Type 0} (op : ℕ) (x : ZoneOwner H)
    → mods_in (bags_of op x) ≡ x.global.mods ++ mods_in (map (zone_bag op) x.zones)
owner_mods op x =
    split_bags (λ (b : Bag). b.mods) (global_bags x.global) (map (zone_bag op) x.zones)
    ∙ ap (λ es. es ++ mods_in (map (zone_bag op) x.zones)) (global_mods x.global)

pub gens_before : {H : Type 0} (op : ℕ) (x : ZoneOwner H) (rest : List Bag)
    → gens_in (bags_of op x ++ rest) ≡ gens_in (bags_of op x) ++ gens_in rest
gens_before op x rest = split_bags (λ (b : Bag). b.gens) (bags_of op x) rest

pub mods_before : {H : Type 0} (op : ℕ) (x : ZoneOwner H) (rest : List Bag)
    → mods_in (bags_of op x ++ rest) ≡ mods_in (bags_of op x) ++ mods_in rest
mods_before op x rest = split_bags (λ (b : Bag). b.mods) (bags_of op x) rest

-- ---- no entry of a plain map is a target

others_by : (op : ℕ) (es : List (ℕ × ℕ)) → ((j w : ℕ) → slice_get es j ≡ Some (op, w) → ⊥)
    → AllByRecursion (λ e. (e.0 == op) ≡ false) es
others_by op [] none = tt
others_by op (e ∷ es) none = (
  elim (e.0 == op) as (λ b. (e.0 == op) ≡ b → b ≡ false) [
    | true ↦ λ is. let same = same_number e.0 op is in absurd (none 0 e.1 (λ i. Some (same i, e.1)))
    | false ↦ λ is. refl
  ] refl,
  others_by op es (λ j w there. none (suc j) w there),
)

pub others : (op : ℕ) (m : Gens) → IsPlain op m → AllByRecursion (λ e. (e.0 == op) ≡ false) (entries m)
others op m plain =
    others_by op (entries m) (λ j w there. let set = entries_are_set m j op w there in cc (set, plain.unset))

-- ---- which targets there are

module _ (op number : ℕ) where
  none_targets : (es : List (ℕ × ℕ)) → AllByRecursion (λ e. (e.0 == op) ≡ false) es
      → list_any (is_target op number) es ≡ false
  none_targets [] h = refl
  none_targets (e ∷ es) h =
      ap (λ b. (b && (e.1 == number)) || list_any (is_target op number) es) h.0 ∙ none_targets es h.1

  zone_targets : (z : Zone) → IsPlain op z.gens
      → list_any (is_target op number) (entries z.gens ++ (op, z.target) ∷ []) ≡ (z.target == number)
  zone_targets z plain =
      any-append (is_target op number) (entries z.gens) ((op, z.target) ∷ [])
      ∙ (ap (λ b. b || (((op == op) && (z.target == number)) || false))
      (none_targets (entries z.gens) (others op z.gens plain))
      ∙ (or_false ((op == op) && (z.target == number)) ∙ ap (λ b. b && (z.target == number)) (same_op op)))

  zones_target : (zones : List Zone) → AllByRecursion (λ (z : Zone). IsPlain op z.gens) zones
      → list_any (is_target op number) (gens_in (map (zone_bag op) zones))
      ≡ list_any (λ (z : Zone). z.target == number) zones
  zones_target [] h = refl
  zones_target (z ∷ zs) h =
      any-append (is_target op number) (entries z.gens ++ (op, z.target) ∷ []) (gens_in (map (zone_bag op) zs))
      ∙ (λ i. zone_targets z h.0 i || zones_target zs h.1 i)

  owner_targets : {H : Type 0} (x : ZoneOwner H) → IsPlainOwner op x
      → list_any (is_target op number) (gens_in (bags_of op x)) ≡ targets number x
  owner_targets x plain =
      ap (list_any (is_target op number)) (owner_gens op x)
      ∙ (any-append (is_target op number) (entries x.global.gens) (gens_in (map (zone_bag op) x.zones))
      ∙ (λ i. none_targets (entries x.global.gens) (others op x.global.gens plain.global) i
      || zones_target x.zones plain.zones i))

  owners_target : {H : Type 0} (owners : List (ZoneOwner H)) → AllByRecursion (IsPlainOwner op) owners
      → list_any (is_target op number) (gens_in (all_bags (map (bags_of op) owners))) ≡ list_any (targets number) owners
  owners_target [] h = refl
  owners_target (x ∷ xs) h =
      ap (list_any (is_target op number)) (gens_before op x (all_bags (map (bags_of op) xs)))
      ∙ (any-append (is_target op number) (gens_in (bags_of op x)) (gens_in (all_bags (map (bags_of op) xs)))
      ∙ (λ i. owner_targets x h.0 i || owners_target xs h.1 i))

no_target_zero : (at : Level) → (0 == target_operator at) ≡ false
no_target_zero level.Preset = refl
no_target_zero level.Inst = refl

-- the terminal is no target
pub any_target : {H : Type 0} (at : Level) (number : ℕ) {heads : List H} {bags : List (List Bag)}
    {owners : List (ZoneOwner H)}
    → RepresentOwners (target_operator at) heads bags owners
    → list_any (is_target (target_operator at) number) (gens_in (all_bags bags) ++ (0, 0) ∷ [])
    ≡ list_any (targets number) owners
any_target {H} at number {heads} {bags} {owners} a =
    let op = target_operator at in
    any-append (is_target op number) (gens_in (all_bags bags)) ((0, 0) ∷ [])
    ∙ (ap (λ b. list_any (is_target op number) (gens_in (all_bags bags)) || ((b && (0 == number)) || false))
    (no_target_zero at)
    ∙ (or_false (list_any (is_target op number) (gens_in (all_bags bags)))
    ∙ (ap (λ bs. list_any (is_target op number) (gens_in (all_bags bs))) a.bags
    ∙ owners_target op number owners a.plain)))

-- ---- how many records there are

by_cases : (c : Bool) (g : GlobalZone) → length (if c then [] else (global_bag g ∷ [])) ≡ (if c then 0 else 1)
by_cases true g = refl
by_cases false g = refl

counted_global : (g : GlobalZone) → length (global_bags g) ≡ global_count g
counted_global g = by_cases (len g.gens + length g.mods == 0) g

owner_zones : {H : Type 0} (op : ℕ) (x : ZoneOwner H) → length (bags_of op x) ≡ zone_count x.global x.zones
owner_zones op x =
    let parts = length-append (global_bags x.global) (map (zone_bag op) x.zones) in
    let zones = length-map x.zones (zone_bag op) in
    let global = counted_global x.global in
    omega arith

zones_gens : (op : ℕ) (zones : List Zone)
    → length (gens_in (map (zone_bag op) zones)) ≡ sum_by (λ (z : Zone). len z.gens + 1) zones
zones_gens op [] = refl
zones_gens op (z ∷ zs) =
    let parts = length-append (entries z.gens ++ (op, z.target) ∷ []) (gens_in (map (zone_bag op) zs)) in
    let own = length-append (entries z.gens) ((op, z.target) ∷ []) in
    let size = len-entries z.gens in
    let rest = zones_gens op zs in
    let sum = sum_by-cons (λ (z : Zone). len z.gens + 1) z zs in
    omega arith

zones_mods : (op : ℕ) (zones : List Zone)
    → length (mods_in (map (zone_bag op) zones)) ≡ sum_by (λ (z : Zone). length z.mods) zones
zones_mods op [] = refl
zones_mods op (z ∷ zs) =
    let parts = length-append z.mods (mods_in (map (zone_bag op) zs)) in
    let rest = zones_mods op zs in
    let sum = sum_by-cons (λ (z : Zone). length z.mods) z zs in
    omega arith

owner_gen_count : {H : Type 0} (op : ℕ) (x : ZoneOwner H) → length (gens_in (bags_of op x)) ≡ gen_count x.global x.zones
owner_gen_count op x =
    let all = ap length (owner_gens op x) in
    let parts = length-append (entries x.global.gens) (gens_in (map (zone_bag op) x.zones)) in
    let size = len-entries x.global.gens in
    let zones = zones_gens op x.zones in
    omega arith

owner_mod_count : {H : Type 0} (op : ℕ) (x : ZoneOwner H) → length (mods_in (bags_of op x)) ≡ mod_count x.global x.zones
owner_mod_count op x =
    let all = ap length (owner_mods op x) in
    let parts = length-append x.global.mods (mods_in (map (zone_bag op) x.zones)) in
    let zones = zones_mods op x.zones in
    omega arith

-- a total over all bags is the sum of the totals of each owner's bags
all_of : {H : Type 0} (op : ℕ) (size : List Bag → ℕ) (count : ZoneOwner H → ℕ) → size [] ≡ 0
    → ((bs cs : List Bag) → size (bs ++ cs) ≡ size bs + size cs)
    → ((x : ZoneOwner H) → size (bags_of op x) ≡ count x)
    → (owners : List (ZoneOwner H)) → size (all_bags (map (bags_of op) owners)) ≡ sum_by count owners
all_of op size count none both each [] = none
all_of op size count none both each (x ∷ xs) =
    let parts = both (bags_of op x) (all_bags (map (bags_of op) xs)) in
    let own = each x in
    let rest = all_of op size count none both each xs in
    let sum = sum_by-cons count x xs in
    omega arith

module _ {H : Type 0} (op : ℕ) where
  pub all_zones : (owners : List (ZoneOwner H))
      → length (all_bags (map (bags_of op) owners))
      ≡ sum_by (λ (x : ZoneOwner H). zone_count x.global x.zones) owners
  all_zones =
      all_of op (λ bs. length bs) (λ (x : ZoneOwner H). zone_count x.global x.zones) refl length-append
      (owner_zones op)

  pub all_gens : (owners : List (ZoneOwner H))
      → length (gens_in (all_bags (map (bags_of op) owners)))
      ≡ sum_by (λ (x : ZoneOwner H). gen_count x.global x.zones) owners
  all_gens =
      all_of op (λ bs. length (gens_in bs)) (λ (x : ZoneOwner H). gen_count x.global x.zones) refl
      (records_of_both (λ (b : Bag). b.gens)) (owner_gen_count op)

  pub all_mods : (owners : List (ZoneOwner H))
      → length (mods_in (all_bags (map (bags_of op) owners)))
      ≡ sum_by (λ (x : ZoneOwner H). mod_count x.global x.zones) owners
  all_mods =
      all_of op (λ bs. length (mods_in bs)) (λ (x : ZoneOwner H). mod_count x.global x.zones) refl
      (records_of_both (λ (b : Bag). b.mods)) (owner_mod_count op)

module _ {H : Type 0} {op : ℕ} {heads : List H} {bags : List (List Bag)} {owners : List (ZoneOwner H)}
    (a : RepresentOwners op heads bags owners) where
  pub zones_in_all : length (all_bags bags) ≡ sum_by (λ (x : ZoneOwner H). zone_count x.global x.zones) owners
  zones_in_all = ap (λ bs. length (all_bags bs)) a.bags ∙ all_zones op owners

  pub gens_in_all : length (gens_in (all_bags bags)) ≡ sum_by (λ (x : ZoneOwner H). gen_count x.global x.zones) owners
  gens_in_all = ap (λ bs. length (gens_in (all_bags bs))) a.bags ∙ all_gens op owners

  pub mods_in_all : length (mods_in (all_bags bags)) ≡ sum_by (λ (x : ZoneOwner H). mod_count x.global x.zones) owners
  mods_in_all = ap (λ bs. length (mods_in (all_bags bs))) a.bags ∙ all_mods op owners

-- saturated at 64 bits
pub counted_all : (n m : ℕ) → n ≡ m → n < 2 ^ 64 → n ≡ counted m
counted_all n m e h = omega arith
