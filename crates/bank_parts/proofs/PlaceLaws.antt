-- The bag of a place among the bags of its owner, and the owner after a change of that bag.
use Rattle.std.proofs.Common.{if◌then◌else◌, ◌≡◌, ℕ, ◌<◌, ◌≤◌, ◌+◌, ◌-◌, ◌==◌, Bool, true, false, List, [], ◌∷◌}
use Rattle.std.proofs.Common.{◌++◌, length, map, slice_get, Option, Some, None, refl, sym, subst, ◌∙◌, ap}
use Rattle.std.proofs.Common.{length-append, arith}
use Rattle.std.specs.FinMap.{len}
use Rattle.std.specs.Option.{IfSome, IsSome, option_map, option_and_then}
use Rattle.std.proofs.lemmas.List.{length-map}
use Rattle.std.proofs.lemmas.Bool.Decides.{nat_tests}
use Rattle.base_numbered_lists.proofs.Lists.{slice_get-found, slice_get-within}
use Rattle.flat_records.specs.Bags.{Bag}
use Rattle.flat_records.specs.Owned.{bag_at}
use Rattle.bank_parts.specs.declared.parts.GlobalZone.{GlobalZone}
use Rattle.bank_parts.specs.declared.parts.Zone.{Zone}
use Rattle.bank_parts.specs.declared.parts.ZoneOwner.{ZoneOwner}
use Rattle.bank_parts.specs.declared.owners.ZonePlace.{ZonePlace}
use Rattle.bank_parts.specs.declared.owners.ZonePlace.TheVariants as place
use Rattle.bank_parts.specs.Owners.{zone_count_at}
use Rattle.bank_parts.specs.Bagged.{zone_bag, global_bag, global_bags, bags_of, bag_number, ends_in, IsPlain}
use Rattle.bank_parts.specs.Bagged.{IsPlainOwner}
use Rattle.bank_parts.specs.Flat.{RepresentOwners}
use Rattle.bank_parts.proofs.ReadLaws.{zone-ends, plain-ends}
use Rattle.bank_parts.proofs.MemberLaws.{bags_at, plain_at}

-- ---- the bag of a global zone

is_zero : (n : ℕ) → n ≡ 0 → (n == 0) ≡ true
is_zero n e = grind (arith, nat_tests)

not_zero : (n : ℕ) → 0 < n → (n == 0) ≡ false
not_zero n e = grind (arith, nat_tests)

pub no_global_bag : (g : GlobalZone) → len g.gens + length g.mods ≡ 0 → global_bags g ≡ []
no_global_bag g e = ap (λ c. if c then [] else (global_bag g ∷ [])) (is_zero (len g.gens + length g.mods) e)

pub one_global_bag : (g : GlobalZone) → 0 < len g.gens + length g.mods → global_bags g ≡ global_bag g ∷ []
one_global_bag g h = ap (λ c. if c then [] else (global_bag g ∷ [])) (not_zero (len g.gens + length g.mods) h)

first_own : (op : ℕ) (g : GlobalZone) (zones : List Zone) (c : Bool) (b : Bag) → IsPlain op g.gens
    → slice_get ((if c then [] else (global_bag g ∷ [])) ++ map (zone_bag op) zones) 0 ≡ Some b
    → length (if c then [] else (global_bag g ∷ [])) ≡ (if ends_in op b.gens then 0 else 1)
first_own op g [] true b p e = cc
first_own op g (z ∷ zs) true b p e =
    let same : zone_bag op z ≡ b = cc in
    sym
    (ap (λ (b : Bag). if ends_in op b.gens then 0 else 1) (sym same)
    ∙ ap (λ c. if c then 0 else 1) (zone-ends op z))
first_own op g zones false b p e =
    let same : global_bag g ≡ b = cc in
    sym
    (ap (λ (b : Bag). if ends_in op b.gens then 0 else 1) (sym same)
    ∙ ap (λ c. if c then 0 else 1) (plain-ends op g.gens p.unset))

none_numbered : (c : Bool) (g : GlobalZone) → 0 ≡ length (if c then [] else (global_bag g ∷ []))
    → ◌≡◌ {A = Option ℕ} None (if c then None else Some 0)
none_numbered true g e = refl
none_numbered false g e = absurd (omega arith)

one_numbered : (c : Bool) (g : GlobalZone) → 0 < length (if c then [] else (global_bag g ∷ []))
    → ◌≡◌ {A = Option ℕ} (Some 0) (if c then None else Some 0)
one_numbered true g h = absurd (omega arith)
one_numbered false g h = refl

-- ---- options

pub of_some : {X : Type 0} (P : X → Type 0) {o : Option X} {x : X} → o ≡ Some x → IfSome o P → P x
of_some P e h = subst (λ o. IfSome o P) e h

pub to_some : {X : Type 0} (P : X → Type 0) {o : Option X} {x : X} → o ≡ Some x → P x → IfSome o P
to_some P e p = subst (λ o. IfSome o P) (sym e) p

pub is_there : {X : Type 0} (o : Option X) → IsSome o → (x : X) × (o ≡ Some x)
is_there None h = cc
is_there (Some x) h = (x, refl)

-- ---- one owner

pub record OwnerAt {H : Type 0} (op : ℕ) (bags : List (List Bag)) (owners : List (ZoneOwner H)) (i : ℕ) : Type 0 where
  pub owner : ZoneOwner H
  pub within : i < length owners
  pub there : slice_get owners i ≡ Some owner
  pub own : slice_get bags i ≡ Some (bags_of op owner)
  pub plain : IsPlainOwner op owner
  pub size : length (bags_of op owner) ≡ length (global_bags owner.global) + length owner.zones

own_size : {H : Type 0} (op : ℕ) (x : ZoneOwner H)
    → length (bags_of op x) ≡ length (global_bags x.global) + length x.zones
own_size op x =
    length-append (global_bags x.global) (map (zone_bag op) x.zones)
    ∙ ap (λ n. length (global_bags x.global) + n) (length-map x.zones (zone_bag op))

module _ {H : Type 0} {op : ℕ} {heads : List H} {bags : List (List Bag)} {owners : List (ZoneOwner H)}
    (a : RepresentOwners op heads bags owners) (i : ℕ) where
  pub owner_found : (x : ZoneOwner H) → slice_get owners i ≡ Some x → OwnerAt op bags owners i
  owner_found x there = record {
    owner = x;
    within = slice_get-within owners i x there;
    there = there;
    own = bags_at a i x there;
    plain = plain_at a i x there;
    size = own_size op x;
  }

  pub owner_there : i < length owners → OwnerAt op bags owners i
  owner_there within = let (x, there) = slice_get-found owners i within in owner_found x there

module _ {H : Type 0} {op : ℕ} {bags : List (List Bag)} {owners : List (ZoneOwner H)} {i : ℕ}
    (o : OwnerAt op bags owners i) where
  -- the number of its bags, as the code reads it
  pub bags_counted : (n : ℕ) → IfSome (slice_get bags i) (λ (own : List Bag). n ≡ length own)
      → n ≡ length (global_bags o.owner.global) + length o.owner.zones
  bags_counted n h = of_some (λ (own : List Bag). n ≡ length own) o.own h ∙ o.size

  pub global_counted : (n : ℕ) → IfSome (slice_get owners i) (λ (x : ZoneOwner H). n ≡ length (global_bags x.global))
      → n ≡ length (global_bags o.owner.global)
  global_counted n h = of_some (λ (x : ZoneOwner H). n ≡ length (global_bags x.global)) o.there h

  pub bag_there : (k : ℕ) → k < length (global_bags o.owner.global) + length o.owner.zones
      → (b : Bag) × (slice_get (bags_of op o.owner) k ≡ Some b) × (bag_at bags i k ≡ Some b)
  bag_there k within =
      let size = o.size in
      let (b, found) = slice_get-found (bags_of op o.owner) k (omega arith) in
      (b, found, ap (option_and_then (λ (own : List Bag). slice_get own k)) o.own ∙ found)

  pub no_bags : (n : ℕ) → IfSome (slice_get bags i) (λ (own : List Bag). n ≡ length own) → n ≡ 0
      → IfSome (slice_get owners i) (λ (x : ZoneOwner H). 0 ≡ length (global_bags x.global))
  no_bags n h e =
      let all = bags_counted n h in
      to_some (λ (x : ZoneOwner H). 0 ≡ length (global_bags x.global)) o.there (omega arith)

  pub bag_is_there : (n k : ℕ) → IfSome (slice_get bags i) (λ (own : List Bag). n ≡ length own) → k < n
      → IsSome (bag_at bags i k)
  bag_is_there n k h within =
      let all = bags_counted n h in let b = bag_there k (omega arith) in subst IsSome (sym b.2) refl

  pub first_bag : (gens : List (ℕ × ℕ)) (c : Bool) (n : ℕ) → IsSome (bag_at bags i 0)
      → IfSome (bag_at bags i 0) (λ (b : Bag). gens ≡ b.gens) → c ≡ ends_in op gens → n ≡ (if c then 0 else 1)
      → IfSome (slice_get owners i) (λ (x : ZoneOwner H). n ≡ length (global_bags x.global))
  first_bag gens c n some first e count =
      let (b, found) =
      is_there (slice_get (bags_of op o.owner) 0)
      (subst IsSome (ap (option_and_then (λ (own : List Bag). slice_get own 0)) o.own) some) in
      let at : bag_at bags i 0 ≡ Some b = ap (option_and_then (λ (own : List Bag). slice_get own 0)) o.own ∙ found in
      let same : gens ≡ b.gens = of_some (λ (b : Bag). gens ≡ b.gens) at first in
      let global = o.plain.global in
      to_some (λ (x : ZoneOwner H). n ≡ length (global_bags x.global)) o.there
      (count ∙ (ap (λ c. if c then 0 else 1) (e ∙ ap (ends_in op) same)
      ∙ sym (first_own op o.owner.global o.owner.zones (len o.owner.global.gens + length o.owner.global.mods == 0) b
      global found)))

  pub zones_counted : (n m : ℕ) → IfSome (slice_get bags i) (λ (own : List Bag). n ≡ length own)
      → IfSome (slice_get owners i) (λ (x : ZoneOwner H). m ≡ length (global_bags x.global))
      → zone_count_at owners i ≡ Some (n - m)
  zones_counted n m h g =
      let all = bags_counted n h in
      let first = global_counted m g in
      let count : length o.owner.zones ≡ n - m = omega arith in
      ap (option_map (λ (x : ZoneOwner H). length x.zones)) o.there ∙ ap Some count

  pub zones_fewer : (n m : ℕ) → IfSome (slice_get bags i) (λ (own : List Bag). n ≡ length own)
      → IfSome (slice_get owners i) (λ (x : ZoneOwner H). m ≡ length (global_bags x.global)) → m ≤ n
  zones_fewer n m h g = let all = bags_counted n h in let first = global_counted m g in omega arith

-- ---- the index of the bag of a place

some_weaker : {X : Type 0} (P Q : X → Type 0) → ((x : X) → P x → Q x) → (o : Option X) → IfSome o P → IfSome o Q
some_weaker P Q f None h = h
some_weaker P Q f (Some x) h = f x h

module _ {H : Type 0} (o : Option (ZoneOwner H)) (n : ℕ) (at : ZonePlace) where
  pub no_global_numbered : at ≡ place.Global → IfSome o (λ (x : ZoneOwner H). n ≡ length (global_bags x.global))
      → n ≡ 0 → IfSome o (λ (x : ZoneOwner H). None ≡ bag_number at x)
  no_global_numbered is h e =
      subst (λ at. IfSome o (λ (x : ZoneOwner H). None ≡ bag_number at x)) (sym is)
      (some_weaker (λ (x : ZoneOwner H). n ≡ length (global_bags x.global))
      (λ (x : ZoneOwner H). None ≡ bag_number place.Global x)
      (λ x count. none_numbered (len x.global.gens + length x.global.mods == 0) x.global (sym e ∙ count)) o h)

  pub global_numbered : at ≡ place.Global → IfSome o (λ (x : ZoneOwner H). n ≡ length (global_bags x.global)) → 0 < n
      → IfSome o (λ (x : ZoneOwner H). Some 0 ≡ bag_number at x)
  global_numbered is h e =
      subst (λ at. IfSome o (λ (x : ZoneOwner H). Some 0 ≡ bag_number at x)) (sym is)
      (some_weaker (λ (x : ZoneOwner H). n ≡ length (global_bags x.global))
      (λ (x : ZoneOwner H). Some 0 ≡ bag_number place.Global x)
      (λ x count. one_numbered (len x.global.gens + length x.global.mods == 0) x.global
      (subst (λ n. 0 < n) count e)) o h)

  pub zone_numbered : (k : ℕ) → at ≡ place.Zone k
      → IfSome o (λ (x : ZoneOwner H). n ≡ length (global_bags x.global) + k)
      → IfSome o (λ (x : ZoneOwner H). Some n ≡ bag_number at x)
  zone_numbered k is h =
      subst (λ at. IfSome o (λ (x : ZoneOwner H). Some n ≡ bag_number at x)) (sym is)
      (some_weaker (λ (x : ZoneOwner H). n ≡ length (global_bags x.global) + k)
      (λ (x : ZoneOwner H). Some n ≡ bag_number (place.Zone k) x) (λ x at. ap Some at) o h)
