-- One zone, its bag among the bags of its owner, and the owner after zones are inserted, removed, moved or changed.
use Rattle.std.proofs.Common.{◌≡◌, ℕ, ◌<◌, ◌≤◌, ◌+◌, ◌-◌, List, [], ◌∷◌, ◌++◌, length, map, insert, remove}
use Rattle.std.proofs.Common.{slice_get, set, Option, Some, None, refl, sym, subst, ◌∙◌, ap, length-append, arith}
use Rattle.std.specs.FinMap.{entries}
use Rattle.std.specs.Option.{IfSome, IsSome, IsSomeAnd, option_map, option_and_then}
use Rattle.std.proofs.lemmas.List.{length-map}
use Rattle.std.proofs.lemmas.Option.{slice_get-map, same_Some}
use Rattle.base_numbered_lists.specs.Moved.{moved, changed}
use Rattle.base_numbered_lists.proofs.Lists.{slice_get-found, slice_get-within, changed-found, map-slice_set, map-moved}
use Rattle.base_numbered_lists.proofs.Lists.{map-insert, map-remove}
use Rattle.flat_records.specs.Bags.{Bag, with_gens}
use Rattle.flat_records.specs.Owned.{bag_at, bag_changed}
use Rattle.bank_parts.specs.declared.parts.Zone.{Zone}
use Rattle.bank_parts.specs.declared.parts.ZoneOwner.{ZoneOwner}
use Rattle.bank_parts.specs.declared.owners.ZonePlace.TheVariants as place
use Rattle.bank_parts.specs.Owners.{HasPlace, zone_count_at, zone_at, target_at}
use Rattle.bank_parts.specs.Settings.{with_zones, zones_changed}
use Rattle.bank_parts.specs.ZoneChanges.{zone_added, zone_removed, zone_moved, target_set, with_target}
use Rattle.bank_parts.specs.Bagged.{zone_bag, global_bags, bags_of, last_amount, IsPlain}
use Rattle.bank_parts.specs.Flat.{RepresentOwners}
use Rattle.bank_parts.proofs.ListLaws.{everywhere-found, everywhere-changed, everywhere-insert, everywhere-remove}
use Rattle.bank_parts.proofs.ListLaws.{everywhere-moved, get-right, insert-right, remove-right, moved-right}
use Rattle.bank_parts.proofs.ListLaws.{changed-right, set-last}
use Rattle.bank_parts.proofs.ReadLaws.{amount-last}
use Rattle.bank_parts.proofs.MemberLaws.{sent}
use Rattle.bank_parts.proofs.PlaceLaws.{OwnerAt, owner_found, of_some, bags_counted, global_counted}

-- ---- an owner and the number of its zones

pub record ZonesAt {H : Type 0} (op : ℕ) (bags : List (List Bag)) (owners : List (ZoneOwner H)) (i : ℕ)
    (P : ℕ → Type 0) : Type 0 where
  pub found : OwnerAt op bags owners i
  pub fits : P (length found.owner.zones)

found_some : {H : Type 0} (P : ℕ → Type 0) (o : Option (ZoneOwner H))
    → IsSomeAnd (option_map (λ (x : ZoneOwner H). length x.zones) o) P
    → (x : ZoneOwner H) × (o ≡ Some x) × P (length x.zones)
found_some P None h = absurd h
found_some P (Some x) h = (x, refl, h)

pub zones_there : {H : Type 0} {op : ℕ} {heads : List H} {bags : List (List Bag)} {owners : List (ZoneOwner H)}
    (a : RepresentOwners op heads bags owners) (i : ℕ) (P : ℕ → Type 0)
    → IsSomeAnd (zone_count_at owners i) P → ZonesAt op bags owners i P
zones_there {H} {op} {heads} {bags} {owners} a i P h =
    let f = found_some P (slice_get owners i) h in
    let o = owner_found a i f.0 f.1 in
    let same : o.owner ≡ f.0 = same_Some o.owner f.0 (sym o.there ∙ f.1) in
    record { found = o; fits = subst (λ (x : ZoneOwner H). P (length x.zones)) (sym same) f.2 }

weaker : (k : ℕ) (o : Option ℕ) → IsSomeAnd o (λ n. k < n) → IsSomeAnd o (λ n. k ≤ n)
weaker k None h = h
weaker k (Some n) h = omega arith

pub at_most : {H : Type 0} (owners : List (ZoneOwner H)) (i k : ℕ) → HasPlace owners i (place.Zone k)
    → IsSomeAnd (zone_count_at owners i) (λ n. k ≤ n)
at_most owners i k h = weaker k (zone_count_at owners i) h

pub zone_owner_within : {H : Type 0} (owners : List (ZoneOwner H)) (i : ℕ) (P : ℕ → Type 0)
    → IsSomeAnd (zone_count_at owners i) P → i < length owners
zone_owner_within owners i P h = let f = found_some P (slice_get owners i) h in slice_get-within owners i f.0 f.1

-- ---- one zone

pub record ZoneAt {H : Type 0} (op : ℕ) (bags : List (List Bag)) (owners : List (ZoneOwner H)) (i k : ℕ) : Type 0 where
  pub found : OwnerAt op bags owners i
  pub zone : Zone
  pub there : slice_get found.owner.zones k ≡ Some zone
  pub seen : zone_at owners i k ≡ Some zone
  pub plain : IsPlain op zone.gens
  pub bag : slice_get (bags_of op found.owner) (length (global_bags found.owner.global) + k) ≡ Some (zone_bag op zone)

pub zone_there : {H : Type 0} {op : ℕ} {heads : List H} {bags : List (List Bag)} {owners : List (ZoneOwner H)}
    (a : RepresentOwners op heads bags owners) (i k : ℕ)
    → HasPlace owners i (place.Zone k) → ZoneAt op bags owners i k
zone_there {H} {op} {heads} {bags} {owners} a i k h =
    let s = zones_there a i (λ n. k < n) h in
    let x = s.found.owner in
    let z : (z : Zone) × (slice_get x.zones k ≡ Some z) = slice_get-found x.zones k s.fits in
    record {
      found = s.found;
      zone = z.0;
      there = z.1;
      seen = ap (option_and_then (λ (x : ZoneOwner H). slice_get x.zones k)) s.found.there ∙ z.1;
      plain = everywhere-found (λ (z : Zone). IsPlain op z.gens) x.zones k z.0 z.1 s.found.plain.zones;
      bag =
          get-right (global_bags x.global) (map (zone_bag op) x.zones) k
          ∙ (slice_get-map (zone_bag op) x.zones k ∙ ap (option_map (zone_bag op)) z.1);
    }

module _ {H : Type 0} {op : ℕ} {bags : List (List Bag)} {owners : List (ZoneOwner H)} {i k : ℕ}
    (z : ZoneAt op bags owners i k) where
  -- the index of its bag, as the code finds it
  pub zone_place : (n : ℕ) → IfSome (slice_get owners i) (λ (x : ZoneOwner H). n ≡ length (global_bags x.global) + k)
      → n ≡ length (global_bags z.found.owner.global) + k
  zone_place n h = of_some (λ (x : ZoneOwner H). n ≡ length (global_bags x.global) + k) z.found.there h

  pub zone_bag_at : (n : ℕ)
      → IfSome (slice_get owners i) (λ (x : ZoneOwner H). n ≡ length (global_bags x.global) + k)
      → bag_at bags i n ≡ Some (zone_bag op z.zone)
  zone_bag_at n h =
      ap (option_and_then (λ (own : List Bag). slice_get own n)) z.found.own
      ∙ (ap (slice_get (bags_of op z.found.owner)) (zone_place n h) ∙ z.bag)

  pub zone_bag_there : (n : ℕ)
      → IfSome (slice_get owners i) (λ (x : ZoneOwner H). n ≡ length (global_bags x.global) + k)
      → IsSome (bag_at bags i n)
  zone_bag_there n h = subst IsSome (sym (zone_bag_at n h)) refl

  pub zone_bag_within : (n : ℕ)
      → IfSome (slice_get owners i) (λ (x : ZoneOwner H). n ≡ length (global_bags x.global) + k)
      → IsSomeAnd (slice_get bags i) (λ (own : List Bag). n < length own)
  zone_bag_within n h =
      let size = z.found.size in
      let within = slice_get-within z.found.owner.zones k z.zone z.there in
      let at = zone_place n h in
      subst (λ o. IsSomeAnd o (λ (own : List Bag). n < length own)) (sym z.found.own) (omega arith)

  -- its generators, as the code reads them
  pub zone_gens : (n : ℕ) (gens : List (ℕ × ℕ))
      → IfSome (slice_get owners i) (λ (x : ZoneOwner H). n ≡ length (global_bags x.global) + k)
      → IfSome (bag_at bags i n) (λ (b : Bag). gens ≡ b.gens)
      → gens ≡ entries z.zone.gens ++ (op, z.zone.target) ∷ []
  zone_gens n gens h e = of_some (λ (b : Bag). gens ≡ b.gens) (zone_bag_at n h) e

  pub zone_some : (n : ℕ) (gens : List (ℕ × ℕ))
      → IfSome (slice_get owners i) (λ (x : ZoneOwner H). n ≡ length (global_bags x.global) + k)
      → IfSome (bag_at bags i n) (λ (b : Bag). gens ≡ b.gens) → 1 ≤ length gens
  zone_some n gens h e =
      let size = ap length (zone_gens n gens h e) ∙ length-append (entries z.zone.gens) ((op, z.zone.target) ∷ []) in
      omega arith

  pub zone_last : (n : ℕ) (gens : List (ℕ × ℕ))
      → IfSome (slice_get owners i) (λ (x : ZoneOwner H). n ≡ length (global_bags x.global) + k)
      → IfSome (bag_at bags i n) (λ (b : Bag). gens ≡ b.gens)
      → IsSomeAnd (bag_at bags i n) (λ (b : Bag). length gens - 1 < length b.gens)
  zone_last n gens h e =
      let size = ap length (zone_gens n gens h e) ∙ length-append (entries z.zone.gens) ((op, z.zone.target) ∷ []) in
      let own = length-append (entries z.zone.gens) ((op, z.zone.target) ∷ []) in
      subst (λ o. IsSomeAnd o (λ (b : Bag). length gens - 1 < length b.gens)) (sym (zone_bag_at n h)) (omega arith)

  pub zone_target : (n target : ℕ) (gens : List (ℕ × ℕ))
      → IfSome (slice_get owners i) (λ (x : ZoneOwner H). n ≡ length (global_bags x.global) + k)
      → IfSome (bag_at bags i n) (λ (b : Bag). gens ≡ b.gens)
      → target ≡ last_amount gens → target_at owners i k ≡ Some target
  zone_target n target gens h e f =
      ap (option_map (λ (z : Zone). z.target)) z.seen
      ∙ ap Some
      (sym (f ∙ (ap last_amount (zone_gens n gens h e) ∙ amount-last op (entries z.zone.gens) z.zone.target)))

module _ {H : Type 0} {op : ℕ} {heads : List H} {bags : List (List Bag)} {owners : List (ZoneOwner H)}
    (a : RepresentOwners op heads bags owners) {i k : ℕ} (z : ZoneAt op bags owners i k) where
  -- a zone changed by f, and its bag by F
  pub zone_changed : (n : ℕ) (f : Zone → Zone) (F : Bag → Bag) (bs : List (List Bag))
      → IfSome (slice_get owners i) (λ (x : ZoneOwner H). n ≡ length (global_bags x.global) + k)
      → F (zone_bag op z.zone) ≡ zone_bag op (f z.zone) → IsPlain op (f z.zone).gens → bs ≡ bag_changed bags i n F
      → RepresentOwners op heads bs (zones_changed owners i (λ zones. changed zones k f))
  zone_changed n f F bs h same plain e =
      let x = z.found.owner in
      let gs = global_bags x.global in
      let zs = map (zone_bag op) x.zones in
      let bag : slice_get zs k ≡ Some (zone_bag op z.zone) =
      slice_get-map (zone_bag op) x.zones k ∙ ap (option_map (zone_bag op)) z.there in
      sent a i x (λ x. with_zones (changed x.zones k f) x) (λ own. changed own n F) bs z.found.there refl
      (record {
        global =
            z.found.plain.global;
        zones =
            everywhere-changed (λ (z : Zone). IsPlain op z.gens) x.zones k f z.zone z.there plain
            z.found.plain.zones;
      })
      (ap (λ n. changed (bags_of op x) n F) (zone_place z n h)
      ∙ (changed-right gs zs k F (zone_bag op z.zone) bag
      ∙ ap (λ bs. gs ++ bs) (changed-found zs k F (zone_bag op z.zone) bag
      ∙ (ap (set zs k) same ∙ (sym (map-slice_set (zone_bag op) x.zones k (f z.zone))
      ∙ ap (map (zone_bag op)) (sym (changed-found x.zones k f z.zone z.there)))))))
      e

  pub target_changed : (n operator target : ℕ) (gens : List (ℕ × ℕ)) (bs : List (List Bag))
      → IfSome (slice_get owners i) (λ (x : ZoneOwner H). n ≡ length (global_bags x.global) + k)
      → IfSome (bag_at bags i n) (λ (b : Bag). gens ≡ b.gens) → operator ≡ op
      → bs ≡ bag_changed bags i n (λ (b : Bag). with_gens (set b.gens (length gens - 1) (operator, target)) b)
      → RepresentOwners op heads bs (target_set owners i k target)
  target_changed n operator target gens bs h g is e =
      let es = entries z.zone.gens in
      let size = ap length (zone_gens z n gens h g) ∙ length-append es ((op, z.zone.target) ∷ []) in
      let at : length gens - 1 ≡ length es = omega arith in
      zone_changed n (with_target target)
      (λ (b : Bag). with_gens (set b.gens (length gens - 1) (operator, target)) b) bs h
      (ap (λ gens. record { gens = gens; mods = z.zone.mods })
      ((λ t. set (es ++ (op, z.zone.target) ∷ []) (at t) (is t, target))
      ∙ set-last es (op, z.zone.target) (op, target)))
      z.plain e

  pub zone_moves : (to n m : ℕ) (bs : List (List Bag))
      → IfSome (slice_get owners i) (λ (x : ZoneOwner H). n ≡ length (global_bags x.global) + k)
      → IfSome (slice_get owners i) (λ (x : ZoneOwner H). m ≡ length (global_bags x.global) + to)
      → bs ≡ changed bags i (λ own. moved own n m) → RepresentOwners op heads bs (zone_moved owners i k to)
  zone_moves to n m bs from_place to_place e =
      let x = z.found.owner in
      let gs = global_bags x.global in
      let zs = map (zone_bag op) x.zones in
      let last : m ≡ length gs + to =
      of_some (λ (x : ZoneOwner H). m ≡ length (global_bags x.global) + to) z.found.there to_place in
      let within = slice_get-within x.zones k z.zone z.there in
      let size = length-map x.zones (zone_bag op) in
      let first = zone_place z n from_place in
      sent a i x (λ x. with_zones (moved x.zones k to) x) (λ own. moved own n m) bs z.found.there refl
      (record {
        global =
            z.found.plain.global;
        zones =
            everywhere-moved (λ (z : Zone). IsPlain op z.gens) x.zones k to within z.found.plain.zones;
      })
      ((λ t. moved (bags_of op x) (first t) (last t))
      ∙ (moved-right gs zs k to (omega arith)
      ∙ ap (λ bs. gs ++ bs) (sym (map-moved (zone_bag op) x.zones k to within))))
      e

  pub zone_bag_removed : (n : ℕ) (bs : List (List Bag))
      → IfSome (slice_get owners i) (λ (x : ZoneOwner H). n ≡ length (global_bags x.global) + k)
      → bs ≡ changed bags i (λ own. remove own n) → RepresentOwners op heads bs (zone_removed owners i k)
  zone_bag_removed n bs h e =
      let x = z.found.owner in
      let gs = global_bags x.global in
      sent a i x (λ x. with_zones (remove x.zones k) x) (λ own. remove own n) bs z.found.there refl
      (record {
        global =
            z.found.plain.global;
        zones =
            everywhere-remove (λ (z : Zone). IsPlain op z.gens) x.zones k z.found.plain.zones;
      })
      (ap (remove (bags_of op x)) (zone_place z n h)
      ∙ (remove-right gs (map (zone_bag op) x.zones) k
      ∙ ap (λ bs. gs ++ bs) (sym (map-remove (zone_bag op) x.zones k))))
      e

-- a zone inserted, after memory was reserved
module _ {H : Type 0} {op : ℕ} {heads : List H} {bags : List (List Bag)} {owners : List (ZoneOwner H)}
    (a : RepresentOwners op heads bags owners) {i k : ℕ} (s : ZonesAt op bags owners i (λ n. k ≤ n)) where
  pub new_place : (n : ℕ) {room : List (List Bag)}
      → IfSome (slice_get owners i) (λ (x : ZoneOwner H). n ≡ length (global_bags x.global) + k) → room ≡ bags
      → IsSomeAnd (slice_get room i) (λ (own : List Bag). n ≤ length own)
  new_place n h kept =
      let at = of_some (λ (x : ZoneOwner H). n ≡ length (global_bags x.global) + k) s.found.there h in
      let size = s.found.size in
      let fits = s.fits in
      subst (λ o. IsSomeAnd o (λ (own : List Bag). n ≤ length own))
      (sym (ap (λ bags. slice_get bags i) kept ∙ s.found.own)) (omega arith)

  pub zone_put : (n : ℕ) (zone : Zone) (bs : List (List Bag)) {o : ℕ} {room : List (List Bag)}
      → IfSome (slice_get owners i) (λ (x : ZoneOwner H). n ≡ length (global_bags x.global) + k)
      → o ≡ op → IsPlain o zone.gens → room ≡ bags → bs ≡ changed room i (λ own. insert own n (zone_bag o zone))
      → RepresentOwners op heads bs (zone_added owners i k zone)
  zone_put n zone bs h is plain kept e =
      let x = s.found.owner in
      let gs = global_bags x.global in
      let at = of_some (λ (x : ZoneOwner H). n ≡ length (global_bags x.global) + k) s.found.there h in
      sent a i x (λ x. with_zones (insert x.zones k zone) x) (λ own. insert own n (zone_bag op zone)) bs
      s.found.there refl
      (record {
        global =
            s.found.plain.global;
        zones =
            everywhere-insert (λ (z : Zone). IsPlain op z.gens) x.zones k zone
            (subst (λ op. IsPlain op zone.gens) is plain) s.found.plain.zones;
      })
      (ap (λ n. insert (bags_of op x) n (zone_bag op zone)) at
      ∙ (insert-right gs (map (zone_bag op) x.zones) k (zone_bag op zone)
      ∙ ap (λ bs. gs ++ bs) (sym (map-insert (zone_bag op) x.zones k zone))))
      (e ∙ (λ t. changed (kept t) i (λ own. insert own n (zone_bag (is t) zone))))

module _ {H : Type 0} {op : ℕ} {bags : List (List Bag)} {owners : List (ZoneOwner H)} {i k : ℕ}
    (s : ZonesAt op bags owners i (λ n. k ≤ n)) where
  -- the index lies within all its bags
  pub place_fits : (n m : ℕ) → IfSome (slice_get bags i) (λ (own : List Bag). n ≡ length own)
      → IfSome (slice_get owners i) (λ (x : ZoneOwner H). m ≡ length (global_bags x.global)) → m + k ≤ n
  place_fits n m h g =
      let all = bags_counted s.found n h in
      let first = global_counted s.found m g in let fits = s.fits in omega arith

  pub place_found : (m : ℕ) → IfSome (slice_get owners i) (λ (x : ZoneOwner H). m ≡ length (global_bags x.global))
      → IfSome (slice_get owners i) (λ (x : ZoneOwner H). m + k ≡ length (global_bags x.global) + k)
  place_found m g =
      subst (λ o. IfSome o (λ (x : ZoneOwner H). m + k ≡ length (global_bags x.global) + k)) (sym s.found.there)
      (ap (λ m. m + k) (global_counted s.found m g))
