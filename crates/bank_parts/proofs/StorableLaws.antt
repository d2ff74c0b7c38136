-- If flat lists can hold the result of a change, there is capacity for the change; and its maps are plain.
use Rattle.std.proofs.Common.{◌≡◌, ◌≢◌, ℕ, ◌≤◌, ◌<◌, ◌+◌, ◌^◌, ◌||◌, ◌∙◌, false, cond, Option, List, [], ◌∷◌, length, insert}
use Rattle.std.proofs.Common.{slice_get, set, Some, None, suc, zero, refl, sym, subst, ap, length-append, arith}
use Rattle.std.specs.Prelude.{is_some, sum_by}
use Rattle.std.specs.List.{AllByRecursion, list_any}
use Rattle.std.specs.Option.{IfSome, option_map}
use Rattle.std.specs.FinMap as map
use Rattle.std.specs.FinMap.{entries, len, len-entries}
use Rattle.std.proofs.lemmas.List.Sums.{sum_by-insert, sum_by-set}
use Rattle.std.proofs.lemmas.Option.{same_Some, get_or_from_slice_get}
use Rattle.base_numbered_lists.proofs.Lists.{slice_get-within, slice_set-back, changed-found}
use Rattle.base_numbered_lists.specs.Moved.{changed}
use Rattle.generators.specs.Gens.{Gens}
use Rattle.generators.specs.Indexes.{IsAt, IsInsertionIndex}
use Rattle.generators.specs.Levels.{target_operator}
use Rattle.generators.specs.declared.level.Level.{Level}
use Rattle.generators.proofs.Order.{tied, tied_same}
use Rattle.generators.proofs.MapLaws.{get-insert_any}
use Rattle.modulators.specs.declared.modulator.Modulator.{Modulator}
use Rattle.flat_records.specs.Runs.{put}
use Rattle.flat_records.specs.Bags as records
use Rattle.flat_records.specs.Bags.{Bag, gens_in, mods_in}
use Rattle.flat_records.specs.Owned.{all_bags, bag_changed}
use Rattle.bank_parts.specs.declared.counting.Records.{Records}
use Rattle.bank_parts.specs.declared.parts.Zone.{Zone}
use Rattle.bank_parts.specs.declared.parts.ZoneOwner.{ZoneOwner}
use Rattle.bank_parts.specs.declared.owners.ZonePlace.{ZonePlace}
use Rattle.bank_parts.specs.declared.owners.ZonePlace.TheVariants as place
use Rattle.bank_parts.specs.Valid.{zone_count, gen_count, mod_count}
use Rattle.bank_parts.specs.Counts.{records_of_owner, records_of_zone, all_counted}
use Rattle.bank_parts.specs.Settings.{Settings, settings_changed, settings_in, settings_of_zone, zone_with_settings}
use Rattle.bank_parts.specs.Settings.{place_changed, with_zones}
use Rattle.bank_parts.specs.Settings.{with_gens}
use Rattle.bank_parts.specs.Owners.{entries_at, mods_at}
use Rattle.bank_parts.specs.ZoneChanges.{zone_added, gen_set, mod_added}
use Rattle.bank_parts.specs.Bagged.{zone_bag, global_bags, bags_of, IsPlain, IsPlainOwner}
use Rattle.bank_parts.specs.Room.{AreStorable, CanHold, has_operator}
use Rattle.bank_parts.specs.Flat.{RepresentOwners}
use Rattle.bank_parts.proofs.ListLaws.{everywhere-insert, everywhere-inserted, everywhere-sent, everywhere-set}
use Rattle.bank_parts.proofs.RoomLaws.{grows, sent_count, one_each}
use Rattle.bank_parts.proofs.RecordLaws.{zones_in_all, gens_in_all, mods_in_all}
use Rattle.bank_parts.proofs.ListLaws.{put-one, length-insert}
use Rattle.bank_parts.proofs.PlaceLaws.{of_some}
use Rattle.bank_parts.proofs.ZoneLaws.{ZonesAt, zone_put}
use Rattle.bank_parts.proofs.BagSettings.{PlaceAt}
use Rattle.bank_parts.proofs.PlaceChanges.{BagPlace, BarePlace, place_at, place_gap, gens_size, of_mods}
use Rattle.bank_parts.proofs.GenLaws.{found_amount}
use Rattle.bank_parts.proofs.GenChanges.{first_gen, first_mod, gen_is_put, mod_is_put}

-- ---- capacity

module _ {H : Type 0} {at : Level} {hs : List H} {bs : List (List Bag)} {owners : List (ZoneOwner H)}
    (a : RepresentOwners (target_operator at) hs bs owners) (s : AreStorable at owners) (bags : List (List Bag))
    (more : Records) where
  -- for bags that are no fewer than the present bags and the new ones
  holds_more : length (all_bags bags) + more.zones ≤ length (all_bags bs)
      → length (gens_in (all_bags bags)) + more.gens ≤ length (gens_in (all_bags bs))
      → length (mods_in (all_bags bags)) + more.mods ≤ length (mods_in (all_bags bs))
      → CanHold bags more
  holds_more z g m =
      let zones = zones_in_all a in
      let gens = gens_in_all a in
      let mods = mods_in_all a in
      record {
        zones = (let h = s.zones in omega arith);
        gens = (let h = s.gens in omega arith);
        mods = (let h = s.mods in omega arith);
      }

-- a bag inserted
pub bag_held : {H : Type 0} {at : Level} {hs : List H} {owners : List (ZoneOwner H)} (bags : List (List Bag)) (i k : ℕ)
    (own : List Bag) (b : Bag) (more : Records) → slice_get bags i ≡ Some own → k ≤ length own
    → RepresentOwners (target_operator at) hs (changed bags i (λ own. insert own k b)) owners → AreStorable at owners
    → more.zones ≤ 1 → more.gens ≤ length b.gens → more.mods ≤ length b.mods → CanHold bags more
bag_held bags i k own b more there within a s z g m =
    let bs = changed bags i (λ own. insert own k b) in
    let bags_were = one_each (all_bags bags) in
    let bags_are = one_each (all_bags bs) in
    let bags_grow = grows (λ (b : Bag). b ∷ []) bags i k own b there within in
    let gens_grow = grows (λ (b : Bag). b.gens) bags i k own b there within in
    let mods_grow = grows (λ (b : Bag). b.mods) bags i k own b there within in
    holds_more a s bags more (omega arith) (omega arith) (omega arith)

-- a bag changed by F, which adds `more` records
pub sent_held : {H : Type 0} {at : Level} {hs : List H} {owners : List (ZoneOwner H)} (bags : List (List Bag)) (i k : ℕ)
    (own : List Bag) (b : Bag) (F : Bag → Bag) (more : Records) → slice_get bags i ≡ Some own
    → slice_get own k ≡ Some b → RepresentOwners (target_operator at) hs (bag_changed bags i k F) owners → AreStorable at owners
    → more.zones ≡ 0 → length b.gens + more.gens ≤ length (F b).gens → length b.mods + more.mods ≤ length (F b).mods
    → CanHold bags more
sent_held bags i k own b F more there found a s z g m =
    let bs = bag_changed bags i k F in
    let bags_were = one_each (all_bags bags) in
    let bags_are = one_each (all_bags bs) in
    let bags_stay = sent_count (λ (b : Bag). b ∷ []) bags i k own b F there found in
    let gens_grow = sent_count (λ (b : Bag). b.gens) bags i k own b F there found in
    let mods_grow = sent_count (λ (b : Bag). b.mods) bags i k own b F there found in
    holds_more a s bags more (omega arith) (omega arith) (omega arith)

-- a preset or an instrument inserted
pub owner_held : {H : Type 0} {at : Level} {hs : List H} {bags : List (List Bag)} {owners : List (ZoneOwner H)}
    → RepresentOwners (target_operator at) hs bags owners → (i : ℕ) (x : ZoneOwner H) (more : Records)
    → more ≡ all_counted (records_of_owner x) → AreStorable at (insert owners i x) → CanHold bags more
owner_held {H} {at} {hs} {bags} {owners} a i x more e s =
    let zones_are = zones_in_all a in
    let gens_are = gens_in_all a in
    let mods_are = mods_in_all a in
    let zones = sum_by-insert (λ (x : ZoneOwner H). zone_count x.global x.zones) owners i x in
    let gens = sum_by-insert (λ (x : ZoneOwner H). gen_count x.global x.zones) owners i x in
    let mods = sum_by-insert (λ (x : ZoneOwner H). mod_count x.global x.zones) owners i x in
    record {
      zones = (let c = ap (λ (r : Records). r.zones) e in let h = s.zones in omega arith);
      gens = (let c = ap (λ (r : Records). r.gens) e in let h = s.gens in omega arith);
      mods = (let c = ap (λ (r : Records). r.mods) e in let h = s.mods in omega arith);
    }

-- the converse
pub owner_storable : {H : Type 0} {at : Level} {hs : List H} {bags : List (List Bag)} {owners : List (ZoneOwner H)}
    → RepresentOwners (target_operator at) hs bags owners → (i : ℕ) (x : ZoneOwner H) (more : Records)
    → more ≡ all_counted (records_of_owner x) → IsPlainOwner (target_operator at) x → CanHold bags more
    → AreStorable at (insert owners i x)
owner_storable {H} {at} {hs} {bags} {owners} a i x more e plain can =
    let zones_are = zones_in_all a in
    let gens_are = gens_in_all a in
    let mods_are = mods_in_all a in
    let zones = sum_by-insert (λ (x : ZoneOwner H). zone_count x.global x.zones) owners i x in
    let gens = sum_by-insert (λ (x : ZoneOwner H). gen_count x.global x.zones) owners i x in
    let mods = sum_by-insert (λ (x : ZoneOwner H). mod_count x.global x.zones) owners i x in
    record {
      zones = (let c = ap (λ (r : Records). r.zones) e in let h = can.zones in omega arith);
      gens = (let c = ap (λ (r : Records). r.gens) e in let h = can.gens in omega arith);
      mods = (let c = ap (λ (r : Records). r.mods) e in let h = can.mods in omega arith);
      plain = everywhere-insert (IsPlainOwner (target_operator at)) owners i x plain a.plain;
    }

-- ---- plain

unset_has_none : (o : Option ℕ) → o ≡ None → is_some o ≡ false
unset_has_none None e = refl
unset_has_none (Some x) e = cc

zones_have_none : (op : ℕ) (zones : List Zone) → AllByRecursion (λ (z : Zone). IsPlain op z.gens) zones
    → list_any (λ (z : Zone). is_some (map.get z.gens op)) zones ≡ false
zones_have_none op [] p = refl
zones_have_none op (z ∷ zs) p =
    let own = p.0 in
    ap (λ b. b || list_any (λ (z : Zone). is_some (map.get z.gens op)) zs)
    (unset_has_none (map.get z.gens op) own.unset)
    ∙ zones_have_none op zs p.1

pub plain_has_none : {H : Type 0} (op : ℕ) (x : ZoneOwner H) → IsPlainOwner op x → has_operator op x ≡ false
plain_has_none op x p =
    let own = p.global in
    ap (λ b. b || list_any (λ (z : Zone). is_some (map.get z.gens op)) x.zones)
    (unset_has_none (map.get x.global.gens op) own.unset)
    ∙ zones_have_none op x.zones p.zones

pub owner_in : {H : Type 0} {at : Level} (owners : List (ZoneOwner H)) (i : ℕ) (x : ZoneOwner H)
    → AreStorable at (insert owners i x) → IsPlainOwner (target_operator at) x
owner_in {H} {at} owners i x s = everywhere-inserted (IsPlainOwner (target_operator at)) owners i x s.plain

pub zone_in : {H : Type 0} {at : Level} (owners : List (ZoneOwner H)) (i k : ℕ) (x : ZoneOwner H) (z : Zone)
    → slice_get owners i ≡ Some x → AreStorable at (zone_added owners i k z) → IsPlain (target_operator at) z.gens
zone_in {H} {at} owners i k x z there s =
    let own =
    everywhere-sent (IsPlainOwner (target_operator at)) owners i (λ x. with_zones (insert x.zones k z) x) x there
    s.plain in
    everywhere-inserted (λ (z : Zone). IsPlain (target_operator at) z.gens) x.zones k z own.zones

place_plain : {H : Type 0} (op : ℕ) (at : ZonePlace) (x : ZoneOwner H) (f : Settings → Settings) (s : Settings)
    → settings_in at x ≡ Some s → IsPlainOwner op (settings_changed at f x) → IsPlain op (f s).gens
place_plain op place.Global x f s has plain =
    subst (λ s. IsPlain op (f s).gens) (same_Some x.global s has) plain.global
place_plain op (place.Zone k) x f s has plain =
    let found = zone_found (slice_get x.zones k) s has in
    subst (λ s. IsPlain op (f s).gens) found.2
    (everywhere-sent (λ (z : Zone). IsPlain op z.gens) x.zones k
    (λ (z : Zone). zone_with_settings (f (settings_of_zone z)) z) found.0 found.1 plain.zones)
  where
    zone_found : (o : Option Zone) (s : Settings) → option_map settings_of_zone o ≡ Some s
        → (z : Zone) × (o ≡ Some z) × (settings_of_zone z ≡ s)
    zone_found None s e = cc
    zone_found (Some z) s e = (z, refl, same_Some (settings_of_zone z) s e)

pub place_in : {H : Type 0} {level : Level} {bags : List (List Bag)} {owners : List (ZoneOwner H)} {i : ℕ}
    {at : ZonePlace} (p : PlaceAt (target_operator level) bags owners i at) (f : Settings → Settings)
    → AreStorable level (place_changed owners i at f) → IsPlain (target_operator level) (f p.settings).gens
place_in {H} {level} {bags} {owners} {i} {at} p f s =
    place_plain (target_operator level) at p.found.owner f p.settings p.has
    (everywhere-sent (IsPlainOwner (target_operator level)) owners i (settings_changed at f) p.found.owner
    p.found.there s.plain)

-- an operator set in a plain map is not that of targets
pub other_set : (op : ℕ) (m : Gens) (o w : ℕ) → IsPlain op (map.insert m o w) → op ≢ o
other_set op m o w plain same =
    let found : map.get (map.insert m o w) op ≡ Some w =
    get-insert_any m o w op
    ∙ ap (λ b. cond b (Some w) (map.get m op)) (ap (tied op) (sym same) ∙ tied_same op) in
    cc (found, plain.unset)

pub other_found : (op : ℕ) (m : Gens) (o w : ℕ) → IsPlain op m → map.get m o ≡ Some w → op ≢ o
other_found op m o w plain found same = let there = ap (map.get m) same ∙ found in cc (there, plain.unset)

-- ---- new zones and settings

-- a zone inserted
pub zone_held : {H : Type 0} {at : Level} {hs : List H} {bags : List (List Bag)} {owners : List (ZoneOwner H)} {i k : ℕ}
    → RepresentOwners (target_operator at) hs bags owners
    → (s : ZonesAt (target_operator at) bags owners i (λ n. k ≤ n)) (n : ℕ) (z : Zone) (more : Records)
    → IfSome (slice_get owners i) (λ (x : ZoneOwner H). n ≡ length (global_bags x.global) + k)
    → more ≡ all_counted (records_of_zone z) → AreStorable at (zone_added owners i k z) → CanHold bags more
zone_held {H} {at} {hs} {bags} {owners} {i} {k} a s n z more h e storable =
    let op = target_operator at in
    let x = s.found.owner in
    let b = zone_bag op z in
    let put =
    zone_put a s n z (changed bags i (λ own. insert own n b)) h refl (zone_in owners i k x z s.found.there storable)
    refl refl in
    let first = of_some (λ (x : ZoneOwner H). n ≡ length (global_bags x.global) + k) s.found.there h in
    let size = s.found.size in
    let fits = s.fits in
    let zones = ap (λ (r : Records). r.zones) e in
    let gens = ap (λ (r : Records). r.gens) e in
    let mods = ap (λ (r : Records). r.mods) e in
    let count = length-append (entries z.gens) ((op, z.target) ∷ []) in
    let same = len-entries z.gens in
    bag_held bags i n (bags_of op x) b more s.found.own (omega arith) put storable (omega arith) (omega arith)
    (omega arith)

-- the operator of targets is set nowhere
pub gen_other : {H : Type 0} {level : Level} {bags : List (List Bag)} {owners : List (ZoneOwner H)} {i : ℕ}
    {at : ZonePlace} (p : PlaceAt (target_operator level) bags owners i at) (o w : ℕ)
    → AreStorable level (gen_set owners i at o w) → target_operator level ≢ o
gen_other {H} {level} p o w s =
    other_set (target_operator level) p.settings.gens o w (place_in p (λ s. with_gens (map.insert s.gens o w) s) s)

pub gen_found_other : {H : Type 0} {op : ℕ} {bags : List (List Bag)} {owners : List (ZoneOwner H)} {i : ℕ}
    {at : ZonePlace} (p : PlaceAt op bags owners i at) {es : List (ℕ × ℕ)} {o j : ℕ}
    → entries_at owners i at ≡ Some es → IsAt es o j → op ≢ o
gen_found_other {H} {op} p {es} {o} {j} there found =
    other_found op p.settings.gens o _ p.plain
    (found_amount p.settings.gens p.plain.fit o j (place_at p there found) (0, 0))

-- the first generator or modulator of a place without a bag
module _ {H : Type 0} {level : Level} {hs : List H} {bags : List (List Bag)} {owners : List (ZoneOwner H)} {i : ℕ}
    {at : ZonePlace} (b : BarePlace (target_operator level) hs bags owners i at) where
  pub first_gen_held : (o w : ℕ) → o < 2 ^ 16 → w < 2 ^ 16 → AreStorable level (gen_set owners i at o w)
      → CanHold bags (record { zones = 1; gens = 1; mods = 0 })
  first_gen_held o w fit_o fit_w s =
      let own : Bag = record { gens = (o, w) ∷ []; mods = [] } in
      bag_held bags i 0 (bags_of (target_operator level) b.place.found.owner) own _ b.place.found.own (omega arith)
      (first_gen b o w (changed bags i (λ bs. insert bs 0 own)) (gen_other b.place o w s) fit_o fit_w refl) s
      (omega arith) (omega arith) (omega arith)

  pub first_mod_held : (j : ℕ) (m : Modulator) → IfSome (mods_at owners i at) (λ (mods : List Modulator). j ≤ length mods)
      → AreStorable level (mod_added owners i at j m) → CanHold bags (record { zones = 1; gens = 0; mods = 1 })
  first_mod_held j m h s =
      let own : Bag = record { gens = []; mods = m ∷ [] } in
      bag_held bags i 0 (bags_of (target_operator level) b.place.found.owner) own _ b.place.found.own (omega arith)
      (first_mod b j m (changed bags i (λ bs. insert bs 0 own)) h refl) s (omega arith) (omega arith) (omega arith)

-- a generator or a modulator of a place with a bag
module _ {H : Type 0} {level : Level} {hs : List H} {bags : List (List Bag)} {owners : List (ZoneOwner H)} {i : ℕ}
    {at : ZonePlace} {n : ℕ} (b : BagPlace (target_operator level) hs bags owners i at n) where
  module _ {es : List (ℕ × ℕ)} {o j : ℕ} (there : entries_at owners i at ≡ Some es) where
    pub gen_held : (w : ℕ) → o < 2 ^ 16 → w < 2 ^ 16 → IsInsertionIndex es o j → AreStorable level (gen_set owners i at o w)
        → CanHold bags (record { zones = 0; gens = 1; mods = 0 })
    gen_held w fit_o fit_w gap s =
        let F = λ (b : Bag). records.with_gens (put b.gens j ((o, w) ∷ [])) b in
        let within = (place_gap b.place there gap).within in
        let some = gens_size b in
        let size = ap length (put-one b.own.bag.gens j (o, w)) ∙ length-insert b.own.bag.gens j (o, w) (omega arith) in
        sent_held bags i n (bags_of (target_operator level) b.place.found.owner) b.own.bag F _ b.place.found.own
        b.own.found
        (gen_is_put b there w (bag_changed bags i n F) (gen_other b.place o w s) fit_o fit_w gap refl refl) s refl
        (omega arith) (omega arith)

  pub mod_held : (j : ℕ) (m : Modulator) → IfSome (mods_at owners i at) (λ (mods : List Modulator). j ≤ length mods)
      → AreStorable level (mod_added owners i at j m) → CanHold bags (record { zones = 0; gens = 0; mods = 1 })
  mod_held j m h s =
      let F = λ (b : Bag). records.with_mods (put b.mods j (m ∷ [])) b in
      let within = of_mods b.place (λ (mods : List Modulator). j ≤ length mods) h in
      let same = ap length b.own.mods in
      let size = ap length (put-one b.own.bag.mods j m) ∙ length-insert b.own.bag.mods j m (omega arith) in
      sent_held bags i n (bags_of (target_operator level) b.place.found.owner) b.own.bag F _ b.place.found.own
      b.own.found (mod_is_put b j m (bag_changed bags i n F) h refl refl) s refl (omega arith) (omega arith)

-- ---- one zone less

insert_longer : {X : Type 0} (xs : List X) (k : ℕ) (x : X) → length xs ≤ length (insert xs k x)
insert_longer xs zero x = omega arith
insert_longer [] (suc k) x = omega arith
insert_longer (y ∷ ys) (suc k) x = let rest = insert_longer ys k x in omega arith

module _ {X : Type 0} (P : X → Type 0) where
  others_in : (xs : List X) (k : ℕ) (x : X) → AllByRecursion P (insert xs k x) → AllByRecursion P xs
  others_in xs zero x p = p.1
  others_in [] (suc k) x p = tt
  others_in (y ∷ ys) (suc k) x p = (p.0, others_in ys k x p.1)

module _ {H : Type 0} {at : Level} (owners : List (ZoneOwner H)) (i k : ℕ) (z : Zone) (x : ZoneOwner H)
    (there : slice_get owners i ≡ Some x) (s : AreStorable at (zone_added owners i k z)) where
  abbrev with_zone : ZoneOwner H
  with_zone = with_zones (insert x.zones k z) x

  added_is : zone_added owners i k z ≡ set owners i with_zone
  added_is = changed-found owners i (λ x. with_zones (insert x.zones k z) x) x there

  fewer : (f : ZoneOwner H → ℕ) → f x ≤ f with_zone → sum_by f owners ≤ sum_by f (zone_added owners i k z)
  fewer f h =
      let sum = sum_by-set f owners i with_zone x (slice_get-within owners i x there) in
      let own = ap f (get_or_from_slice_get owners i x x there) in
      let is = ap (sum_by f) added_is in
      omega arith

  pub zone_out : AreStorable at owners
  zone_out =
      let longer = insert_longer x.zones k z in
      let gens_more = sum_by-insert (λ (z : Zone). len z.gens + 1) x.zones k z in
      let mods_more = sum_by-insert (λ (z : Zone). length z.mods) x.zones k z in
      let zones = fewer (λ (x : ZoneOwner H). zone_count x.global x.zones) (omega arith) in
      let gens = fewer (λ (x : ZoneOwner H). gen_count x.global x.zones) (omega arith) in
      let mods = fewer (λ (x : ZoneOwner H). mod_count x.global x.zones) (omega arith) in
      let op = target_operator at in
      let new =
      everywhere-sent (IsPlainOwner op) owners i (λ x. with_zones (insert x.zones k z) x) x there s.plain in
      let all = subst (AllByRecursion (IsPlainOwner op)) added_is s.plain in
      let own : IsPlainOwner op x =
      record { global = new.global; zones = others_in (λ (z : Zone). IsPlain op z.gens) x.zones k z new.zones } in
      record {
        zones = (let h = s.zones in omega arith);
        gens = (let h = s.gens in omega arith);
        mods = (let h = s.mods in omega arith);
        plain =
            subst (AllByRecursion (IsPlainOwner op)) (slice_set-back owners i x with_zone there)
            (everywhere-set (IsPlainOwner op) (set owners i with_zone) i x own all);
      }
