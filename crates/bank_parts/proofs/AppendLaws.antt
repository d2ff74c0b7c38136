-- Presets and instruments appended bag by bag.
use Rattle.std.proofs.Common.{if◌then◌else◌, ◌≡◌, ℕ, ◌<◌, ◌≤◌, ◌+◌, ◌==◌, Bool, true, false, Option, None, zero, suc}
use Rattle.std.proofs.Common.{List, [], ◌∷◌, ◌++◌, length, map, insert, take, drop, slice_get, set, get_or, Some}
use Rattle.std.proofs.Common.{refl, sym, subst, ◌∙◌, ap, length-append, append-nil, append_assoc, arith}
use Rattle.std.specs.Prelude.{sum_by}
use Rattle.std.specs.FinMap.{entries, len, len-entries}
use Rattle.std.specs.Option.{IfSome, IsSomeAnd}
use Rattle.std.proofs.lemmas.List.Sums.{sum_by-cons}
use Rattle.std.proofs.lemmas.Option.{get_or_from_slice_get}
use Rattle.base_numbered_lists.specs.Moved.{changed}
use Rattle.base_numbered_lists.proofs.Lists.{slice_get-found, slice_get-changed, changed-found, length-changed}
use Rattle.base_numbered_lists.proofs.Lists.{slice_set_same}
use Rattle.flat_records.specs.Bags.{Bag, gens_in, mods_in}
use Rattle.flat_records.specs.Owned.{all_bags}
use Rattle.flat_records.specs.Stored.{Counts}
use Rattle.flat_records.specs.OwnersStored.{Stored}
use Rattle.bank_parts.specs.declared.counting.Records.{Records}
use Rattle.bank_parts.specs.Counts.{records_of_global, records_of_zone, records_sum}
use Rattle.bank_parts.specs.declared.parts.GlobalZone.{GlobalZone}
use Rattle.bank_parts.specs.declared.parts.Zone.{Zone}
use Rattle.bank_parts.specs.declared.parts.ZoneOwner.{ZoneOwner}
use Rattle.bank_parts.specs.Bagged.{zone_bag, global_bag, global_bags, bags_of}
use Rattle.bank_parts.specs.Room.{HasRoom, records_of_zones}
use Rattle.bank_parts.proofs.ListLaws.{get-last, insert-last, set-last}
use Rattle.bank_parts.proofs.PlaceLaws.{of_some}
use Rattle.bank_parts.proofs.RoomLaws.{room_at_most, room_same, room_left, changed-twice}

-- ---- bags appended to those of one owner

module _ (owners : List (List Bag)) (i : ℕ) (own : List Bag) (there : slice_get owners i ≡ Some own) where
  -- what was appended, and one more
  pub appended : (mid new : List (List Bag)) (bs : List Bag) (n : ℕ) (b : Bag)
      → mid ≡ changed owners i (λ own. own ++ bs) → IfSome (slice_get mid i) (λ (own : List Bag). n ≡ length own)
      → new ≡ changed mid i (λ own. insert own n b) → new ≡ changed owners i (λ own. own ++ (bs ++ b ∷ []))
  appended mid new bs n b m count e =
      let now : slice_get mid i ≡ Some (own ++ bs) =
      ap (λ os. slice_get os i) m ∙ slice_get-changed owners i (λ own. own ++ bs) own there in
      let size : n ≡ length (own ++ bs) = of_some (λ (own : List Bag). n ≡ length own) now count in
      e ∙ (ap (λ os. changed os i (λ own. insert own n b)) m
      ∙ (changed-twice owners i own (λ own. own ++ bs) (λ own. insert own n b) there
      ∙ (ap (set owners i)
      (ap (λ n. insert (own ++ bs) n b) size ∙ (insert-last (own ++ bs) b ∙ append_assoc own bs (b ∷ [])))
      ∙ sym (changed-found owners i (λ own. own ++ (bs ++ b ∷ [])) own there))))

  pub none_appended : (bs : List Bag) → bs ≡ [] → owners ≡ changed owners i (λ own. own ++ bs)
  none_appended bs e =
      sym
      (changed-found owners i (λ own. own ++ bs) own there
      ∙ (ap (set owners i) (ap (λ bs. own ++ bs) e ∙ append-nil own) ∙ slice_set_same owners i own there))

  pub both_appended : (mid new : List (List Bag)) (bs cs : List Bag) → mid ≡ changed owners i (λ own. own ++ bs)
      → new ≡ changed mid i (λ own. own ++ cs) → new ≡ changed owners i (λ own. own ++ (bs ++ cs))
  both_appended mid new bs cs m e =
      e ∙ (ap (λ os. changed os i (λ own. own ++ cs)) m
      ∙ (changed-twice owners i own (λ own. own ++ bs) (λ own. own ++ cs) there
      ∙ (ap (set owners i) (append_assoc own bs cs)
      ∙ sym (changed-found owners i (λ own. own ++ (bs ++ cs)) own there))))

-- the new last owner
pub last_filled : (owners new : List (List Bag)) (bs : List Bag)
    → new ≡ changed (owners ++ [] ∷ []) (length owners) (λ own. own ++ bs) → new ≡ owners ++ bs ∷ []
last_filled owners new bs e =
    e
    ∙
    (changed-found (owners ++ [] ∷ []) (length owners) (λ own. own ++ bs) [] (get-last owners [])
    ∙ set-last owners [] bs)

-- ---- members one by one

pub take-next : {X : Type 0} (xs : List X) (k : ℕ) (x : X) → slice_get xs k ≡ Some x
    → take (suc k) xs ≡ take k xs ++ x ∷ []
take-next [] k x e = cc
take-next (y ∷ ys) zero x e = let same : y ≡ x = cc in ap (λ y. y ∷ []) same
take-next (y ∷ ys) (suc k) x e = ap (λ zs. y ∷ zs) (take-next ys k x e)

pub drop-next : {X : Type 0} (xs : List X) (k : ℕ) (x : X) → slice_get xs k ≡ Some x → drop k xs ≡ x ∷ drop (suc k) xs
drop-next [] k x e = cc
drop-next (y ∷ ys) zero x e = let same : y ≡ x = cc in ap (λ y. y ∷ ys) same
drop-next (y ∷ ys) (suc k) x e = drop-next ys k x e

-- a member as a loop reads it
pub found_item : {X : Type 0} (xs : List X) (k : ℕ) (x : X) → x ≡ get_or xs k x → k < length xs
    → slice_get xs k ≡ Some x
found_item xs k x e h =
    let (y, there) = slice_get-found xs k h in there ∙ ap Some (sym (e ∙ get_or_from_slice_get xs k y x there))

pub take-all : {X : Type 0} (xs : List X) (k : ℕ) → length xs ≤ k → take k xs ≡ xs
take-all [] zero h = refl
take-all [] (suc k) h = refl
take-all (x ∷ xs) zero h = absurd (omega arith)
take-all (x ∷ xs) (suc k) h = ap (λ ys. x ∷ ys) (take-all xs k (omega arith))

pub map-append : {X Y : Type 0} (f : X → Y) (xs ys : List X) → map f (xs ++ ys) ≡ map f xs ++ map f ys
map-append f [] ys = refl
map-append f (x ∷ xs) ys = ap (λ zs. f x ∷ zs) (map-append f xs ys)

pub zones_next : (op : ℕ) (zones : List Zone) (k : ℕ) (z : Zone) → slice_get zones k ≡ Some z
    → map (zone_bag op) (take (suc k) zones) ≡ map (zone_bag op) (take k zones) ++ zone_bag op z ∷ []
zones_next op zones k z e =
    ap (map (zone_bag op)) (take-next zones k z e) ∙ map-append (zone_bag op) (take k zones) (z ∷ [])

-- the records of the rest
pub record RestOf (more left : Records) (zone : Zone) : Type 0 where
  pub zones : more.zones ≡ left.zones + 1
  pub gens : more.gens ≡ left.gens + (len zone.gens + 1)
  pub mods : more.mods ≡ left.mods + length zone.mods

pub rest_next : (zones : List Zone) (k : ℕ) (z : Zone) → slice_get zones k ≡ Some z
    → RestOf (records_of_zones (drop k zones)) (records_of_zones (drop (suc k) zones)) z
rest_next zones k z e =
    let rest = drop-next zones k z e in
    let size = ap length rest in
    let gens =
    ap (sum_by (λ (z : Zone). len z.gens + 1)) rest
    ∙ sum_by-cons (λ (z : Zone). len z.gens + 1) z (drop (suc k) zones) in
    let mods =
    ap (sum_by (λ (z : Zone). length z.mods)) rest
    ∙ sum_by-cons (λ (z : Zone). length z.mods) z (drop (suc k) zones) in
    record { zones = omega arith; gens = omega arith; mods = omega arith }

-- ---- an owner without bags has no records

pub append_no_bags : (owners : List (List Bag)) → all_bags (owners ++ [] ∷ []) ≡ all_bags owners
append_no_bags [] = refl
append_no_bags (xs ∷ os) = ap (λ bs. xs ++ bs) (append_no_bags os)

-- ---- the bag of a zone

pub found_that : {X : Type 0} (P : X → Type 0) (o : Option X) → IsSomeAnd o P → (x : X) × (o ≡ Some x) × P x
found_that P None h = absurd h
found_that P (Some x) h = (x, refl, h)

pub zone_leaves : (s t : Stored) (i k op : ℕ) (zone : Zone) (more : Records)
    → IsSomeAnd (slice_get s.owners i) (λ own. k ≤ length own)
    → t.owners ≡ changed s.owners i (λ own. insert own k (zone_bag op zone))
    → s.spare.bags ≤ t.spare.bags + 1 → s.spare.gens ≤ t.spare.gens + (len zone.gens + 1)
    → s.spare.mods ≤ t.spare.mods + length zone.mods
    → HasRoom s (records_sum (records_of_zone zone) more) → HasRoom t more
zone_leaves s t i k op zone more place e bags gens mods h =
    let (own, there, within) = found_that (λ (own : List Bag). k ≤ length own) (slice_get s.owners i) place in
    let size = length-append (entries zone.gens) ((op, zone.target) ∷ []) in
    let count = len-entries zone.gens in
    room_left s t (records_of_zone zone) more i k own (zone_bag op zone) there within e refl (omega arith) refl bags
    (omega arith) mods h

-- ---- the bag of a global zone, appended

module _ (g : GlobalZone) (r : Bool) (is : r ≡ (len g.gens + length g.mods == 0)) where
  pub global_needs : (s : Stored) → r ≡ false → HasRoom s (records_of_global g)
      → HasRoom s (record { zones = 1; gens = len g.gens; mods = length g.mods })
  global_needs s f h =
      subst (λ c. HasRoom s (record { zones = if c then 0 else 1; gens = len g.gens; mods = length g.mods }))
      (sym is ∙ f) h

  pub no_bag_of : r ≡ true → global_bags g ≡ []
  no_bag_of t = ap (λ c. if c then [] else (global_bag g ∷ [])) (sym is ∙ t)

  pub one_bag_of : r ≡ false → global_bags g ≡ global_bag g ∷ []
  one_bag_of f = ap (λ c. if c then [] else (global_bag g ∷ [])) (sym is ∙ f)

  pub one_counted_global : r ≡ false → (records_of_global g).zones ≡ 1
  one_counted_global f = ap (λ c. if c then 0 else 1) (sym is ∙ f)

pub last_place : (owners : List (List Bag)) (i n : ℕ) → i < length owners
    → IfSome (slice_get owners i) (λ (own : List Bag). n ≡ length own)
    → IsSomeAnd (slice_get owners i) (λ own. n ≤ length own)
last_place owners i n within count =
    let (own, there) = slice_get-found owners i within in
    let size = of_some (λ (own : List Bag). n ≡ length own) there count in
    subst (λ o. IsSomeAnd o (λ (own : List Bag). n ≤ length own)) (sym there) (omega arith)

pub global_is_put : (owners new : List (List Bag)) (i n : ℕ) (b : Bag) (g : GlobalZone) → i < length owners
    → IfSome (slice_get owners i) (λ (own : List Bag). n ≡ length own)
    → b ≡ global_bag g → global_bags g ≡ global_bag g ∷ [] → new ≡ changed owners i (λ own. insert own n b)
    → new ≡ changed owners i (λ own. own ++ global_bags g)
global_is_put owners new i n b g within count same one e =
    let (own, there) = slice_get-found owners i within in
    appended owners i own there owners new [] n b (none_appended owners i own there [] refl) count e
    ∙ ap (λ bs. changed owners i (λ own. own ++ bs)) (ap (λ b. b ∷ []) same ∙ sym one)

pub global_leaves : (s t : Stored) (i n : ℕ) (b : Bag) (g : GlobalZone) (more : Records) → i < length s.owners
    → IfSome (slice_get s.owners i) (λ (own : List Bag). n ≡ length own)
    → b ≡ global_bag g → (records_of_global g).zones ≡ 1 → t.owners ≡ changed s.owners i (λ own. insert own n b)
    → s.spare.bags ≤ t.spare.bags + 1 → s.spare.gens ≤ t.spare.gens + length b.gens
    → s.spare.mods ≤ t.spare.mods + length b.mods
    → HasRoom s (records_sum (records_of_global g) more) → HasRoom t more
global_leaves s t i n b g more within count same one e bags gens mods h =
    let (own, there) = slice_get-found s.owners i within in
    let size = of_some (λ (own : List Bag). n ≡ length own) there count in
    let gens_same = ap (λ (b : Bag). length b.gens) same in
    let mods_same = ap (λ (b : Bag). length b.mods) same in
    let entries_count = len-entries g.gens in
    room_left s t (records_of_global g) more i n own b there (omega arith) e one (omega arith) (omega arith) bags
    gens mods h

-- ---- zones one by one

pub record AreAppended (owners : List (List Bag)) (s : Stored) (i op k : ℕ) (zones : List Zone) : Type 0 where
  pub all : s.owners ≡ changed owners i (λ own. own ++ map (zone_bag op) (take k zones))
  pub room : HasRoom s (records_of_zones (drop k zones))

pub none_appended_yet : (s : Stored) (i op : ℕ) (zones : List Zone) → i < length s.owners
    → HasRoom s (records_of_zones zones) → AreAppended s.owners s i op 0 zones
none_appended_yet s i op zones within room =
    let (own, there) = slice_get-found s.owners i within in
    record { all = none_appended s.owners i own there [] refl; room = room }

pub appended_within : (owners : List (List Bag)) (s : Stored) (i op k : ℕ) (zones : List Zone) → i < length owners
    → AreAppended owners s i op k zones → i < length s.owners
appended_within owners s i op k zones within h =
    let size = ap length h.all ∙ length-changed owners i (λ own. own ++ map (zone_bag op) (take k zones)) in omega arith

pub zone_needs : (s : Stored) (k : ℕ) (zones : List Zone) (z : Zone) → slice_get zones k ≡ Some z
    → HasRoom s (records_of_zones (drop k zones))
    → HasRoom s (records_sum (records_of_zone z) (records_of_zones (drop (suc k) zones)))
zone_needs s k zones z there h =
    let r = rest_next zones k z there in
    room_at_most s (records_of_zones (drop k zones))
    (records_sum (records_of_zone z) (records_of_zones (drop (suc k) zones))) (omega arith) (omega arith)
    (omega arith) h

pub zone_alone : (s : Stored) (z : Zone) (more : Records) → HasRoom s (records_sum (records_of_zone z) more)
    → HasRoom s (records_of_zone z)
zone_alone s z more h =
    room_at_most s (records_sum (records_of_zone z) more) (records_of_zone z) (omega arith) (omega arith)
    (omega arith) h

pub one_more_appended : (owners : List (List Bag)) (s t : Stored) (i op k n : ℕ) (zones : List Zone) (z : Zone)
    → i < length owners → AreAppended owners s i op k zones → slice_get zones k ≡ Some z
    → IfSome (slice_get s.owners i) (λ (own : List Bag). n ≡ length own)
    → t.owners ≡ changed s.owners i (λ own. insert own n (zone_bag op z))
    → HasRoom t (records_of_zones (drop (suc k) zones)) → AreAppended owners t i op (suc k) zones
one_more_appended owners s t i op k n zones z within h there count e room =
    let (own, found) = slice_get-found owners i within in
    record {
      all =
          appended owners i own found s.owners t.owners (map (zone_bag op) (take k zones)) n (zone_bag op z) h.all
          count e
          ∙ ap (λ bs. changed owners i (λ own. own ++ bs)) (sym (zones_next op zones k z there));
      room = room;
    }

pub all_appended : (owners : List (List Bag)) (s : Stored) (i op k : ℕ) (zones : List Zone)
    → AreAppended owners s i op k zones → length zones ≤ k
    → s.owners ≡ changed owners i (λ own. own ++ map (zone_bag op) zones)
all_appended owners s i op k zones h over =
    h.all ∙ ap (λ zones. changed owners i (λ own. own ++ map (zone_bag op) zones)) (take-all zones k over)

-- ---- a whole owner

pub owner_opens : (s t : Stored) (more : Records) (n : ℕ) → n ≡ length s.owners → t.owners ≡ insert s.owners n []
    → t.spare ≡ s.spare → HasRoom s more → HasRoom t more
owner_opens s t more n last e spare h =
    let to : t.owners ≡ s.owners ++ [] ∷ [] = e ∙ (ap (λ n. insert s.owners n []) last ∙ insert-last s.owners []) in
    let bags = ap all_bags to ∙ append_no_bags s.owners in
    let b = ap (λ (c : Counts). c.bags) spare in
    let g = ap (λ (c : Counts). c.gens) spare in
    let m = ap (λ (c : Counts). c.mods) spare in
    room_same s t more (ap length bags) (ap (λ bs. length (gens_in bs)) bags) (ap (λ bs. length (mods_in bs)) bags)
    (omega arith) (omega arith) (omega arith) h

pub opened_within : (owners new : List (List Bag)) (n : ℕ) → n ≡ length owners → new ≡ insert owners n []
    → n < length new
opened_within owners new n last e =
    let size =
    ap length (e ∙ (ap (λ n. insert owners n []) last ∙ insert-last owners []))
    ∙ length-append owners ([] ∷ []) in
    omega arith

pub changed_within : (owners new : List (List Bag)) (n : ℕ) (f : List Bag → List Bag) → n < length owners
    → new ≡ changed owners n f → n < length new
changed_within owners new n f within e = let size = ap length e ∙ length-changed owners n f in omega arith

pub owner_appended : {H : Type 0} (op : ℕ) (x : ZoneOwner H) (owners first second new : List (List Bag)) (n : ℕ)
    → n ≡ length owners → first ≡ insert owners n []
    → second ≡ changed first n (λ own. own ++ global_bags x.global)
    → new ≡ changed second n (λ own. own ++ map (zone_bag op) x.zones) → new ≡ owners ++ bags_of op x ∷ []
owner_appended {H} op x owners first second new n last f s e =
    let to : first ≡ owners ++ [] ∷ [] = f ∙ (ap (λ n. insert owners n []) last ∙ insert-last owners []) in
    let there : slice_get first n ≡ Some [] = (λ t. slice_get (to t) (last t)) ∙ get-last owners [] in
    last_filled owners new (bags_of op x)
    (both_appended first n [] there second new (global_bags x.global) (map (zone_bag op) x.zones) s e
    ∙ (λ t. changed (to t) (last t) (λ own. own ++ bags_of op x)))
