-- Numbers of records after bags are inserted, and that there is capacity for the rest.
use Rattle.std.proofs.Common.{◌≡◌, ℕ, ◌≤◌, ◌+◌, zero, suc, List, [], ◌∷◌, length, insert, slice_get, set, Some, refl}
use Rattle.std.proofs.Common.{◌∙◌, ap, length-append, arith}
use Rattle.std.specs.List.{flat_map}
use Rattle.std.proofs.lemmas.List.Concat.{flat_map-append}
use Rattle.base_numbered_lists.specs.Moved.{changed}
use Rattle.base_numbered_lists.proofs.Lists.{slice_get-changed, changed-found}
use Rattle.flat_records.specs.Bags.{Bag, gens_in, mods_in}
use Rattle.flat_records.specs.Owned.{all_bags, bag_changed}
use Rattle.flat_records.specs.OwnersStored.{Stored}
use Rattle.bank_parts.specs.declared.counting.Records.{Records}
use Rattle.bank_parts.specs.Counts.{records_sum}
use Rattle.bank_parts.specs.Room.{HasRoom}

-- ---- numbers of one kind

module _ {X : Type 0} (f : Bag → List X) where
  more_in : (own : List Bag) (k : ℕ) (b : Bag) → k ≤ length own
      → length (flat_map f (insert own k b)) ≡ length (flat_map f own) + length (f b)
  more_in own zero b h = let sizes = length-append (f b) (flat_map f own) in omega arith
  more_in [] (suc k) b h = absurd (omega arith)
  more_in (c ∷ cs) (suc k) b h =
      let rest = more_in cs k b (omega arith) in
      let before = length-append (f c) (flat_map f cs) in
      let after = length-append (f c) (flat_map f (insert cs k b)) in
      omega arith

  flat_count : (xs : List Bag) (os : List (List Bag))
      → length (flat_map f (all_bags (xs ∷ os))) ≡ length (flat_map f xs) + length (flat_map f (all_bags os))
  flat_count xs os =
      ap length (flat_map-append f xs (all_bags os)) ∙ length-append (flat_map f xs) (flat_map f (all_bags os))

  set_count : (owners : List (List Bag)) (i : ℕ) (own new : List Bag) → slice_get owners i ≡ Some own
      → length (flat_map f (all_bags (set owners i new))) + length (flat_map f own)
      ≡ length (flat_map f (all_bags owners)) + length (flat_map f new)
  set_count [] i own new e = cc
  set_count (xs ∷ os) zero own new e =
      let same : xs ≡ own = cc in
      let size = ap (λ xs. length (flat_map f xs)) same in
      let before = flat_count xs os in
      let after = flat_count new os in
      omega arith
  set_count (xs ∷ os) (suc i) own new e =
      let rest = set_count os i own new e in
      let before = flat_count xs os in
      let after = flat_count xs (set os i new) in
      omega arith

  pub grows : (owners : List (List Bag)) (i k : ℕ) (own : List Bag) (b : Bag) → slice_get owners i ≡ Some own
      → k ≤ length own
      → length (flat_map f (all_bags (changed owners i (λ own. insert own k b))))
      ≡ length (flat_map f (all_bags owners)) + length (f b)
  grows owners i k own b there h =
      let count = set_count owners i own (insert own k b) there in
      let more = more_in own k b h in
      let to =
      ap (λ os. length (flat_map f (all_bags os))) (changed-found owners i (λ own. insert own k b) own there) in
      omega arith

  set_in : (own : List Bag) (k : ℕ) (b c : Bag) → slice_get own k ≡ Some b
      → length (flat_map f (set own k c)) + length (f b) ≡ length (flat_map f own) + length (f c)
  set_in [] k b c e = cc
  set_in (x ∷ xs) zero b c e =
      let same : x ≡ b = cc in
      let size = ap (λ x. length (f x)) same in
      let before = length-append (f x) (flat_map f xs) in
      let after = length-append (f c) (flat_map f xs) in
      omega arith
  set_in (x ∷ xs) (suc k) b c e =
      let rest = set_in xs k b c e in
      let before = length-append (f x) (flat_map f xs) in
      let after = length-append (f x) (flat_map f (set xs k c)) in
      omega arith

  -- after a bag is changed by F
  pub sent_count : (owners : List (List Bag)) (i k : ℕ) (own : List Bag) (b : Bag) (F : Bag → Bag)
      → slice_get owners i ≡ Some own → slice_get own k ≡ Some b
      → length (flat_map f (all_bags (bag_changed owners i k F))) + length (f b)
      ≡ length (flat_map f (all_bags owners)) + length (f (F b))
  sent_count owners i k own b F there found =
      let count = set_count owners i own (changed own k F) there in
      let in_own = set_in own k b (F b) found in
      let is = ap (λ own. length (flat_map f own)) (changed-found own k F b found) in
      let to =
      ap (λ os. length (flat_map f (all_bags os))) (changed-found owners i (λ own. changed own k F) own there) in
      omega arith

pub one_each : (bags : List Bag) → length (flat_map (λ (b : Bag). b ∷ []) bags) ≡ length bags
one_each [] = refl
one_each (b ∷ bs) = ap suc (one_each bs)

-- ---- capacity

pub room_at_most : (s : Stored) (more less : Records) → less.zones ≤ more.zones → less.gens ≤ more.gens
    → less.mods ≤ more.mods → HasRoom s more → HasRoom s less
room_at_most s more less z g m h =
    record {
      held =
          record { zones = omega arith; gens = omega arith; mods = omega arith };
      zones =
          omega arith;
      gens = omega arith;
      mods = omega arith;
    }

-- the same number of records, and no less spare capacity
pub room_same : (s t : Stored) (more : Records) → length (all_bags t.owners) ≡ length (all_bags s.owners)
    → length (gens_in (all_bags t.owners)) ≡ length (gens_in (all_bags s.owners))
    → length (mods_in (all_bags t.owners)) ≡ length (mods_in (all_bags s.owners)) → s.spare.bags ≤ t.spare.bags
    → s.spare.gens ≤ t.spare.gens → s.spare.mods ≤ t.spare.mods
    → HasRoom s more → HasRoom t more
room_same s t more zs gs ms z g m h =
    record {
      held =
          record { zones = omega arith; gens = omega arith; mods = omega arith };
      zones =
          omega arith;
      gens = omega arith;
      mods = omega arith;
    }

-- after a bag is inserted
pub room_left : (s t : Stored) (used more : Records) (i k : ℕ) (own : List Bag) (b : Bag)
    → slice_get s.owners i ≡ Some own → k ≤ length own
    → t.owners ≡ changed s.owners i (λ own. insert own k b) → used.zones ≡ 1 → used.gens ≡ length b.gens
    → used.mods ≡ length b.mods
    → s.spare.bags ≤ t.spare.bags + 1 → s.spare.gens ≤ t.spare.gens + length b.gens
    → s.spare.mods ≤ t.spare.mods + length b.mods
    → HasRoom s (records_sum used more) → HasRoom t more
room_left s t used more i k own b there within e uz ug um sz sg sm h =
    let bags_to = ap (λ os. length (all_bags os)) e in
    let bags_were = one_each (all_bags s.owners) in
    let bags_are = one_each (all_bags (changed s.owners i (λ own. insert own k b))) in
    let bags_grow = grows (λ (b : Bag). b ∷ []) s.owners i k own b there within in
    let gens_to = ap (λ os. length (gens_in (all_bags os))) e in
    let gens_grow = grows (λ (b : Bag). b.gens) s.owners i k own b there within in
    let mods_to = ap (λ os. length (mods_in (all_bags os))) e in
    let mods_grow = grows (λ (b : Bag). b.mods) s.owners i k own b there within in
    record {
      held =
          record { zones = omega arith; gens = omega arith; mods = omega arith };
      zones =
          omega arith;
      gens = omega arith;
      mods = omega arith;
    }

-- ---- lists

pub set-twice : {X : Type 0} (xs : List X) (i : ℕ) (x y : X) → set (set xs i x) i y ≡ set xs i y
set-twice [] i x y = refl
set-twice (z ∷ zs) zero x y = refl
set-twice (z ∷ zs) (suc i) x y = ap (λ ws. z ∷ ws) (set-twice zs i x y)

-- two changes of one member
pub changed-twice : {X : Type 0} (xs : List X) (i : ℕ) (x : X) (f g : X → X) → slice_get xs i ≡ Some x
    → changed (changed xs i f) i g ≡ set xs i (g (f x))
changed-twice xs i x f g e =
    changed-found (changed xs i f) i g (f x) (slice_get-changed xs i f x e)
    ∙ (ap (λ ys. set ys i (g (f x))) (changed-found xs i f x e) ∙ set-twice xs i (f x) (g (f x)))
