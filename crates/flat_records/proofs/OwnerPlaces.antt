-- The index of an owner's bag among all bags, and changes of the flat lists there.
use Rattle.std.proofs.Common.{◌≡◌, ℕ, ◌<◌, ◌≤◌, ◌+◌, ◌-◌, ◌^◌, suc, zero, List, [], ◌∷◌, ◌++◌, length, All, insert}
use Rattle.std.proofs.Common.{IsSome, remove, slice_get, set, Option, Some, None, refl, sym, subst, ◌∙◌, ap, drop}
use Rattle.std.proofs.Common.{get_or, length-append, zero-add, suc-add, arith}
use Rattle.std.specs.Option.{IfSome, IsSomeAnd, option_and_then}
use Rattle.std.proofs.lemmas.List.{set-append_left, set-append_right}
use Rattle.std.proofs.lemmas.List.Edits.{insert-append_left, insert-append_right, remove-append_left}
use Rattle.std.proofs.lemmas.List.Edits.{remove-append_right, length-insert, length-remove}
use Rattle.std.proofs.lemmas.List.Elements.{All-drop}
use Rattle.base_numbered_lists.specs.Moved.{changed}
use Rattle.base_numbered_lists.proofs.Lists.{changed-found, length-changed, slice_get-found, slice_get-within}
use Rattle.flat_records.specs.Runs.{starts, changed_from}
use Rattle.flat_records.specs.Bags.{Bag}
use Rattle.base_numbered_lists.proofs.Changing.{found}
use Rattle.flat_records.proofs.Starts.{end, drop-past, All-starts, All-starts_back}
use Rattle.flat_records.specs.Owned.{Flat, past_owner, all_bags, bag_at, bag_changed}
use Rattle.flat_records.proofs.Owners.{AreOf, Begin, begin, owners-end, bags_kept, bags_put, bags_cut}

-- ---- a range in the middle of a list

get-right : {X : Type 0} (ws ys : List X) (k : ℕ) → slice_get (ws ++ ys) (length ws + k) ≡ slice_get ys k
get-right [] ys k = ap (slice_get ys) (zero-add k)
get-right (a ∷ ws) ys k = ap (slice_get (a ∷ (ws ++ ys))) (suc-add (length ws) k) ∙ get-right ws ys k

get-left : {X : Type 0} (xs ys : List X) (k : ℕ) (x : X) → slice_get xs k ≡ Some x → slice_get (xs ++ ys) k ≡ Some x
get-left [] ys k x e = cc
get-left (z ∷ zs) ys zero x e = e
get-left (z ∷ zs) ys (suc k) x e = get-left zs ys k x e

module _ {X : Type 0} (ws xs bs : List X) (at k : ℕ) (e : at ≡ length ws) where
  pub get_in : (x : X) → slice_get xs k ≡ Some x → slice_get (ws ++ (xs ++ bs)) (at + k) ≡ Some x
  get_in x f = ap (λ n. slice_get (ws ++ (xs ++ bs)) (n + k)) e ∙ (get-right ws (xs ++ bs) k ∙ get-left xs bs k x f)

  back : (at + k) - length ws ≡ k
  back = omega arith

  set_in : (x : X) → k < length xs → set (ws ++ (xs ++ bs)) (at + k) x ≡ ws ++ (set xs k x ++ bs)
  set_in x h =
      set-append_right ws (xs ++ bs) (length ws) (at + k) x refl (omega arith)
      ∙ (ap (λ n. ws ++ set (xs ++ bs) n x) back ∙ ap (λ zs. ws ++ zs) (set-append_left xs bs k x h))

  changed_in : (f : X → X) (x : X) → slice_get xs k ≡ Some x
      → changed (ws ++ (xs ++ bs)) (at + k) f ≡ ws ++ (changed xs k f ++ bs)
  changed_in f x there =
      changed-found (ws ++ (xs ++ bs)) (at + k) f x (get_in x there)
      ∙
      (set_in (f x) (slice_get-within xs k x there)
      ∙ ap (λ zs. ws ++ (zs ++ bs)) (sym (changed-found xs k f x there)))

  pub insert_in : (x : X) → k ≤ length xs → insert (ws ++ (xs ++ bs)) (at + k) x ≡ ws ++ (insert xs k x ++ bs)
  insert_in x h =
      insert-append_right ws (xs ++ bs) (length ws) (at + k) x refl (omega arith)
      ∙ (ap (λ n. ws ++ insert (xs ++ bs) n x) back ∙ ap (λ zs. ws ++ zs) (insert-append_left xs bs k x h))

  pub remove_in : k < length xs → remove (ws ++ (xs ++ bs)) (at + k) ≡ ws ++ (remove xs k ++ bs)
  remove_in h =
      remove-append_right ws (xs ++ bs) (length ws) (at + k) refl (omega arith)
      ∙ (ap (λ n. ws ++ remove (xs ++ bs) n) back ∙ ap (λ zs. ws ++ zs) (remove-append_left xs bs k h))

-- ---- an index for a bag of owner i

pub record Gap (t : Flat) (owners : List (List Bag)) (i k : ℕ) : Type 0 where
  pub owner : List Bag
  pub there : slice_get owners i ≡ Some owner
  pub begin : Begin t owners i owner
  pub within : k ≤ length owner

pub gap : {t : Flat} {owners : List (List Bag)} → AreOf t owners → (i k : ℕ)
    → IsSomeAnd (slice_get owners i) (λ (bags : List Bag). k ≤ length bags) → Gap t owners i k
gap {t} {owners} a i k h =
    let (xs, there, within) = found (λ (bags : List Bag). k ≤ length bags) (slice_get owners i) h in
    record { owner = xs; there = there; begin = begin a i there; within = within }

-- Later starts can be raised.
pub later_raised : {t : Flat} {owners : List (List Bag)} {i k : ℕ} → Gap t owners i k → AreOf t owners → (n : ℕ)
    → length (all_bags owners) + n < 2 ^ 16
    → record { place : i + 1 ≤ length t.begins; fits : All (λ at. at + n < 2 ^ 16) (drop (i + 1) t.begins) }
later_raised {t} {owners} {i} g a n h =
    let last = owners-end 0 owners in
    let more = g.begin.more in
    record {
      place = omega arith;
      fits =
          All-drop (λ at. at + n < 2 ^ 16) (i + 1) t.begins
          (subst (λ (t : Flat). All (λ at. at + n < 2 ^ 16) t.begins) (sym a.same)
          (All-starts_back past_owner (λ at. at + n < 2 ^ 16) (λ m x p. omega arith) 0 owners (omega arith)));
    }

module _ {t : Flat} {owners : List (List Bag)} {i k : ℕ} (g : Gap t owners i k) {begins : List ℕ}
    (same : begins ≡ t.begins) where
  -- The requirements of `place`.
  pub place_there : record { owner : i + 1 < length begins; bag : get_or begins i 0 + k ≤ get_or begins (i + 1) 0 }
  place_there =
      let b = g.begin in let more = b.more in let at = b.at in let next = b.next in let within = g.within in
      rw same (record { owner = omega arith; bag = omega arith })

  module _ {at : ℕ} (e : at ≡ get_or begins i 0 + k) where
    place_is : at ≡ get_or t.begins i 0 + k
    place_is = e ∙ ap (λ begins. get_or begins i 0 + k) same

    pub place_within : at ≤ length t.bags
    place_within =
        let b = g.begin in let first = b.at in let within = g.within in let place = place_is in
        let size : length t.bags ≡ length (all_bags b.front) + (length g.owner + length (all_bags b.back)) =
        ap length b.bags ∙ simp length-append refl in
        omega arith

    pub bag_put : (x : Bag) {new : List ℕ} {bags : List Bag} → new ≡ changed_from (i + 1) (λ at. at + 1) t.begins
        → bags ≡ insert t.bags at x
        → AreOf (record { begins = new; bags = bags }) (changed owners i (λ bags. insert bags k x))
    bag_put x f h =
        let b = g.begin in
        let whole =
        h
        ∙
        ((λ j. insert (b.bags j) (place_is j) x)
        ∙ insert_in (all_bags b.front) g.owner (all_bags b.back) (get_or t.begins i 0) k b.at x
        g.within)
        in
        let size = length-insert g.owner k x g.within in
        bags_put b (λ bags. insert bags k x) whole 1 (omega arith) f

-- ---- bag k of owner i, which has property P

pub record Spot (t : Flat) (owners : List (List Bag)) (i k : ℕ) (P : Bag → Type 0) : Type 0 where
  pub gap : Gap t owners i k
  pub bag : Bag
  pub found : slice_get gap.owner k ≡ Some bag
  pub holds : P bag

found_owner : (P : Bag → Type 0) (k : ℕ) (o : Option (List Bag))
    → IsSomeAnd (option_and_then (λ bags. slice_get bags k) o) P
    → (xs : List Bag) × (b : Bag) × (o ≡ Some xs) × (slice_get xs k ≡ Some b) × P b
found_owner P k None h = absurd h
found_owner P k (Some xs) h = let f = found P (slice_get xs k) h in (xs, f.0, refl, f.1, f.2)

pub spot : {t : Flat} {owners : List (List Bag)} → AreOf t owners → (i k : ℕ) (P : Bag → Type 0)
    → IsSomeAnd (bag_at owners i k) P → Spot t owners i k P
spot {t} {owners} a i k P h =
    let f = found_owner P k (slice_get owners i) h in
    let within = slice_get-within f.0 k f.1 f.3 in
    record {
      gap =
          record { owner = f.0; there = f.2; begin = begin a i f.2; within = omega arith };
      bag =
          f.1;
      found = f.3;
      holds = f.4;
    }

-- Any bag.
abbrev pub Any : Bag → Type 0
Any b = Unit {0}

some_bag : (o : Option Bag) → IsSome o → IsSomeAnd o Any
some_bag None h = cc
some_bag (Some b) h = tt

pub any_bag : {t : Flat} {owners : List (List Bag)} → AreOf t owners → (i k : ℕ) → IsSome (bag_at owners i k)
    → Spot t owners i k Any
any_bag {t} {owners} a i k h = spot a i k Any (some_bag (bag_at owners i k) h)

pub member : {t : Flat} {owners : List (List Bag)} → AreOf t owners → (i k : ℕ)
    → IsSomeAnd (slice_get owners i) (λ (bags : List Bag). k < length bags) → Spot t owners i k Any
member {t} {owners} a i k h =
    let (xs, there, within) = found (λ (bags : List Bag). k < length bags) (slice_get owners i) h in
    let (b, found) = slice_get-found xs k within in
    record {
      gap =
          record { owner = xs; there = there; begin = begin a i there; within = omega arith };
      bag =
          b;
      found = found;
      holds = tt;
    }

module _ {t : Flat} {owners : List (List Bag)} {i k : ℕ} {P : Bag → Type 0} (s : Spot t owners i k P) where
  -- Later starts can be lowered.
  pub later_lowered : record { place : i + 1 ≤ length t.begins; fits : All (λ at. 1 ≤ at) (drop (i + 1) t.begins) }
  later_lowered =
      let b = s.gap.begin in
      let within = slice_get-within s.gap.owner k s.bag s.found in
      let before = b.before in
      let more = b.more in
      let place : i + 1 ≡ suc (length b.front) = omega arith in
      let from = past_owner (end past_owner 0 b.front) s.gap.owner in
      let following : drop (i + 1) t.begins ≡ starts past_owner from b.back =
      ap (λ p. drop p t.begins) place
      ∙
      (ap (λ (t : Flat). drop (suc (length b.front)) t.begins) b.same
      ∙ drop-past past_owner 0 b.front s.gap.owner b.back)
      in
      record {
        place = omega arith;
        fits =
            subst (All (λ at. 1 ≤ at)) (sym following)
            (All-starts past_owner (λ at. 1 ≤ at) (λ m x p. omega arith) from b.back (omega arith));
      }

  module _ {begins : List ℕ} (same : begins ≡ t.begins) {at : ℕ} (e : at ≡ get_or begins i 0 + k) where
    there : slice_get t.bags at ≡ Some s.bag
    there =
        let b = s.gap.begin in
        (λ j. slice_get (b.bags j) (place_is s.gap same e j))
        ∙ get_in (all_bags b.front) s.gap.owner (all_bags b.back) (get_or t.begins i 0) k b.at s.bag s.found

    pub bag_there : IsSomeAnd (slice_get t.bags at) P
    bag_there = subst (λ o. IsSomeAnd o P) (sym there) s.holds

    pub bag_within : at < length t.bags
    bag_within = slice_get-within t.bags at s.bag there

    pub bag_value : (Q : Bag → Type 0) → IfSome (slice_get t.bags at) Q → IfSome (bag_at owners i k) Q
    bag_value Q h =
        let seen : bag_at owners i k ≡ Some s.bag =
        ap (option_and_then (λ (bags : List Bag). slice_get bags k)) s.gap.there ∙ s.found in
        subst (λ o. IfSome o Q) (sym seen) (subst (λ o. IfSome o Q) there h)

    pub bag_sent : (f : Bag → Bag) {new : List Bag} → new ≡ changed t.bags at f
        → AreOf (record { begins = t.begins; bags = new }) (bag_changed owners i k f)
    bag_sent f h =
        let b = s.gap.begin in
        let whole =
        h
        ∙
        ((λ j. changed (b.bags j) (place_is s.gap same e j) f)
        ∙ changed_in (all_bags b.front) s.gap.owner (all_bags b.back) (get_or t.begins i 0) k b.at f
        s.bag s.found)
        in
        bags_kept b (λ bags. changed bags k f) whole (length-changed s.gap.owner k f)

    pub bag_cut : {new : List ℕ} {bags : List Bag} → new ≡ changed_from (i + 1) (λ at. at - 1) t.begins
        → bags ≡ remove t.bags at
        → AreOf (record { begins = new; bags = bags }) (changed owners i (λ bags. remove bags k))
    bag_cut f h =
        let b = s.gap.begin in
        let within = slice_get-within s.gap.owner k s.bag s.found in
        let whole =
        h
        ∙
        ((λ j. remove (b.bags j) (place_is s.gap same e j))
        ∙ remove_in (all_bags b.front) s.gap.owner (all_bags b.back) (get_or t.begins i 0) k b.at
        within)
        in
        let size = length-remove s.gap.owner k within in
        bags_cut b (λ bags. remove bags k) whole 1 (omega arith) f
