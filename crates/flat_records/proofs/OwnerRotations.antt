-- Exchanges of owners, and of bags of one owner.
use Rattle.std.proofs.Common.{◌≡◌, ℕ, ◌<◌, ◌≤◌, ◌+◌, ◌-◌, ◌^◌, suc, List, [], ◌∷◌, ◌++◌, length, map, All, insert}
use Rattle.std.proofs.Common.{remove, slice_get, Some, refl, sym, subst, ◌∙◌, ap, take, drop, get_or, length-append}
use Rattle.std.proofs.Common.{zero-add, add-one, zero, arith}
use Rattle.std.specs.Option.{IsSomeAnd}
use Rattle.std.proofs.lemmas.List.Concat.{flat_map-append}
use Rattle.std.proofs.lemmas.List.Edits.{length-remove}
use Rattle.base_numbered_lists.specs.Moved.{moved, changed}
use Rattle.base_numbered_lists.proofs.Lists.{slice_get-found, moved-found, length-moved}
use Rattle.flat_records.specs.Runs.{starts, exchanged, changed_exchanged, AreAdjacentRanges}
use Rattle.flat_records.specs.Bags.{Bag}
use Rattle.base_numbered_lists.proofs.Changing.{found}
use Rattle.flat_records.proofs.Starts.{end, length-starts, starts-exchanged, All-begins, All-begins_back}
use Rattle.flat_records.proofs.FourRuns.{four_runs}
use Rattle.flat_records.proofs.Exchanges.{quarters, exchanged-parts}
use Rattle.flat_records.specs.Owned.{Flat, past_owner, all_bags, flat_of}
use Rattle.flat_records.proofs.Owners.{AreOf, begin, owners-end, bags_kept, begin_read}
use Rattle.flat_records.proofs.OwnerPlaces.{get_in, remove_in, insert_in}

-- ---- a move is an exchange of neighbouring ranges

last-found : {X : Type 0} (xs : List X) (n : ℕ) (x : X) → slice_get xs n ≡ Some x → drop n (take (suc n) xs) ≡ x ∷ []
last-found [] n x e = cc
last-found (y ∷ ys) zero x e = cc
last-found (y ∷ ys) (suc n) x e = last-found ys n x e

up : {X : Type 0} (xs : List X) (i j : ℕ) → i ≤ j → j < length xs → exchanged xs i (suc i) (suc j) ≡ moved xs i j
up [] i j h within = absurd (omega arith)
up (x ∷ xs) zero j h within = refl
up (x ∷ xs) (suc i) zero h within = absurd (omega arith)
up (x ∷ xs) (suc i) (suc j) h within =
    let (y, there) = slice_get-found xs i (omega arith) in
    ap (λ zs. x ∷ zs) (up xs i j (omega arith) (omega arith) ∙ moved-found xs i j y there)
    ∙ sym (moved-found (x ∷ xs) (suc i) (suc j) y there)

down : {X : Type 0} (xs : List X) (i j : ℕ) → j ≤ i → i < length xs → exchanged xs j i (suc i) ≡ moved xs i j
down [] i j h within = absurd (omega arith)
down (x ∷ xs) i zero h within =
    let (y, there) = slice_get-found (x ∷ xs) i within in
    ap (λ zs. zs ++ remove (x ∷ xs) i) (last-found (x ∷ xs) i y there) ∙ sym (moved-found (x ∷ xs) i zero y there)
down (x ∷ xs) zero (suc j) h within = absurd (omega arith)
down (x ∷ xs) (suc i) (suc j) h within =
    let (y, there) = slice_get-found xs i (omega arith) in
    ap (λ zs. x ∷ zs) (down xs i j (omega arith) (omega arith) ∙ moved-found xs i j y there)
    ∙ sym (moved-found (x ∷ xs) (suc i) (suc j) y there)

pub moved_up : {X : Type 0} (xs : List X) (i j : ℕ) → i ≤ j → j < length xs
    → exchanged xs i (i + 1) (j + 1) ≡ moved xs i j
moved_up xs i j h within = (λ k. exchanged xs i (add-one i k) (add-one j k)) ∙ up xs i j h within

pub moved_down : {X : Type 0} (xs : List X) (i j : ℕ) → j ≤ i → i < length xs → exchanged xs j i (i + 1) ≡ moved xs i j
moved_down xs i j h within = ap (exchanged xs j i) (add-one i) ∙ down xs i j h within

-- ---- exchanges of owners

all-parts : (ws xs ys zs : List (List Bag))
    → all_bags (ws ++ (xs ++ (ys ++ zs))) ≡ all_bags ws ++ (all_bags xs ++ (all_bags ys ++ all_bags zs))
all-parts ws xs ys zs =
    flat_map-append (λ (bags : List Bag). bags) ws (xs ++ (ys ++ zs))
    ∙ ap (λ ms. all_bags ws ++ ms)
    (flat_map-append (λ (bags : List Bag). bags) xs (ys ++ zs)
    ∙ ap (λ ms. all_bags xs ++ ms) (flat_map-append (λ (bags : List Bag). bags) ys zs))

all-exchanged : (ws xs ys zs : List (List Bag)) (i j k : ℕ)
    → i ≡ length (all_bags ws) → j ≡ i + length (all_bags xs) → k ≡ j + length (all_bags ys)
    → exchanged (all_bags (ws ++ (xs ++ (ys ++ zs)))) i j k ≡ all_bags (ws ++ (ys ++ (xs ++ zs)))
all-exchanged ws xs ys zs i j k e f g =
    ap (λ ms. exchanged ms i j k) (all-parts ws xs ys zs)
    ∙ (exchanged-parts (all_bags ws) (all_bags xs) (all_bags ys) (all_bags zs) i j k e (omega arith) (omega arith)
    ∙ sym (all-parts ws ys xs zs))

-- The owners a..b, whose bags begin at `start`, and the owners b..c, whose bags begin at `middle`.
pub record OwnerRotation (t : Flat) (owners : List (List Bag)) (a b c start middle stop : ℕ) : Type 0 where
  pub rise : (start ≤ middle) × (middle ≤ stop)
  pub windows : AreAdjacentRanges a b c (length t.begins)
  pub inside : stop ≤ length t.bags
  pub lower : All (λ at. middle - start ≤ at) (drop b (take c t.begins))
  pub raise : stop < 2 ^ 16 → All (λ at. at + (stop - middle) < 2 ^ 16) (drop a (take b t.begins))
  pub turned :
      record {
        begins = changed_exchanged a b c (λ at. at - (middle - start)) (λ at. at + (stop - middle)) t.begins;
        bags = exchanged t.bags start middle stop;
      } ≡ flat_of (exchanged owners a b c)

-- The four runs of owners.
record Facts (t : Flat) (ws xs ys zs : List (List Bag)) (a b c : ℕ) : Type 0 where
  pub same : t ≡ flat_of (ws ++ (xs ++ (ys ++ zs)))
  pub first : a ≡ length ws
  pub second : b ≡ length ws + length xs
  pub third : c ≡ length ws + (length xs + length ys)

turn_of : (t : Flat) (owners ws xs ys zs : List (List Bag)) (a b c : ℕ) → Facts t ws xs ys zs a b c
    → exchanged owners a b c ≡ ws ++ (ys ++ (xs ++ zs))
    → (start middle stop : ℕ) → start ≡ get_or t.begins a 0 → middle ≡ get_or t.begins b 0 → stop ≡ get_or t.begins c 0
    → OwnerRotation t owners a b c start middle stop
turn_of t owners ws xs ys zs a b c f whole start middle stop e1 e2 e3 =
    let r = four_runs past_owner 0 0 ws xs ys zs (ap (λ (t : Flat). t.begins) f.same) f.first f.second f.third in
    let i = r.runs in
    let w1 = end past_owner 0 ws in
    let w2 = end past_owner w1 xs in
    let n1 : start ≡ w1 = e1 ∙ r.first in
    let n2 : middle ≡ w2 = e2 ∙ r.second in
    let n3 : stop ≡ end past_owner w2 ys = e3 ∙ r.third in
    let g1 : start ≡ length (all_bags ws) = n1 ∙ (owners-end 0 ws ∙ zero-add (length (all_bags ws))) in
    let g2 : middle ≡ start + length (all_bags xs) =
    n2 ∙ (owners-end w1 xs ∙ ap (λ m. m + length (all_bags xs)) (sym n1)) in
    let g3 : stop ≡ middle + length (all_bags ys) =
    n3 ∙ (owners-end w2 ys ∙ ap (λ m. m + length (all_bags ys)) (sym n2)) in
    let down : middle - start ≡ length (all_bags xs) = omega arith in
    let up : stop - middle ≡ length (all_bags ys) = omega arith in
    let size : length t.begins ≡ suc (length (ws ++ (xs ++ (ys ++ zs)))) =
    ap (λ (t : Flat). length t.begins) f.same ∙ length-starts past_owner 0 (ws ++ (xs ++ (ys ++ zs))) in
    let sizes : length (ws ++ (xs ++ (ys ++ zs))) ≡ length ws + (length xs + (length ys + length zs)) =
    simp length-append refl in
    let bags_size : length t.bags
    ≡ length (all_bags ws) + (length (all_bags xs) + (length (all_bags ys) + length (all_bags zs))) =
    ap (λ (t : Flat). length t.bags) f.same ∙ (ap length (all-parts ws xs ys zs) ∙ simp length-append refl) in
    let f1 = f.first in
    let f2 = f.second in
    let f3 = f.third in
    let low : length (all_bags xs) ≤ w2 = omega arith in
    let index : changed_exchanged a b c (λ at. at - (middle - start)) (λ at. at + (stop - middle)) t.begins
    ≡ starts past_owner 0 (ws ++ (ys ++ (xs ++ zs))) =
    (λ k. i.first k ++ (map (λ at. at - down k) (i.third k) ++ (map (λ at. at + up k) (i.second k) ++ i.last k)))
    ∙ starts-exchanged past_owner (λ at. at + length (all_bags xs)) (λ at. at - length (all_bags xs))
    (λ at. at + length (all_bags ys)) (λ m x. omega arith) (λ m x. omega arith) (λ m. omega arith) (λ m. omega arith)
    0 ws xs ys zs (owners-end w1 xs) (owners-end w1 ys) in
    let bags : exchanged t.bags start middle stop ≡ all_bags (ws ++ (ys ++ (xs ++ zs))) =
    ap (λ (t : Flat). exchanged t.bags start middle stop) f.same
    ∙ all-exchanged ws xs ys zs start middle stop g1 g2 g3 in
    record {
      rise = (omega arith, omega arith);
      windows = record { first = omega arith; second = omega arith; within = omega arith };
      inside = omega arith;
      lower =
          subst (λ (p : ℕ × List ℕ). All (λ at. p.0 ≤ at) p.1) (sym (λ k. (down k, i.third k)))
          (All-begins past_owner (λ at. length (all_bags xs) ≤ at) (λ a b p. omega arith) w2 ys low);
      raise =
          (λ within.
          subst (λ (p : ℕ × List ℕ). All (λ at. at + p.0 < 2 ^ 16) p.1) (sym (λ k. (up k, i.second k)))
          (All-begins_back past_owner (λ at. at + length (all_bags ys) < 2 ^ 16) (λ a b p. omega arith) w1 xs
          (omega arith)));
      turned = (λ k. record { begins = index k; bags = bags k }) ∙ ap flat_of (sym whole);
    }

pub turn : {t : Flat} {owners : List (List Bag)} {a b c : ℕ} → AreOf t owners → a ≤ b → b ≤ c → c ≤ length owners
    → {start middle stop : ℕ} → start ≡ get_or t.begins a start → middle ≡ get_or t.begins b middle
    → stop ≡ get_or t.begins c stop
    → OwnerRotation t owners a b c start middle stop
turn {t} {owners} {a} {b} {c} are h1 h2 h3 {start} {middle} {stop} e1 e2 e3 =
    let q = quarters owners a b c h1 h2 h3 in
    let ws = take a owners in
    let xs = drop a (take b owners) in
    let ys = drop b (take c owners) in
    let zs = drop c owners in
    turn_of t owners ws xs ys zs a b c
    (record { same = are.same ∙ ap flat_of q.whole; first = q.first; second = q.second; third = q.third }) refl
    start middle stop
    (begin_read are a (omega arith) e1) (begin_read are b (omega arith) e2) (begin_read are c h3 e3)

pub owners_turned : {t : Flat} {owners : List (List Bag)} {a b c start middle stop : ℕ}
    → OwnerRotation t owners a b c start middle stop
    → {new : List ℕ} {bags : List Bag}
    → new ≡ changed_exchanged a b c (λ at. at - (middle - start)) (λ at. at + (stop - middle)) t.begins
    → bags ≡ exchanged t.bags start middle stop
    → AreOf (record { begins = new; bags = bags }) (exchanged owners a b c)
owners_turned r e f = record { same = (λ k. record { begins = e k; bags = f k }) ∙ r.turned }

-- ---- a move of a bag of one owner

pub bag_moved : {t : Flat} {owners : List (List Bag)} → AreOf t owners → (i from to : ℕ)
    → IsSomeAnd (slice_get owners i) (λ (bags : List Bag). from < length bags)
    → IsSomeAnd (slice_get owners i) (λ (bags : List Bag). to < length bags)
    → {begins others : List ℕ} → begins ≡ t.begins → others ≡ t.begins → {first second : ℕ}
    → first ≡ get_or begins i 0 + from → second ≡ get_or others i 0 + to
    → {new : List Bag} → new ≡ moved t.bags first second
    → AreOf (record { begins = t.begins; bags = new }) (changed owners i (λ bags. moved bags from to))
bag_moved {t} {owners} a i from to h1 h2 same same2 f g {new} is =
    let (xs, there, within) = found (λ (bags : List Bag). from < length bags) (slice_get owners i) h1 in
    let also : to < length xs = subst (λ o. IsSomeAnd o (λ (bags : List Bag). to < length bags)) there h2 in
    let b = begin a i there in
    let at = get_or t.begins i 0 in
    let ws = all_bags b.front in
    let bs = all_bags b.back in
    let (x, found) = slice_get-found xs from within in
    let size = length-remove xs from within in
    let whole : new ≡ ws ++ (moved xs from to ++ bs) =
    is
    ∙ ((λ k. moved (b.bags k) ((f ∙ ap (λ begins. get_or begins i 0 + from) same) k)
    ((g ∙ ap (λ begins. get_or begins i 0 + to) same2) k))
    ∙ (moved-found (ws ++ (xs ++ bs)) (at + from) (at + to) x (get_in ws xs bs at from b.at x found)
    ∙ (ap (λ zs. insert zs (at + to) x) (remove_in ws xs bs at from b.at within)
    ∙ (insert_in ws (remove xs from) bs at to b.at x (omega arith)
    ∙ ap (λ zs. ws ++ (zs ++ bs)) (sym (moved-found xs from to x found)))))) in
    bags_kept b (λ bags. moved bags from to) whole (length-moved xs from to within also)
