-- Notes sorted by start.
use Rattle.std.proofs.Common.{◌≡◌, ℕ, ◌<◌, ◌≤◌, suc, Bool, true, false, cond, not, ◌&&◌, nat_eq, nat_le, List, []}
use Rattle.std.proofs.Common.{◌∷◌, filter, length, get_or, refl, sym, ap, ◌∙◌, arith, inl, inr}
use Rattle.std.proofs.lemmas.Bool.{cases_lt}
use Rattle.std.specs.List.Sorted.{IsStableByKey, IsNonDecreasingBy}
use Rattle.std.specs.Ordering.{is_lt, nat_cmp}
use Rattle.std.proofs.lemmas.Bool.Decides.{nat_tests}
use Rattle.script_notes.specs.Notes.{Numbers}
use Rattle.mixer.specs.Order.{placed, in_order, IsRising}

-- the notes that start at frame k

abbrev starting : ℕ → List Numbers → List Numbers
starting k ns = filter (λ n. nat_eq k n.start) ns

both_at : (k a b : ℕ) → nat_le a b ≡ false → nat_eq k b ≡ true → nat_eq k a ≡ true → ⊥
both_at k a b e f g = grind (arith, nat_tests)

apart : (k : ℕ) (n m : Numbers) (l : List Numbers) → nat_le n.start m.start ≡ false
    → cond (nat_eq k m.start) (m ∷ cond (nat_eq k n.start) (n ∷ l) l) (cond (nat_eq k n.start) (n ∷ l) l)
    ≡ cond (nat_eq k n.start) (n ∷ cond (nat_eq k m.start) (m ∷ l) l) (cond (nat_eq k m.start) (m ∷ l) l)
apart k n m l e =
    let P : Bool → Bool → Type 0 = λ a c. nat_eq k m.start ≡ a → nat_eq k n.start ≡ c
    → cond a (m ∷ cond c (n ∷ l) l) (cond c (n ∷ l) l) ≡ cond c (n ∷ cond a (m ∷ l) l) (cond a (m ∷ l) l) in
    let first : (c : Bool) → P true c =
    elim [ true ↦ λ f g. absurd (both_at k n.start m.start e f g) | false ↦ λ f g. refl ] in
    let second : (c : Bool) → P false c = elim [ true ↦ λ f g. refl | false ↦ λ f g. refl ] in
    let all : (a c : Bool) → P a c = elim [ true ↦ first | false ↦ second ] in
    all (nat_eq k m.start) (nat_eq k n.start) refl refl

-- a note keeps its index among those that start with it
starting-placed : (k : ℕ) (n : Numbers) (ms : List Numbers) → starting k (placed n ms) ≡ starting k (n ∷ ms)
unfolding placed
starting-placed k n [] = refl
starting-placed k n (m ∷ ms) =
    let P : Bool → Type 0 =
    λ b.
    nat_le n.start m.start ≡ b
    → starting k (cond b (n ∷ m ∷ ms) (m ∷ placed n ms)) ≡ starting k (n ∷ m ∷ ms) in
    let at : (b : Bool) → P b = elim [
      | true ↦ λ _. refl
      | false ↦ λ e.
          ap (λ l. cond (nat_eq k m.start) (m ∷ l) l) (starting-placed k n ms) ∙ apart k n m (starting k ms) e
    ] in
    at (nat_le n.start m.start) refl

starting-in_order : (k : ℕ) (ns : List Numbers) → starting k (in_order ns) ≡ starting k ns
unfolding in_order
starting-in_order k [] = refl
starting-in_order k (n ∷ ns) =
    starting-placed k n (in_order ns) ∙ ap (λ l. cond (nat_eq k n.start) (n ∷ l) l) (starting-in_order k ns)

rising-placed : (t : ℕ) (n : Numbers) (ms : List Numbers) → t ≤ n.start → IsRising t ms → IsRising t (placed n ms)
unfolding placed
rising-placed t n [] h r = (h, tt)
rising-placed t n (m ∷ ms) h r =
    let P : Bool → Type 0 = λ b. nat_le n.start m.start ≡ b → IsRising t (cond b (n ∷ m ∷ ms) (m ∷ placed n ms)) in
    let at : (b : Bool) → P b = elim [
      | true ↦ λ e. (h, ((let g : n.start ≤ m.start = grind (arith, nat_tests) in g), r.1))
      | false ↦ λ e. (r.0, rising-placed m.start n ms (let g : m.start ≤ n.start = grind (arith, nat_tests) in g) r.1)
    ] in
    at (nat_le n.start m.start) refl

pub rising-in_order : (ns : List Numbers) → IsRising 0 (in_order ns)
unfolding in_order
rising-in_order [] = tt
rising-in_order (n ∷ ns) = rising-placed 0 n (in_order ns) (omega arith) (rising-in_order ns)

differs : (k a : ℕ) → k < a → nat_eq k a ≡ false
differs k a h = grind (arith, nat_tests)

le_refl : (a : ℕ) → a ≤ a
le_refl a = omega arith

same : (a : ℕ) → nat_eq a a ≡ true
same a = grind (arith, nat_tests)

data Order (a b : ℕ) : Type 0 where
  below : a < b → Order a b
  above : b < a → Order a b
  equal : a ≡ b → Order a b

order : (a b : ℕ) → Order a b
order a b =
    elim (cases_lt a b)
    [ inl l ↦ below l | inr g ↦ elim (cases_lt b a) [ inl l ↦ above l | inr k ↦ equal (omega arith) ] ]

nil_cons : (n : Numbers) (l : List Numbers) → [] ≡ n ∷ l → ⊥
nil_cons n l e = cc

first_is : (m n : Numbers) (k l : List Numbers) → m ∷ k ≡ n ∷ l → m ≡ n
first_is m n k l e = cc

at_own : (n : Numbers) (ns : List Numbers) → starting n.start (n ∷ ns) ≡ n ∷ starting n.start ns
at_own n ns = ap (λ b. cond b (n ∷ starting n.start ns) (starting n.start ns)) (same n.start)

rest_is : (m n : Numbers) (k l : List Numbers) → m ∷ k ≡ n ∷ l → k ≡ l
rest_is m n k l e = cc

tails_equal : (k : ℕ) (m n : Numbers) (xs ys : List Numbers) → m ≡ n
    → cond (nat_eq k m.start) (m ∷ xs) xs ≡ cond (nat_eq k n.start) (n ∷ ys) ys → xs ≡ ys
tails_equal k m n xs ys e h =
    let P : Bool → Type 0 = λ b. cond b (m ∷ xs) xs ≡ cond b (n ∷ ys) ys → xs ≡ ys in
    let at : (b : Bool) → P b = elim [ true ↦ λ g. rest_is m n xs ys g | false ↦ λ g. g ] in
    at (nat_eq k m.start) (h ∙ ap (λ (x : Numbers). cond (nat_eq k x.start) (n ∷ ys) ys) (sym e))

-- a start that is not among those of sorted notes
starting-none : (k t : ℕ) (ns : List Numbers) → k < t → IsRising t ns → starting k ns ≡ []
starting-none k t [] h r = refl
starting-none k t (n ∷ ns) h r =
    ap (λ b. cond b (n ∷ starting k ns) (starting k ns))
    (let e : nat_eq k n.start ≡ false = differs k n.start (omega (arith, h, r.0)) in e)
    ∙ starting-none k n.start ns (omega (arith, h, r.0)) r.1

-- sorted notes are determined by the lists of equal starts
same_order : (t u : ℕ) (ms ns : List Numbers) → IsRising t ms → IsRising u ns
    → ((k : ℕ) → starting k ms ≡ starting k ns) → ms ≡ ns
same_order t u [] [] r s h = refl
same_order t u [] (n ∷ ns) r s h = absurd (nil_cons n (starting n.start ns) (h n.start ∙ at_own n ns))
same_order t u (m ∷ ms) [] r s h = absurd (nil_cons m (starting m.start ms) (sym (h m.start) ∙ at_own m ms))
same_order t u (m ∷ ms) (n ∷ ns) r s h =
    let tails : m ≡ n → m ∷ ms ≡ n ∷ ns =
    λ e.
    λ j.
    e j
    ∷ same_order m.start n.start ms ns r.1 s.1
    (λ k. tails_equal k m n (starting k ms) (starting k ns) e (h k)) j in
    elim (order m.start n.start) [
      | below l ↦ absurd
          (nil_cons m (starting m.start ms)
          (sym (h m.start ∙ starting-none m.start n.start (n ∷ ns) l (le_refl n.start, s.1)) ∙ at_own m ms))
      | above l ↦ absurd
          (nil_cons n (starting n.start ns)
          (sym (sym (h n.start) ∙ starting-none n.start m.start (m ∷ ms) l (le_refl m.start, r.1)) ∙ at_own n ns))
      | equal e ↦ tails
          (first_is m n (starting m.start ms) (starting n.start ns)
          (sym (at_own m ms) ∙ h m.start ∙ ap (λ k. starting k (n ∷ ns)) e ∙ at_own n ns))
    ]

rising_from : (t : ℕ) (ns : List Numbers) → ((d : Numbers) → 0 < length ns → t ≤ (get_or ns 0 d).start)
    → IsNonDecreasingBy (λ n. n.start) ns → IsRising t ns
rising_from t [] h up = tt
rising_from t (n ∷ ns) h up = (
  h n (omega arith),
  rising_from n.start ns (λ d l. up 0 1 d (omega arith) (omega arith))
      (λ i j d le l. up (suc i) (suc j) d (omega arith) (omega arith)),
)

ties_are : (a b : ℕ) → not (is_lt (nat_cmp a b)) && not (is_lt (nat_cmp b a)) ≡ nat_eq a b
ties_are a b = grind (arith, nat_tests)

-- the result of a stable sort
pub sorted_is : (ns ms : List Numbers) → IsNonDecreasingBy (λ n. n.start) ms
    → IsStableByKey (λ (n : Numbers). n.start) nat_cmp ns ms → ms ≡ in_order ns
sorted_is ns ms up stable =
    same_order 0 0 ms (in_order ns) (rising_from 0 ms (λ d l. omega arith) up) (rising-in_order ns)
    (λ k. let tie : (n : Numbers) → not (is_lt (nat_cmp k n.start)) && not (is_lt (nat_cmp n.start k))
    ≡ nat_eq k n.start = λ n. ties_are k n.start in
    let e : filter (λ (n : Numbers). not (is_lt (nat_cmp k n.start)) && not (is_lt (nat_cmp n.start k))) ms
    ≡ filter (λ (n : Numbers). not (is_lt (nat_cmp k n.start)) && not (is_lt (nat_cmp n.start k))) ns =
    stable (record { start = k; length = 0; bank = 0; number = 0; key = 0; velocity = 0 }) in
    sym (λ j. filter (λ n. tie n j) ms) ∙ e ∙ (λ j. filter (λ n. tie n j) ns) ∙ sym (starting-in_order k ns))
