-- The least and the greatest of numbers, one by one and run by run, and what they are.
use Rattle.std.proofs.Common.{◌≡◌, ◌<◌, ◌≤◌, ◌+◌, ◌-◌, ◌*◌, ◌/◌, ℕ, List, [], ◌∷◌, ◌++◌, length, take, drop}
use Rattle.std.proofs.Common.{get_or, refl, ap, ◌∙◌, sym, subst, arith, inl, inr, ◌⊎◌, cond}
use Rattle.std.specs.Prelude.{ℤ, pos, negsuc, ◌≤ℤ◌, int_lt, All, Bool, true, false, slice_range}
use Rattle.std.specs.Int.{w16, cast_signed, int_min, int_max}
use Rattle.std.specs.List.{fold, Contains}
use Rattle.std.proofs.lemmas.Int.{ints, clamps}
use Rattle.std.proofs.lemmas.List.{take_more, map-append, map_push, drop-drop}
use Rattle.std.proofs.lemmas.List.Elements.{All-nil, All-cons, Contains-append_right, Contains-append_left}
use Rattle.std.proofs.lemmas.List.Sums.{fold_push, fold-append}
use Rattle.std.proofs.Math.Seq.{take-add}
use Rattle.sample_view.specs.Words.{words}
use Rattle.sample_view.proofs.WordLaws.{length-words, get_or-words}
use Rattle.show_sample.specs.declared.extremes.Extremes.{Extremes}
use Rattle.show_sample.specs.Extremes.{signed, widened_by, extremes_of, AreExtremes}
use Rattle.show_sample.proofs.PointRuns.{front_of_run}

-- ---- one by one and run by run

-- one point more
pub one_more : (f : ℤ → ℤ → ℤ) (start value point next : ℤ) (bytes : List ℕ) (i : ℕ) → i < length bytes / 2
    → value ≡ fold f start (signed (take i (words bytes)))
    → point ≡ cast_signed w16 (get_or bytes (2 * i) 0 + get_or bytes (2 * i + 1) 0 * 256) → next ≡ f value point
    → next ≡ fold f start (signed (take (i + 1) (words bytes)))
one_more f start value point next bytes i inside e p n =
    let ws = words bytes in
    let number = get_or-words (2 * i) i bytes refl (omega (arith, inside)) in
    let w : get_or bytes (2 * i) 0 + get_or bytes (2 * i + 1) 0 * 256 ≡ get_or ws i 0 = omega (arith, number) in
    let more : signed (take (i + 1) ws) ≡ signed (take i ws) ++ cast_signed w16 (get_or ws i 0) ∷ [] =
    ap signed (take_more ws i 0 (omega (arith, inside, length-words bytes)))
    ∙ map_push (cast_signed w16) (take i ws) (get_or ws i 0) in
    n ∙ ap (λ (z : ℤ). f z point) e
    ∙ ap (f (fold f start (signed (take i ws)))) (p ∙ ap (cast_signed w16) w)
    ∙ sym (ap (fold f start) more ∙ fold_push f start (signed (take i ws)) (cast_signed w16 (get_or ws i 0)))

-- the points of two lists, one after the other
pub widened-append : (e : Extremes) (xs ys : List ℕ) → widened_by e (xs ++ ys) ≡ widened_by (widened_by e xs) ys
widened-append e xs ys =
    let both = map-append (cast_signed w16) xs ys in
    let low = ap (fold int_min e.low) both ∙ fold-append int_min e.low (signed xs) (signed ys) in
    let high = ap (fold int_max e.high) both ∙ fold-append int_max e.high (signed xs) (signed ys) in
    λ k. record { low = low k; high = high k }

-- the points from `start` up to the index, then the first points of a run from there on
pub run_more : (e : Extremes) (points run : List ℕ) (start index count : ℕ) → start ≤ index
    → words run ≡ take (length run / 2) (drop index points) → count ≤ length run / 2
    → widened_by (widened_by e (slice_range points start index)) (words (take (2 * count) run))
    ≡ widened_by e (slice_range points start (index + count))
run_more e points run start index count order same inside =
    let rest = drop start points in
    let at : start + (index - start) ≡ index = omega (arith, order) in
    let n : index + count - start ≡ index - start + count = omega (arith, order) in
    let here : drop (index - start) rest ≡ drop index points =
    drop-drop (index - start) start points ∙ ap (λ (k : ℕ). drop k points) at in
    let front = front_of_run points run index count same inside in
    sym (ap (λ (k : ℕ). widened_by e (take k rest)) n
    ∙ ap (widened_by e) (take-add (index - start) count rest)
    ∙ widened-append e (take (index - start) rest) (take count (drop (index - start) rest))
    ∙ ap (widened_by (widened_by e (take (index - start) rest)))
    (ap (take count) here ∙ sym front))

-- ---- what they are

-- a number is a bound of the start and of the numbers, and one of them
pub record Bounds (Below : ℤ → ℤ → Type 0) (start bound : ℤ) (zs : List ℤ) : Type 0 where
  pub first : Below bound start
  pub others : All (λ z. Below bound z) zs
  pub found : (bound ≡ start) ⊎ Contains zs bound

-- of two numbers and those after them
bounds_more : (Below : ℤ → ℤ → Type 0) (f : ℤ → ℤ → ℤ) (start bound z : ℤ) (zs : List ℤ)
    → ((b x y : ℤ) → Below b (f x y) → Below b x × Below b y) → (f start z ≡ start) ⊎ (f start z ≡ z)
    → Bounds Below (f start z) bound zs → Bounds Below start bound (z ∷ zs)
bounds_more Below f start bound z zs split pick b =
    let both = split bound start z b.first in
    record {
      first = both.0;
      others = All-cons (λ (x : ℤ). Below bound x) z zs both.1 b.others;
      found = elim b.found [
        | inl e ↦ elim pick [
          | inl s ↦ inl (e ∙ s)
          | inr t ↦ inr (subst (Contains (z ∷ zs)) (sym (e ∙ t)) (Contains-append_left (z ∷ []) zs z (0, omega arith, refl)))
        ]
        | inr c ↦ inr (Contains-append_right (z ∷ []) zs bound c)
      ];
    }

min_split : (b x y : ℤ) → b ≤ℤ int_min x y → (b ≤ℤ x) × (b ≤ℤ y)
min_split b x y h = (omega (arith, ints, clamps, h), omega (arith, ints, clamps, h))

max_split : (b x y : ℤ) → int_max x y ≤ℤ b → (x ≤ℤ b) × (y ≤ℤ b)
max_split b x y h = (omega (arith, ints, clamps, h), omega (arith, ints, clamps, h))

choose : (t : Bool) (x y : ℤ) → (cond t x y ≡ x) ⊎ (cond t x y ≡ y)
choose true x y = inl refl
choose false x y = inr refl

other : {A B : Type 0} → A ⊎ B → B ⊎ A
other (inl a) = inr a
other (inr b) = inl b

pub least : (start : ℤ) (zs : List ℤ) → Bounds (λ b z. b ≤ℤ z) start (fold int_min start zs) zs
least start [] = record { first = omega (arith, ints); others = All-nil _; found = inl refl }
least start (z ∷ zs) =
    bounds_more (λ b y. b ≤ℤ y) int_min start _ z zs min_split (other (choose (int_lt z start) z start))
    (least (int_min start z) zs)

pub greatest : (start : ℤ) (zs : List ℤ) → Bounds (λ b z. z ≤ℤ b) start (fold int_max start zs) zs
greatest start [] = record { first = omega (arith, ints); others = All-nil _; found = inl refl }
greatest start (z ∷ zs) =
    bounds_more (λ b y. y ≤ℤ b) int_max start _ z zs max_split (choose (int_lt z start) start z)
    (greatest (int_max start z) zs)

-- a number is one of those after the start if it is the start and bounds a first number that the start bounds
in_others : (bound start z : ℤ) (zs : List ℤ) → (bound ≡ start) ⊎ Contains (z ∷ zs) bound → (bound ≡ start → z ≡ bound)
    → Contains (z ∷ zs) bound
in_others bound start z zs found h = elim found [
  | inl e ↦ (0, omega arith, h e)
  | inr c ↦ c
]

-- a 16-bit number is in its range
pub in_range : (n : ℕ) → (negsuc 32767 ≤ℤ cast_signed w16 n) × (cast_signed w16 n ≤ℤ pos 32767)
in_range n = (omega (arith, ints), omega (arith, ints))

pub are_extremes : (points : List ℕ) → 0 < length points → AreExtremes points (extremes_of points)
are_extremes [] some = absurd (omega (arith, some))
are_extremes (p ∷ ps) some =
    let z = cast_signed w16 p in
    let zs = signed ps in
    let low = least (pos 32767) (z ∷ zs) in
    let high = greatest (negsuc 32767) (z ∷ zs) in
    let above = low.others 0 z (omega arith) in
    let below = high.others 0 z (omega arith) in
    let range = in_range p in
    record {
      low = in_others _ _ z zs low.found (λ e. omega (arith, ints, e, above, range));
      high = in_others _ _ z zs high.found (λ e. omega (arith, ints, e, below, range));
      above = low.others;
      below = high.others;
    }
