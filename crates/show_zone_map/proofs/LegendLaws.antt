-- The samples of a legend, list by list, and in a loop over zones.
use Rattle.std.proofs.Common.{◌≡◌, ◌≤◌, ◌<◌, inl, inr, ℕ, suc, ◌+◌, ◌-◌, not, ◌&&◌, ◌||◌, Bool, true, false, cond, List, [], ◌∷◌}
use Rattle.std.proofs.Common.{◌++◌, length, map, take, refl, sym, ap, ◌∙◌, append_assoc, arith}
use Rattle.std.specs.Prelude.{◌==◌}
use Rattle.std.specs.List.{flat_map, filter, list_any}
use Rattle.std.proofs.lemmas.Bool.{cases_lt, eqb-true}
use Rattle.std.proofs.lemmas.List.{append-nil, length-append, length-take, map-append, take_all, take_at}
use Rattle.std.proofs.lemmas.List.Elements.{filter-append}
use Rattle.std.proofs.lemmas.List.Folds.{list_any-append}
use Rattle.show_zone_map.specs.declared.rectangle.Rectangle.{Rectangle}
use Rattle.show_zone_map.specs.Picture.{is_small, distinct, small_samples, legend_samples, is_new, with_samples}
use Rattle.show_zone_map.proofs.Rows.{from}

-- ---- filters

filter_twice : {X : Type 0} (p q r : X → Bool) → ((x : X) → r x ≡ (q x && p x)) → (xs : List X)
    → filter p (filter q xs) ≡ filter r xs
filter_twice p q r same [] = refl
filter_twice p q r same (x ∷ xs) = by_cases (q x) (p x) refl refl (filter_twice p q r same xs)
  where
    by_cases : (a b : Bool) → q x ≡ a → p x ≡ b → filter p (filter q xs) ≡ filter r xs
        → filter p (filter q (x ∷ xs)) ≡ filter r (x ∷ xs)
    by_cases true true d e rest = rw (same x, d, e) (ap (λ ys. x ∷ ys) rest)
    by_cases true false d e rest = rw (same x, d, e) rest
    by_cases false b d e rest = rw (same x, d) rest

all_new : (xs : List ℕ) → filter (is_new []) xs ≡ xs
all_new [] = refl
all_new (x ∷ xs) = ap (λ ys. x ∷ ys) (all_new xs)

-- ---- one sample

-- s among samples, and one more
pub known_and_one : (ss : List ℕ) (x s : ℕ) → list_any (λ t. s == t) (ss ++ x ∷ []) ≡ (s == x || list_any (λ t. s == t) ss)
known_and_one ss x s =
    list_any-append (λ t. s == t) ss (x ∷ []) ∙ by_cases (list_any (λ t. s == t) ss) (s == x)
  where
    by_cases : (a b : Bool) → (a || (b || false)) ≡ (b || a)
    by_cases true true = refl
    by_cases true false = refl
    by_cases false true = refl
    by_cases false false = refl

module _ (ss : List ℕ) (s : ℕ) where
  -- beside s, which ss has, the same samples are new
  known_stays : list_any (λ t. s == t) ss ≡ true → (x : ℕ) → is_new ss x ≡ (not (x == s) && is_new ss x)
  known_stays known x = by_cases (x == s) refl
    where
      by_cases : (b : Bool) → (x == s) ≡ b → is_new ss x ≡ (not b && is_new ss x)
      by_cases true e = ap (is_new ss) (eqb-true x s e) ∙ ap not known
      by_cases false e = refl

  new_stays : (x : ℕ) → is_new (ss ++ s ∷ []) x ≡ (not (x == s) && is_new ss x)
  new_stays x =
      ap not (known_and_one ss s x) ∙ by_cases (x == s) (list_any (λ t. x == t) ss)
    where
      by_cases : (a b : Bool) → not (a || b) ≡ (not a && not b)
      by_cases true b = refl
      by_cases false b = refl

  -- a legend that is full, names the sample, or gets it
  pub full_stays : (more : List ℕ) → length ss ≡ 1024 → with_samples ss more ≡ ss
  full_stays more full = take_at ss (filter (is_new ss) (distinct more)) 1024 full

  -- the new ones of s and others
  abbrev first : List ℕ → List ℕ
  first ds = ss ++ filter (is_new ss) (s ∷ filter (λ t. not (t == s)) ds)

  first_known : (ds : List ℕ) → list_any (λ t. s == t) ss ≡ true → first ds ≡ ss ++ filter (is_new ss) ds
  first_known ds known =
      let none : is_new ss s ≡ false = ap not known in
      rw none (ap (λ xs. ss ++ xs) (filter_twice (is_new ss) (λ t. not (t == s)) (is_new ss) (known_stays known) ds))

  first_new : (ds : List ℕ) → list_any (λ t. s == t) ss ≡ false
      → first ds ≡ (ss ++ s ∷ []) ++ filter (is_new (ss ++ s ∷ [])) ds
  first_new ds new =
      let one : is_new ss s ≡ true = ap not new in
      rw one
      (ap (λ xs. ss ++ s ∷ xs) (filter_twice (is_new ss) (λ t. not (t == s)) (is_new (ss ++ s ∷ [])) new_stays ds)
      ∙ sym (append_assoc ss (s ∷ []) (filter (is_new (ss ++ s ∷ [])) ds)))

  pub known_is_no_more : list_any (λ t. s == t) ss ≡ true → length ss ≤ 1024 → with_samples ss (s ∷ []) ≡ ss
  unfolding distinct
  known_is_no_more known within =
      ap (take 1024) (first_known [] known ∙ append-nil ss) ∙ take_all 1024 ss within

  pub new_is_last : list_any (λ t. s == t) ss ≡ false → length ss < 1024 → with_samples ss (s ∷ []) ≡ ss ++ s ∷ []
  unfolding distinct
  new_is_last new room =
      let long = length-append ss (s ∷ []) in
      let within : length (ss ++ s ∷ []) ≤ 1024 = omega (arith, long, room) in
      ap (take 1024) (first_new [] new ∙ append-nil (ss ++ s ∷ [])) ∙ take_all 1024 (ss ++ s ∷ []) within

-- ---- samples one after another

pub with_none : (ss : List ℕ) → length ss ≤ 1024 → with_samples ss [] ≡ ss
unfolding distinct
with_none ss within = ap (take 1024) (append-nil ss) ∙ take_all 1024 ss within

pub with_within : (ss more : List ℕ) → length (with_samples ss more) ≤ 1024
with_within ss more =
    let long = length-take 1024 (ss ++ filter (is_new ss) (distinct more)) in
    omega (arith, long)

with_first : (ss : List ℕ) (s : ℕ) (more : List ℕ) → length ss ≤ 1024
    → with_samples ss (s ∷ more) ≡ with_samples (with_samples ss (s ∷ [])) more
unfolding distinct
with_first ss s more within = by_cases (list_any (λ t. s == t) ss) refl
  where
    by_cases : (known : Bool) → list_any (λ t. s == t) ss ≡ known
        → with_samples ss (s ∷ more) ≡ with_samples (with_samples ss (s ∷ [])) more
    by_cases true known =
        ap (take 1024) (first_known ss s (distinct more) known)
        ∙ ap (λ xs. with_samples xs more) (sym (known_is_no_more ss s known within))
    by_cases false new = elim (cases_lt (length ss) 1024) [
      | inl room ↦
          ap (take 1024) (first_new ss s (distinct more) new)
          ∙ ap (λ xs. with_samples xs more) (sym (new_is_last ss s new room))
      | inr ge ↦
          let full : length ss ≡ 1024 = omega (arith, ge, within) in
          full_stays ss s (s ∷ more) full ∙ sym (full_stays ss s more full)
          ∙ ap (λ xs. with_samples xs more) (sym (full_stays ss s (s ∷ []) full))
    ]

with-append : (ss xs ys : List ℕ) → length ss ≤ 1024
    → with_samples ss (xs ++ ys) ≡ with_samples (with_samples ss xs) ys
with-append ss [] ys within = ap (λ zs. with_samples zs ys) (sym (with_none ss within))
with-append ss (x ∷ xs) ys within =
    with_first ss x (xs ++ ys) within
    ∙ with-append (with_samples ss (x ∷ [])) xs ys (with_within ss (x ∷ []))
    ∙ ap (λ zs. with_samples zs ys) (sym (with_first ss x xs within))

-- the legend of all
pub from_none : (rs : List Rectangle) → with_samples [] (small_samples rs) ≡ legend_samples rs
from_none rs = ap (take 1024) (all_new (distinct (small_samples rs)))

-- ---- rectangles one after another, and in a loop over zones, of which each has the rectangles of a list

small-append : (xs ys : List Rectangle) → small_samples (xs ++ ys) ≡ small_samples xs ++ small_samples ys
small-append xs ys =
    ap (map (λ (r : Rectangle). r.sample)) (filter-append is_small xs ys)
    ∙ map-append (λ (r : Rectangle). r.sample) (filter is_small xs) (filter is_small ys)

-- a rectangle with or without space for a name
one_small : (r : Rectangle) (b : Bool) → is_small r ≡ b → small_samples (r ∷ []) ≡ cond b (r.sample ∷ []) []
one_small r true e = rw e refl
one_small r false e = rw e refl

pub legend_same : (ss : List ℕ) (r : Rectangle) → is_small r ≡ false → length ss ≤ 1024
    → ss ≡ with_samples ss (small_samples (r ∷ []))
legend_same ss r e within = sym (ap (with_samples ss) (one_small r false e) ∙ with_none ss within)

pub legend_with : (ss : List ℕ) (r : Rectangle) → is_small r ≡ true
    → with_samples ss (r.sample ∷ []) ≡ with_samples ss (small_samples (r ∷ []))
legend_with ss r e = ap (with_samples ss) (sym (one_small r true e))

module _ (g : ℕ → List Rectangle) (k n : ℕ) where
  zones_on : k < n → flat_map g (from k n) ≡ g k ++ flat_map g (from (k + 1) n)
  zones_on h = let e : n - k ≡ suc (n - (k + 1)) = omega (arith, h) in rw e refl

  zones_past : n ≤ k → flat_map g (from k n) ≡ []
  zones_past h = let e : n - k ≡ 0 = omega (arith, h) in rw e refl

  -- after the rectangles of zone k
  pub legend_next : (ss next : List ℕ) → length ss ≤ 1024 → k < n → next ≡ with_samples ss (small_samples (g k))
      → with_samples next (small_samples (flat_map g (from (k + 1) n)))
      ≡ with_samples ss (small_samples (flat_map g (from k n)))
  legend_next ss next within lt e =
      let rest = flat_map g (from (k + 1) n) in
      ap (λ zs. with_samples zs (small_samples rest)) e
      ∙ sym (with-append ss (small_samples (g k)) (small_samples rest) within)
      ∙ ap (with_samples ss) (sym (small-append (g k) rest))
      ∙ ap (λ rs. with_samples ss (small_samples rs)) (sym (zones_on lt))

  -- after the last zone
  pub legend_end : (ss : List ℕ) → length ss ≤ 1024 → n ≤ k
      → with_samples ss (small_samples (flat_map g (from k n))) ≡ ss
  legend_end ss within le = ap (λ rs. with_samples ss (small_samples rs)) (zones_past le) ∙ with_none ss within
