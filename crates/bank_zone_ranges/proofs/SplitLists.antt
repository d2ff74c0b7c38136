-- One member of a list replaced by two, and two replaced by one.
use Rattle.std.proofs.Common.{◌≡◌, ◌<◌, ◌+◌, ℕ, zero, suc, List, [], ◌∷◌, length, Some, refl, ap, ◌∙◌, insert}
use Rattle.std.proofs.Common.{remove, arith, add-one}
use Rattle.std.specs.Prelude.{slice_get, slice_set}
use Rattle.std.specs.List.{AllByRecursion}
use Rattle.base_numbered_lists.specs.Moved.{changed}
use Rattle.base_numbered_lists.proofs.Lists.{insert-remove, remove-insert, slice_get-within, slice_get-insert}
use Rattle.base_numbered_lists.proofs.Lists.{slice_get-remove_below, slice_get-insert_below, slice_get-slice_set}
use Rattle.base_numbered_lists.proofs.Lists.{slice_set_same, length-slice_set, changed-found, slice_get-changed}
use Rattle.bank_zone_ranges.specs.Splits.{split_in_two, merged}

pub set_twice : {X : Type 0} (xs : List X) (k : ℕ) (x y : X) → slice_set (slice_set xs k x) k y ≡ slice_set xs k y
set_twice [] k x y = refl
set_twice (z ∷ zs) zero x y = refl
set_twice (z ∷ zs) (suc k) x y = ap (λ ws. z ∷ ws) (set_twice zs k x y)

-- setting a member and an insertion after it commute
set_before : {X : Type 0} (xs : List X) (k : ℕ) (x y : X) → k < length xs
    → slice_set (insert xs (suc k) y) k x ≡ insert (slice_set xs k x) (suc k) y
set_before [] k x y h = absurd (omega arith)
set_before (z ∷ zs) zero x y h = refl
set_before (z ∷ zs) (suc k) x y h = ap (λ ws. z ∷ ws) (set_before zs k x y (omega arith))

pub split_is : {X : Type 0} (xs : List X) (k : ℕ) (x y : X) → k < length xs
    → split_in_two xs k x y ≡ insert (slice_set xs k x) (suc k) y
split_is xs k x y h = rw add-one (set_before xs k x y h)

pub halves_at : {X : Type 0} (xs : List X) (k : ℕ) (x y : X) → k < length xs
    → split_in_two xs k x y ≡ insert (slice_set xs k x) (k + 1) y
halves_at xs k x y h = rw add-one (set_before xs k x y h)

module _ {X : Type 0} (xs : List X) (k : ℕ) (x y : X) (h : k < length xs) where
  pub first_split : slice_get (split_in_two xs k x y) k ≡ Some x
  first_split =
      let size = length-slice_set xs k x in
      rw (split_is xs k x y h)
      (slice_get-insert_below (slice_set xs k x) (suc k) y k (omega arith) (omega arith)
      ∙ slice_get-slice_set xs k x h)

  pub second_split : slice_get (split_in_two xs k x y) (k + 1) ≡ Some y
  second_split =
      let size = length-slice_set xs k x in
      rw (split_is xs k x y h, add-one) (slice_get-insert (slice_set xs k x) (suc k) y (omega arith))

  pub merged_split : (z : X) → merged (split_in_two xs k x y) k z ≡ slice_set xs k z
  merged_split z =
      let size = length-slice_set xs k x in
      rw (split_is xs k x y h, add-one)
      (ap (λ ws. slice_set ws k z) (remove-insert (slice_set xs k x) (suc k) y (omega arith))
      ∙ set_twice xs k x z)

module _ {X : Type 0} (xs : List X) (k : ℕ) (x y : X) (first : slice_get xs k ≡ Some x)
    (second : slice_get xs (k + 1) ≡ Some y) where
  pub left_first : slice_get (remove xs (suc k)) k ≡ Some x
  left_first = slice_get-remove_below xs (suc k) k (omega arith) ∙ first

  pub first_merged : (z : X) → slice_get (merged xs k z) k ≡ Some z
  first_merged z =
      rw add-one (slice_get-slice_set (remove xs (suc k)) k z (slice_get-within (remove xs (suc k)) k x left_first))

  pub split_merged : (z : X) → split_in_two (merged xs k z) k x y ≡ xs
  split_merged z =
      let second' : slice_get xs (suc k) ≡ Some y = rw add-one at second in
      let there = slice_get-within (merged xs k z) k z (first_merged z) in
      split_is (merged xs k z) k x y there
      ∙ rw add-one
      (ap (λ ws. insert ws (suc k) y)
      (set_twice (remove xs (suc k)) k z x ∙ slice_set_same (remove xs (suc k)) k x left_first)
      ∙ insert-remove xs (suc k) y second')

-- ---- properties of all members

pub all_set : {X : Type 0} (P : X → Type 0) (xs : List X) (k : ℕ) (x : X) → P x → AllByRecursion P xs
    → AllByRecursion P (slice_set xs k x)
all_set P [] k x p v = v
all_set P (y ∷ ys) zero x p v = (p, v.1)
all_set P (y ∷ ys) (suc k) x p v = (v.0, all_set P ys k x p v.1)

all_put : {X : Type 0} (P : X → Type 0) (xs : List X) (k : ℕ) (x : X) → P x → AllByRecursion P xs
    → AllByRecursion P (insert xs k x)
all_put P xs zero x p v = (p, v)
all_put P [] (suc k) x p v = (p, tt)
all_put P (y ∷ ys) (suc k) x p v = (v.0, all_put P ys k x p v.1)

all_less : {X : Type 0} (P : X → Type 0) (xs : List X) (k : ℕ) → AllByRecursion P xs → AllByRecursion P (remove xs k)
all_less P [] zero v = tt
all_less P [] (suc k) v = tt
all_less P (y ∷ ys) zero v = v.1
all_less P (y ∷ ys) (suc k) v = (v.0, all_less P ys k v.1)

pub all_split : {X : Type 0} (P : X → Type 0) (xs : List X) (k : ℕ) (x y : X) → P x → P y → AllByRecursion P xs
    → AllByRecursion P (split_in_two xs k x y)
all_split P xs k x y p q v = all_set P (insert xs (k + 1) y) k x p (all_put P xs (k + 1) y q v)

pub all_merged : {X : Type 0} (P : X → Type 0) (xs : List X) (k : ℕ) (x : X) → P x → AllByRecursion P xs
    → AllByRecursion P (merged xs k x)
all_merged P xs k x p v = all_set P (remove xs (k + 1)) k x p (all_less P xs (k + 1) v)

pub all_at : {X : Type 0} (P : X → Type 0) (xs : List X) (k : ℕ) (x : X) → slice_get xs k ≡ Some x
    → AllByRecursion P xs → P x
all_at P [] k x e v = cc
all_at P (y ∷ ys) zero x e v = let same : y ≡ x = cc in rw same at v.0
all_at P (y ∷ ys) (suc k) x e v = all_at P ys k x e v.1

-- ---- one member changed twice, and by equal changes

pub changed_twice : {X : Type 0} (xs : List X) (i : ℕ) (f g : X → X) (x : X) → slice_get xs i ≡ Some x
    → changed (changed xs i f) i g ≡ slice_set xs i (g (f x))
changed_twice xs i f g x e =
    changed-found (changed xs i f) i g (f x) (slice_get-changed xs i f x e)
    ∙ (ap (λ ys. slice_set ys i (g (f x))) (changed-found xs i f x e) ∙ set_twice xs i (f x) (g (f x)))

pub changed_back : {X : Type 0} (xs : List X) (i : ℕ) (f g : X → X) (x : X) → slice_get xs i ≡ Some x → g (f x) ≡ x
    → changed (changed xs i f) i g ≡ xs
changed_back xs i f g x e back = changed_twice xs i f g x e ∙ (ap (slice_set xs i) back ∙ slice_set_same xs i x e)
