-- A bag that is inserted as a whole.
use Rattle.std.proofs.Common.{◌≡◌, ℕ, ◌≤◌, ◌<◌, List, [], ◌∷◌, ◌++◌, length, insert, take, drop, set, slice_get}
use Rattle.std.proofs.Common.{suc, zero, ◌+◌, Some, refl, sym, subst, ◌∙◌, ap, zero-add, length-append, arith}
use Rattle.std.specs.Option.{IsSomeAnd, IfSome}
use Rattle.std.specs.List.{flat_map}
use Rattle.std.proofs.lemmas.List.{take-append-drop, set_at, length-take-le}
use Rattle.std.proofs.lemmas.List.Concat.{flat_map-append}
use Rattle.base_numbered_lists.specs.Moved.{changed}
use Rattle.std.proofs.lemmas.Option.{slice_get_within, get_or_from_slice_get}
use Rattle.base_numbered_lists.proofs.Lists.{slice_get-insert, slice_get-found, slice_get-slice_set, changed-found}
use Rattle.modulators.specs.declared.modulator.Modulator.{Modulator}
use Rattle.flat_records.specs.Runs.{cut}
use Rattle.flat_records.specs.Bags.{Bag, no_bag}

pub there : (P : Bag → Type 0) (bags xs : List Bag) (k : ℕ) (b : Bag) → xs ≡ insert bags k b → k ≤ length bags → P b
    → IsSomeAnd (slice_get xs k) P
there P bags xs k b e h p =
    subst (λ o. IsSomeAnd o P) (sym (ap (λ xs. slice_get xs k) e ∙ slice_get-insert bags k b h)) p

pub changed_inserted : (bags xs : List Bag) (k : ℕ) (b : Bag) (f : Bag → Bag) → xs ≡ insert bags k b
    → k ≤ length bags → changed xs k f ≡ insert bags k (f b)
changed_inserted bags xs k b f e h =
    ap (λ xs. changed xs k f) e
    ∙
    (changed-found (insert bags k b) k f b (slice_get-insert bags k b h)
    ∙ set_at (take k bags) b (drop k bags) (f b) k (length-take-le k bags h))

pub flat-inserted : {X : Type 0} (part : Bag → List X) (bags xs : List Bag) (k : ℕ) (b : Bag) → xs ≡ insert bags k b
    → part b ≡ [] → flat_map part xs ≡ flat_map part bags
flat-inserted part bags xs k b e none =
    ap (flat_map part) e ∙ (flat_map-append part (take k bags) (b ∷ drop k bags)
    ∙ (ap (λ ys. flat_map part (take k bags) ++ (ys ++ flat_map part (drop k bags))) none
    ∙ (sym (flat_map-append part (take k bags) (drop k bags)) ∙ ap (flat_map part) (take-append-drop k bags))))

-- Dropping all of a list leaves nothing.
drop-all : {X : Type 0} (xs : List X) → drop (length xs) xs ≡ []
drop-all [] = refl
drop-all (x ∷ xs) = drop-all xs

cut-all : {X : Type 0} (xs ys : List X) → ys ≡ xs → cut xs 0 (length ys) ≡ []
cut-all xs ys e = rw (e, zero-add (length xs)) (drop-all xs)

pub all-cut : (bags : List Bag) (k : ℕ) (gens : List (ℕ × ℕ)) (mods : List Modulator)
    → IfSome (slice_get bags k) (λ (b : Bag). gens ≡ b.gens) → IfSome (slice_get bags k) (λ (b : Bag). mods ≡ b.mods)
    → k < length bags
    → changed bags k (λ (b : Bag). record { gens = cut b.gens 0 (length gens); mods = cut b.mods 0 (length mods) })
    ≡ set bags k no_bag
all-cut bags k gens mods e f h =
    let (b, there) = slice_get-found bags k h in
    let first : gens ≡ b.gens = subst (λ o. IfSome o (λ (b : Bag). gens ≡ b.gens)) there e in
    let second : mods ≡ b.mods = subst (λ o. IfSome o (λ (b : Bag). mods ≡ b.mods)) there f in
    changed-found bags k
    (λ (b : Bag). record { gens = cut b.gens 0 (length gens); mods = cut b.mods 0 (length mods) }) b there
    ∙ (λ i. set bags k (record { gens = cut-all b.gens gens first i; mods = cut-all b.mods mods second i }))

-- ---- a bag replaced

set_again : {X : Type 0} (xs : List X) (k : ℕ) (x y : X) → set (set xs k x) k y ≡ set xs k y
set_again [] k x y = refl
set_again (z ∷ zs) zero x y = refl
set_again (z ∷ zs) (suc k) x y = ap (λ ys. z ∷ ys) (set_again zs k x y)

-- Without the members of one bag.
pub length-emptied : {X : Type 0} (part : Bag → List X) (bags : List Bag) (k : ℕ) (b : Bag) → part no_bag ≡ []
    → slice_get bags k ≡ Some b
    → length (flat_map part (set bags k no_bag)) + length (part b) ≡ length (flat_map part bags)
length-emptied part [] k b none e = absurd (omega (arith, slice_get_within [] k b e))
length-emptied part (x ∷ xs) zero b none e =
    let same : x ≡ b = get_or_from_slice_get (x ∷ xs) 0 b x e in
    let first : length (part no_bag ++ flat_map part xs) ≡ length (flat_map part xs) =
    ap (λ ys. length (ys ++ flat_map part xs)) none in
    let other : length (part x) ≡ length (part b) = ap (λ y. length (part y)) same in
    omega (arith, first, other, length-append (part x) (flat_map part xs))
length-emptied part (x ∷ xs) (suc k) b none e =
    omega (
      arith,
      length-append (part x) (flat_map part (set xs k no_bag)),
      length-append (part x) (flat_map part xs),
      length-emptied part xs k b none e,
    )

pub changed_emptied : (bags xs : List Bag) (k : ℕ) (f : Bag → Bag) → xs ≡ set bags k no_bag → k < length bags
    → changed xs k f ≡ set bags k (f no_bag)
changed_emptied bags xs k f e h =
    ap (λ xs. changed xs k f) e
    ∙ (changed-found (set bags k no_bag) k f no_bag (slice_get-slice_set bags k no_bag h)
    ∙ set_again bags k no_bag (f no_bag))
