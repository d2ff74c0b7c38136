-- What doesn't change when a list is permuted.
use Rattle.std.proofs.Common.{◌≡◌, ℕ, ◌+◌, suc, ℤ, pos, negsuc, ◌+ℤ◌, ◌-ℤ◌, Bool, true, false, not, nat_le, nat_lt}
use Rattle.std.proofs.Common.{max, ◌||◌, List, [], ◌∷◌, refl, sym, ap, ◌∙◌, arith}
use Rattle.std.specs.List.{list_any, sum_by}
use Rattle.std.specs.List.Sorted.{IsPermutation}
use Rattle.std.proofs.lemmas.Int.{ints}
use Rattle.std.proofs.lemmas.Bool.Decides.{nat_tests}
use Rattle.std.proofs.lemmas.List.Sums.{sum_by-cons}
use Rattle.std.proofs.lemmas.List.Sorted.{sum_by-IsPermutation, list_any-IsPermutation}
use Rattle.zone_select.specs.Select.{Voice}
use Rattle.mixer.specs.Sums.{sum_over}
use Rattle.mixer.specs.Render.{last_release}

-- a signed number as a difference
abbrev up : ℤ → ℕ
up (pos n) = n
up (negsuc n) = 0

abbrev down : ℤ → ℕ
down (pos n) = 0
down (negsuc n) = suc n

parts : (z : ℤ) → z ≡ pos (up z) -ℤ pos (down z)
parts (pos n) = omega (arith, ints)
parts (negsuc n) = omega (arith, ints)

added : (z s : ℤ) (a b c d e f : ℕ) → z ≡ pos a -ℤ pos b → s ≡ pos c -ℤ pos d → e ≡ a + c → f ≡ b + d
    → z +ℤ s ≡ pos e -ℤ pos f
added z s a b c d e f h g i j = omega (arith, ints)

sum_over-parts : {X : Type 0} (f : X → ℤ) (xs : List X)
    → sum_over f xs ≡ pos (sum_by (λ x. up (f x)) xs) -ℤ pos (sum_by (λ x. down (f x)) xs)
unfolding sum_over
sum_over-parts f [] = refl
sum_over-parts f (x ∷ xs) =
    added (f x) (sum_over f xs) (up (f x)) (down (f x)) (sum_by (λ x. up (f x)) xs) (sum_by (λ x. down (f x)) xs) _ _
    (parts (f x)) (sum_over-parts f xs) (sum_by-cons (λ x. up (f x)) x xs) (sum_by-cons (λ x. down (f x)) x xs)

pub sum_over-permuted : {X : Type 0} (f : X → ℤ) (xs ys : List X) → IsPermutation xs ys → sum_over f xs ≡ sum_over f ys
sum_over-permuted f xs ys h =
    sum_over-parts f xs
    ∙ sym
    (λ i.
    pos (sum_by-IsPermutation (λ x. up (f x)) xs ys h i) -ℤ pos
    (sum_by-IsPermutation (λ x. down (f x)) xs ys h i))
    ∙ sym (sum_over-parts f ys)

one_more : (r m k : ℕ) (a : Bool) → nat_le m k ≡ not a → nat_le (max r m) k ≡ not (nat_lt k r || a)
one_more r m k true h = grind (arith, nat_tests)
one_more r m k false h = grind (arith, nat_tests)

-- the longest release is within k frames if each release is
released : (k : ℕ) (vs : List Voice)
    → nat_le (last_release vs) k ≡ not (list_any (λ v. nat_lt k v.parameters.release) vs)
unfolding last_release
released k [] = grind (arith, nat_tests)
released k (v ∷ vs) =
    one_more v.parameters.release (last_release vs) k (list_any (λ w. nat_lt k w.parameters.release) vs)
    (released k vs)

same_number : (a b : ℕ) → nat_le a a ≡ nat_le b a → nat_le a b ≡ nat_le b b → a ≡ b
same_number a b h g = grind (arith, nat_tests)

pub last_release-permuted : (vs ws : List Voice) → IsPermutation vs ws → last_release vs ≡ last_release ws
last_release-permuted vs ws h =
    let by : (k : ℕ) → nat_le (last_release vs) k ≡ nat_le (last_release ws) k = λ k.
    released k vs ∙ ap not (list_any-IsPermutation (λ v. nat_lt k v.parameters.release) vs ws h)
    ∙ sym (released k ws) in
    same_number (last_release vs) (last_release ws) (by (last_release vs)) (by (last_release ws))
