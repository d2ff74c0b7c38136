-- When `all` returns true.
use Rattle.std.proofs.Common.{◌<◌, ◌↔◌, ℕ, Bool, true, false, true≢false, IsTrue, List, length, refl, sym}
use Rattle.std.specs.Bool.{MatchBool, OnTrue}
use Rattle.std.specs.List.{AllByRecursion, AllWithin, HoldsAt}
use Rattle.std.proofs.lemmas.List.Elements.{All-from_all_within, All-from_recursion, recursion_from_All}
use Rattle.std.proofs.lemmas.Iterator.Search.{true_from_All}

pub all_where_true : {X : Type 0} (P : X → Type 0) (Q : Type 0) (r : Bool) (xs : List X)
    → MatchBool r (AllWithin P xs 0 (length xs)) Q → OnTrue r (AllByRecursion P xs)
all_where_true P Q true xs h = recursion_from_All P xs (All-from_all_within P xs h)
all_where_true P Q false xs h = tt

-- `all` returns true exactly if P holds of every element; where it returns false, P fails of some element
pub all_decides : {X : Type 0} (P : X → Type 0) (r : Bool) (xs : List X)
    → MatchBool r (AllWithin P xs 0 (length xs)) ((k : ℕ) × (k < length xs) × HoldsAt (λ x. P x → ⊥) xs k)
    → IsTrue r ↔ AllByRecursion P xs
all_decides P true xs h = (λ t. recursion_from_All P xs (All-from_all_within P xs h), λ a. refl)
all_decides P false xs h = (
  λ t. absurd (true≢false (sym t)),
  λ a. true_from_All P (λ x. P x → ⊥) false xs (λ x p q. q p) h (All-from_recursion P xs a),
)
