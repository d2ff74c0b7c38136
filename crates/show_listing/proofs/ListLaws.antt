-- The lines of a list's members.
use Rattle.std.proofs.Common.{◌≡◌, ◌≤◌, ◌<◌, ◌+◌, ℕ, suc, List, [], ◌∷◌, ◌++◌, length, get_or, drop, refl, sym, ap}
use Rattle.std.proofs.Common.{◌∙◌, arith, drop-cons}
use Rattle.std.proofs.lemmas.List.{drop_all}
use Rattle.show_listing.specs.Listing.{lines_from}

pub lines_at : {X : Type 0} (line : ℕ → X → List ℕ) (xs : List X) (i : ℕ) (x : X) → i < length xs → x ≡ get_or xs i x
    → lines_from line i (drop i xs) ≡ line i x ++ lines_from line (i + 1) (drop (i + 1) xs)
lines_at {X} line xs i x h e =
    ap (lines_from line i) (drop-cons xs i x h ∙ ap (λ (y : X). y ∷ drop (suc i) xs) (sym e))
    ∙ (let a : i + 1 ≡ suc i = omega arith in rw a refl)

pub lines_over : {X : Type 0} (line : ℕ → X → List ℕ) (xs : List X) (i : ℕ) → length xs ≤ i
    → lines_from line i (drop i xs) ≡ []
lines_over line xs i h = ap (lines_from line i) (drop_all i xs h)
