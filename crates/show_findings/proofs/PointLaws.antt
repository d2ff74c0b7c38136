-- The points of samples, from their bytes.
use Rattle.std.proofs.Common.{◌≡◌, ℕ, List, [], ◌∷◌, refl, sym, ap, ◌∙◌, arith}
use Rattle.std.proofs.Common.{Bool, ◌&&◌}
use Rattle.std.specs.Prelude.{◌==◌}
use Rattle.std.specs.List.{flat_map, list_all}
use Rattle.std.proofs.lemmas.Bool.Decides.{nat_tests}
use Rattle.std.proofs.lemmas.List.Folds.{list_all-append}
use Rattle.std.specs.Borrow.{Bor}
use Rattle.sample_view.specs.Words.{word_bytes}
use Rattle.sample_view.specs.Pieces.{joined_bytes}

-- a test of all members of joined lists
all_joined : {X Y : Type 0} (p : Y → Bool) (f : X → List Y) (xs : List X)
    → list_all p (flat_map f xs) ≡ list_all (λ x. list_all p (f x)) xs
all_joined p f [] = refl
all_joined p f (x ∷ xs) = list_all-append p (f x) (flat_map f xs) ∙ ap (λ t. list_all p (f x) && t) (all_joined p f xs)

both_zero : (n : ℕ) → list_all (λ b. b == 0) (word_bytes n) ≡ (n == 0)
unfolding word_bytes
both_zero n = grind (arith, nat_tests)

words_zero : (points : List ℕ) → list_all (λ b. b == 0) (flat_map word_bytes points) ≡ list_all (λ p. p == 0) points
words_zero [] = refl
words_zero (p ∷ ps) =
    list_all-append (λ b. b == 0) (word_bytes p) (flat_map word_bytes ps)
    ∙ ap (λ t. t && list_all (λ b. b == 0) (flat_map word_bytes ps)) (both_zero p)
    ∙ ap (λ t. (p == 0) && t) (words_zero ps)

-- all bytes of the pieces are zero exactly if all points are
pub pieces_zero : (pieces : List (Bor (List ℕ))) (points : List ℕ) → joined_bytes pieces ≡ flat_map word_bytes points
    → list_all (λ piece. list_all (λ b. b == 0) piece.now) pieces ≡ list_all (λ p. p == 0) points
pieces_zero pieces points e =
    sym (all_joined (λ b. b == 0) (λ (piece : Bor (List ℕ)). piece.now) pieces)
    ∙ ap (list_all (λ b. b == 0)) e ∙ words_zero points
