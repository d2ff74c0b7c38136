-- Two lists of bytes read side by side.
use Rattle.std.proofs.Common.{◌≡◌, ◌≢◌, ℕ, ◌≤◌, min, List, ◌++◌, ◌↔◌, length, take, drop, ap, sym, ◌∙◌, arith}
use Rattle.std.proofs.Common.{length-take, append-nil, take-append-drop}
use Rattle.std.specs.Prelude.{Bool, IsTrue, [], ◌∷◌}
use Rattle.std.specs.Bool.{Decides}
use Rattle.std.specs.Borrow.{Bor}
use Rattle.sample_view.specs.Pieces.{joined_bytes}
use Rattle.std.specs.List.{flat_map}
use Rattle.sample_view.specs.Words.{words, word_bytes}
use Rattle.sample_view.proofs.WordLaws.{words_of_bytes}
use Rattle.std.proofs.lemmas.List.{append_assoc, take_at, drop-append-le}

-- a prefix of two lists that lies in the first
take-front : (n : ℕ) (xs ys : List ℕ) → n ≤ length xs → take n (xs ++ ys) ≡ take n xs
take-front n xs ys h =
    let size : length (take n xs) ≡ n = omega (arith, length-take n xs) in
    ap (λ t. take n t) (ap (λ t. t ++ ys) (sym (take-append-drop n xs)) ∙ append_assoc (take n xs) (drop n xs) ys)
    ∙ take_at (take n xs) (drop n xs ++ ys) n size

module _ (a b : List ℕ) (n : ℕ) (within : n ≡ min (length a) (length b)) where
  -- if both begin with the same bytes, they are equal exactly if their rests are
  pub go_on : take n a ≡ take n b → (xs ys : List ℕ) → (a ++ xs ≡ b ++ ys) ↔ (drop n a ++ xs ≡ drop n b ++ ys)
  go_on same xs ys =
      let in_a : n ≤ length a = omega arith in
      let in_b : n ≤ length b = omega arith in
      let parts : (zs ws : List ℕ) → zs ++ ws ≡ take n zs ++ (drop n zs ++ ws) = λ zs ws.
      ap (λ t. t ++ ws) (sym (take-append-drop n zs)) ∙ append_assoc (take n zs) (drop n zs) ws in (
        λ e. sym (drop-append-le n a xs in_a) ∙ ap (λ t. drop n t) e ∙ drop-append-le n b ys in_b,
        λ e. parts a xs ∙ ap (λ t. t ++ (drop n a ++ xs)) same ∙ ap (λ t. take n b ++ t) e ∙ sym (parts b ys),
      )

  -- if both begin with different bytes, they differ
  pub begin_apart : take n a ≢ take n b → (xs ys : List ℕ) → a ++ xs ≢ b ++ ys
  begin_apart apart xs ys e =
      let in_a : n ≤ length a = omega arith in
      let in_b : n ≤ length b = omega arith in
      apart (sym (take-front n a xs in_a) ∙ ap (λ t. take n t) e ∙ take-front n b ys in_b)

-- points are equal exactly if their bytes are
pub same_by_bytes : (ps qs : List ℕ) (xs ys : List ℕ) (r : Bool) → xs ≡ flat_map word_bytes ps
    → ys ≡ flat_map word_bytes qs
    → (IsTrue r ↔ (xs ≡ ys)) → (IsTrue r ↔ (ps ≡ qs))
same_by_bytes ps qs xs ys r p q h = (
  λ t. sym (words_of_bytes ps) ∙ ap words (sym p ∙ h.0 t ∙ q) ∙ words_of_bytes qs,
  λ e. h.1 (p ∙ ap (λ ws. flat_map word_bytes ws) e ∙ sym q),
)

-- if no slice remains, the whole lists are equal exactly if the rests of the current slices are
pub same_at_end : (first second xs ys : List ℕ) (others more : List (Bor (List ℕ))) (r : Bool) → length others ≡ 0
    → length more ≡ 0
    → ((xs ≡ ys) ↔ (first ++ joined_bytes others ≡ second ++ joined_bytes more)) → Decides r (first ≡ second)
    → (IsTrue r ↔ (xs ≡ ys))
same_at_end first second xs ys [] [] r p q h d = (
  λ t. h.1 (append-nil first ∙ d.0 t ∙ sym (append-nil second)),
  λ e. d.1 (sym (append-nil first) ∙ h.0 e ∙ append-nil second),
)
same_at_end first second xs ys (x ∷ others) more r p q h d = absurd (omega arith)
same_at_end first second xs ys [] (y ∷ more) r p q h d = absurd (omega arith)
