-- The parts of a printed line.
use Rattle.std.proofs.Common.{subst, ◌≡◌, ◌≤◌, ◌<◌, ◌+◌, ℕ, suc, List, [], ◌∷◌, ◌++◌, length, map, get_or, drop}
use Rattle.std.proofs.Common.{refl, sym, ap, ◌∙◌, arith, drop-cons, append_assoc}
use Rattle.std.specs.Prelude.{Option}
use Rattle.std.specs.Borrow.{Bor}
use Rattle.std.specs.List.{flat_map, join_with_byte}
use Rattle.std.proofs.lemmas.List.{drop_all, append-nil}
use Rattle.base_outputs.specs.declared.output.Output.{Output}
use Rattle.base_outputs.specs.Output.{Puts}
use Rattle.base_outputs.proofs.OutputLaws.{puts_then, puts_as, Putting, putting_step, putting_member, putting_end}
use Rattle.hex.specs.Hex.{encode_with, encode_lower}
use Rattle.script_tokens.specs.Slices.{all_bytes}
use Rattle.script_tokens.specs.declared.printing.Piece.{Piece}
use Rattle.script_tokens.specs.Printing.{piece_text, spaced, line_text}

encode_first : (b : ℕ) (bytes : List ℕ) → encode_lower (b ∷ bytes) ≡ encode_lower (b ∷ []) ++ encode_lower bytes
unfolding encode_with
encode_first b bytes = refl

encode_none : (ys : List ℕ) → encode_lower ([] ++ ys) ≡ encode_lower [] ++ encode_lower ys
unfolding encode_with
encode_none ys = refl

pub encode_nothing : encode_lower [] ≡ []
unfolding encode_with
encode_nothing = refl

pub encode_both : (xs ys : List ℕ) → encode_lower (xs ++ ys) ≡ encode_lower xs ++ encode_lower ys
encode_both [] ys = encode_none ys
encode_both (b ∷ xs) ys =
    encode_first b (xs ++ ys)
    ∙ ap (λ (t : List ℕ). encode_lower (b ∷ []) ++ t) (encode_both xs ys)
    ∙ sym (append_assoc (encode_lower (b ∷ [])) (encode_lower xs) (encode_lower ys))
    ∙ ap (λ (t : List ℕ). t ++ encode_lower ys) (sym (encode_first b xs))

-- the digits of the bytes of slices
abbrev pub all_digits : List (Bor (List ℕ)) → List ℕ
all_digits slices = encode_lower (all_bytes slices)

slices_at : (slices : List (Bor (List ℕ))) (d : Bor (List ℕ)) (i : ℕ) → i < length slices
    → all_digits (drop i slices) ≡ encode_lower (get_or slices i d).now ++ all_digits (drop (i + 1) slices)
slices_at slices d i h =
    ap all_digits (drop-cons slices i d h)
    ∙ encode_both (get_or slices i d).now (all_bytes (drop (suc i) slices))
    ∙ (let e : i + 1 ≡ suc i = omega arith in rw e refl)

slices_over : (slices : List (Bor (List ℕ))) (i : ℕ) → length slices ≤ i → all_digits (drop i slices) ≡ []
slices_over slices i h = ap all_digits (drop_all i slices h) ∙ encode_nothing

-- one space between each two tokens is one space before each token but the first
joined_spaced : (w : List ℕ) (ps : List Piece) → join_with_byte 32 (w ∷ map piece_text ps) ≡ w ++ flat_map spaced ps
joined_spaced w [] = sym (append-nil w)
joined_spaced w (p ∷ ps) = ap (λ (x : List ℕ). w ++ (32 ∷ x)) (joined_spaced (piece_text p) ps)

pub line_spaced : (w : List ℕ) (ps : List Piece) → line_text w ps ≡ w ++ flat_map spaced ps ++ 10 ∷ []
line_spaced w ps = ap (λ (x : List ℕ). x ++ 10 ∷ []) (joined_spaced w ps)

module _ {W : Type 0} {c : W → Option (List ℕ)} where
  pub puts_line : {o p q r : Output W} (w : List ℕ) (ps : List Piece) → Puts c o p w
      → Puts c p q (flat_map spaced ps) → Puts c q r (10 ∷ []) → Puts c o r (line_text w ps)
  puts_line w ps h k l =
      puts_as ((w ++ flat_map spaced ps) ++ 10 ∷ []) (line_text w ps) (sym (line_spaced w ps))
      (puts_then (w ++ flat_map spaced ps) (10 ∷ []) (puts_then w (flat_map spaced ps) h k) l)

  -- the digits of a slice
  pub slices_on : {o p q : Output W} {whole : List ℕ} (slices : List (Bor (List ℕ))) (d : Bor (List ℕ)) (i : ℕ)
      → Putting c o p whole (all_digits (drop i slices)) → i < length slices
      → Puts c p q (encode_lower (get_or slices i d).now)
      → Putting c o q whole (all_digits (drop (i + 1) slices))
  slices_on slices d i s h k =
      putting_step (encode_lower (get_or slices i d).now) (all_digits (drop (i + 1) slices)) s
      (slices_at slices d i h) k

  pub slices_end : {o p : Output W} {whole : List ℕ} (slices : List (Bor (List ℕ))) (i : ℕ)
      → Putting c o p whole (all_digits (drop i slices)) → length slices ≤ i → Puts c o p whole
  slices_end slices i s h = let e = slices_over slices i h in putting_end (rw e at s)

  -- a piece
  pub pieces_on : {o p q : Output W} {whole : List ℕ} (ps : List Piece) (x : Piece) (i : ℕ)
      → Putting c o p whole (flat_map spaced (drop i ps)) → i < length ps → x ≡ get_or ps i x → Puts c p q (spaced x)
      → Putting c o q whole (flat_map spaced (drop (i + 1) ps))
  pieces_on {p = p} {q} ps x i s h e k =
      putting_member spaced ps i x s h (subst (λ (y : Piece). Puts c p q (spaced y)) e k)
