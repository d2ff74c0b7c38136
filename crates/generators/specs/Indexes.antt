-- Indexes among entries: where an operator is, or where it would be inserted.
use Rattle.std.specs.Prelude.{◌≡◌, ℕ, ◌<◌, ◌≤◌, List, length, slice_index_or}
use Rattle.std.specs.declared.cmp.Ordering.TheVariants.{Less, Greater}
use Rattle.generators.specs.Gens.{operator_cmp}

-- The operator of the entry at index i.
abbrev pub operator_at : List (ℕ × ℕ) → ℕ → ℕ
operator_at es i = let entry = slice_index_or es i (0, 0) in entry.0

-- The entry at index i has the operator.
pub record IsAt (es : List (ℕ × ℕ)) (op i : ℕ) : Type 0 where
  pub within : i < length es
  pub same : operator_at es i ≡ op

-- The operator would be inserted at index i: the entries before i are before it in order, and the others after it.
pub record IsInsertionIndex (es : List (ℕ × ℕ)) (op i : ℕ) : Type 0 where
  pub within : i ≤ length es
  pub before : (j : ℕ) → j < i → operator_cmp (operator_at es j) op ≡ Less
  pub after : (j : ℕ) → i ≤ j → j < length es → operator_cmp (operator_at es j) op ≡ Greater
