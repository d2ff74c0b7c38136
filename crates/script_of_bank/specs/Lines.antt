-- The lines that add a bank's presets or instruments.
use Rattle.std.specs.Prelude.{ℕ, suc, List, [], ◌∷◌, ◌++◌}
use Rattle.bank_parts.specs.declared.parts.ZoneOwner.{ZoneOwner}
use Rattle.script_tokens.specs.Printing.{line_text}
use Rattle.script_grammar.specs.Operands.{Operand, pieces_of}
use Rattle.script_steps.specs.Members.{printed_owner}

-- the line that adds an owner: the word of its form, its number, its head and its zones
abbrev pub owner_line : {H : Type 0} → List ℕ → (H → List Operand) → ℕ → ZoneOwner H → List ℕ
owner_line word head n x = line_text word (pieces_of (printed_owner head n x))

-- a line for each owner; the first has the number n
abbrev pub owner_lines : {H : Type 0} → List ℕ → (H → List Operand) → ℕ → List (ZoneOwner H) → List ℕ
owner_lines word head n [] = []
owner_lines word head n (x ∷ xs) = owner_line word head n x ++ owner_lines word head (suc n) xs
