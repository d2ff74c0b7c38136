-- Values that a word of the script names.
use Rattle.std.specs.Prelude.{ℕ, List, [], ◌∷◌, Option, Some, None, if◌then◌else◌}
use Rattle.std.specs.Str.{bytes_eq}
use Rattle.script_tokens.specs.declared.fault.LineFault.TheVariants as faults
use Rattle.script_tokens.specs.Parsers.{Parser, ◌>>=◌, pure, or_fault, word}

-- the first of these values that has this word
abbrev pub named : {X : Type 0} → (X → List ℕ) → List X → List ℕ → Option X
named word_of [] w = None
named word_of (x ∷ xs) w = if bytes_eq w (word_of x) then Some x else named word_of xs w

-- the value whose word is next
unfoldable pub next_named : {X : Type 0} → (X → List ℕ) → List X → Parser X
next_named word_of xs = do
  w ← word
  or_fault faults.Syntax (named word_of xs w)

-- ---- a fixed word

-- whether a word is this text; another word is a fault of syntax
unfoldable pub fixed_by : List ℕ → List ℕ → Parser (Unit {0})
fixed_by text w = if bytes_eq w text then pure tt else or_fault faults.Syntax None

-- this word, and no other
unfoldable pub fixed : List ℕ → Parser (Unit {0})
fixed text = word >>= fixed_by text
