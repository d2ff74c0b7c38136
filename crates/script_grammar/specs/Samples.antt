-- The parts of a sample: their operands on a line, and their parsers.
use Rattle.std.specs.Prelude.{ℕ, ℤ, ◌%◌, List, [], ◌∷◌, ◌++◌, length, codes, Option, Some, None, ◌==◌, if◌then◌else◌}
use Rattle.std.specs.Str.{bytes_eq}
use Rattle.sample_view.specs.Words.{words}
use Rattle.bank_parts.specs.declared.parts.Kind.{Kind}
use Rattle.bank_parts.specs.declared.parts.Kind.TheVariants.{Mono, Right, Left, Linked}
use Rattle.bank_parts.specs.declared.parts.Sample.{Sample}
use Rattle.script_tokens.specs.declared.fault.LineFault.TheVariants as faults
use Rattle.script_tokens.specs.Parsers.{Parser, ◌>>=◌, pure, or_fault, word, literal, number, signed, name}
use Rattle.script_tokens.specs.Parsers.{most_word, most_double_word}
use Rattle.script_grammar.specs.Operands.{Operand, Fixed, Number, Signed, Name, Points}

-- ---- the operands on a line

-- `mono`, `right N`, `left N` or `linked N`
abbrev pub kind_operands : Kind → List Operand
kind_operands Mono = Fixed (codes "mono") ∷ []
kind_operands (Right link) = Fixed (codes "right") ∷ Number most_word link ∷ []
kind_operands (Left link) = Fixed (codes "left") ∷ Number most_word link ∷ []
kind_operands (Linked link) = Fixed (codes "linked") ∷ Number most_word link ∷ []

-- `noloop` or `loop A B`
abbrev pub loop_operands : Option (ℕ × ℕ) → List Operand
loop_operands None = Fixed (codes "noloop") ∷ []
loop_operands (Some looped) =
    Fixed (codes "loop") ∷ Number most_double_word looped.0 ∷ Number most_double_word looped.1 ∷ []

-- `RATE KEY CORR`
abbrev pub tune_operands : ℕ → ℕ → ℤ → List Operand
tune_operands rate key correction = Number most_double_word rate ∷ Number 255 key ∷ Signed 127 correction ∷ []

-- a sample without its points: `NAME RATE KEY CORR KIND LOOP`
abbrev pub head_operands : Sample → List Operand
head_operands s =
    (Name s.name ∷ tune_operands s.rate s.key s.correction) ++ (kind_operands s.kind ++ loop_operands s.looped)

-- `NAME RATE KEY CORR KIND LOOP POINTS`
abbrev pub body_operands : Sample → List Operand
body_operands s = head_operands s ++ Points s.points ∷ []

-- ---- parsers

-- a kind after its first word
unfoldable pub kind_after_word : List ℕ → Parser Kind
kind_after_word w =
    if bytes_eq w (codes "mono") then pure Mono
    else if bytes_eq w (codes "right") then (number most_word >>= λ link. pure (Right link))
    else if bytes_eq w (codes "left") then (number most_word >>= λ link. pure (Left link))
    else if bytes_eq w (codes "linked") then (number most_word >>= λ link. pure (Linked link))
    else or_fault faults.Syntax None

-- `mono`, `right N`, `left N` or `linked N`
unfoldable pub kind : Parser Kind
kind = word >>= kind_after_word

-- a loop after its first word
unfoldable pub loop_after_word : List ℕ → Parser (Option (ℕ × ℕ))
loop_after_word w =
    if bytes_eq w (codes "noloop") then pure None
    else if bytes_eq w (codes "loop")
    then (number most_double_word >>= λ a. number most_double_word >>= λ b. pure (Some (a, b)))
    else or_fault faults.Syntax None

-- `noloop` or `loop A B`
unfoldable pub looped : Parser (Option (ℕ × ℕ))
looped = word >>= loop_after_word

-- two bytes for each point
unfoldable pub points_of : List ℕ → Option (List ℕ)
points_of bytes = if length bytes % 2 == 0 then Some (words bytes) else None

-- a literal of whole points
unfoldable pub points : Parser (List ℕ)
points = do
  bytes ← literal
  or_fault faults.Literal (points_of bytes)

-- `RATE KEY CORR`
unfoldable pub tune : Parser (ℕ × ℕ × ℤ)
tune = do
  rate ← number most_double_word
  key ← number 255
  correction ← signed 127
  pure (rate, key, correction)

-- the sample with these fields
abbrev pub sample_of : List ℕ → ℕ × ℕ × ℤ → Kind → Option (ℕ × ℕ) → List ℕ → Sample
sample_of name tune kind looped points =
    record {
      name =
          name;
      points = points;
      looped = looped;
      rate = tune.0;
      key = tune.1;
      correction = tune.2;
      kind = kind;
    }

-- `NAME RATE KEY CORR KIND LOOP POINTS`
unfoldable pub body : Parser Sample
body = do
  n ← name
  t ← tune
  k ← kind
  l ← looped
  p ← points
  pure (sample_of n t k l p)
