-- Parsers of what follows the file in a line of a table.
use Rattle.std.specs.Prelude.{ℕ, ℤ, pos, neg_ℤ, int_le, nat_le, nat_lt, Bool, true, List, [], ◌∷◌, codes}
use Rattle.std.specs.Prelude.{Option, Some, None, Result, Ok, Err, ◌&&◌, ◌||◌, if◌then◌else◌}
use Rattle.generators.specs.declared.range.Range.{Range}
use Rattle.script_tokens.specs.declared.cursor.TokenValue.{TokenValue}
use Rattle.script_tokens.specs.declared.fault.LineFault.{LineFault}
use Rattle.script_tokens.specs.declared.fault.LineFault.TheVariants as faults
use Rattle.script_tokens.specs.Parsers.{Parsed, Parser, ◌>>=◌, pure, or_fault, is_next, word, number, signed, range}
use Rattle.script_tokens.specs.Parsers.{ended}
use Rattle.kit_tables.specs.declared.limits.TheConstants.{HIGHEST_KEY, HIGHEST_CLASS, FARTHEST_PAN}
use Rattle.kit_tables.specs.declared.zone.KitZone.{KitZone}
use Rattle.kit_tables.specs.Zones.{all}

-- ---- one parser or another

-- the first result, or the second where the first is a fault
abbrev pub or_else : {X : Type 0} → Result (Parsed X) LineFault → Result (Parsed X) LineFault
    → Result (Parsed X) LineFault
or_else (Ok t) other = Ok t
or_else (Err e) other = other

-- one parser, or another where the first finds a fault
infixl 9 ◌<|>◌
abbrev pub ◌<|>◌ : {X : Type 0} → Parser X → Parser X → Parser X
(p <|> q) line = or_else (p line) (q line)

-- the value if it passes a test, else a fault of number
abbrev pub checked : {X : Type 0} → (X → Bool) → X → Parser X
checked test x = or_fault faults.Number (if test x then Some x else None)

-- a word and what it introduces, if this word is next
abbrev pub optional : {X : Type 0} → List ℕ → Parser X → Parser (Option X)
optional w part line =
    if is_next w line then (word >>= λ v. part >>= λ x. pure (Some x)) line else pure None line

-- ---- ranges

-- the range with these ends, if they are in order and at most 127
unfoldable pub range_with : ℕ × ℕ → Option Range
range_with ends =
    if nat_le ends.0 ends.1 && nat_le ends.1 127 then Some (record { low = ends.0; high = ends.1 }) else None

-- one key, which is both ends
unfoldable pub single_key : Parser (ℕ × ℕ)
single_key = do
  k ← number HIGHEST_KEY
  pure (k, k)

-- `KEY`, or `KEY..KEY`
unfoldable pub keys : Parser Range
keys = do
  ends ← range <|> single_key
  or_fault faults.Number (range_with ends)

-- `LOW..HIGH`
unfoldable pub velocity_range : Parser Range
velocity_range = do
  ends ← range
  or_fault faults.Number (range_with ends)

-- whether no velocities come next: the line ends, or an optional part begins
abbrev pub is_without_velocities : List TokenValue → Bool
is_without_velocities [] = true
is_without_velocities (s ∷ line) =
    is_next (codes "root") (s ∷ line) || is_next (codes "pan") (s ∷ line) || is_next (codes "class") (s ∷ line)

-- the velocities that the line has, or all
unfoldable pub velocities : Parser Range
velocities line = if is_without_velocities line then pure all line else velocity_range line

-- ---- the optional parts

-- `root KEY`
unfoldable pub root : Parser (Option ℕ)
root = optional (codes "root") (number HIGHEST_KEY)

-- a number from -500 to 500
unfoldable pub pan_value : Parser ℤ
pan_value = do
  z ← signed FARTHEST_PAN
  checked (int_le (neg_ℤ (pos FARTHEST_PAN))) z

-- `pan P`
unfoldable pub pan : Parser (Option ℤ)
pan = optional (codes "pan") pan_value

-- a number from 1 to 127
unfoldable pub class_value : Parser ℕ
class_value = do
  n ← number HIGHEST_CLASS
  checked (nat_lt 0) n

-- `class N`
unfoldable pub class : Parser (Option ℕ)
class = optional (codes "class") class_value

-- ---- the zone

-- the keys, the velocities and the optional parts, to the line's end
unfoldable pub zone : Parser KitZone
zone = do
  k ← keys
  v ← velocities
  r ← root
  p ← pan
  c ← class
  u ← ended (tt {0})
  pure (record { keys = k; velocities = v; root = r; pan = p; class = c })
