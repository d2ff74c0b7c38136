-- What the lines of a text are parsed to, and the pool: the bytes of all literals of a text.
use Rattle.std.specs.Prelude.{◌≡◌, ℕ, suc, List, [], ◌∷◌, ◌++◌, Result, Ok, Err}
use Rattle.sf_base.specs.declared.memory.Failure.{Failure}
use Rattle.sf_base.specs.declared.memory.Failure.TheVariants as failures
use Rattle.script_tokens.specs.declared.cursor.TokenValue.{TokenValue}
use Rattle.script_tokens.specs.declared.cursor.TokenValue.TheVariants.{Word, Literal, Malformed}
use Rattle.script_tokens.specs.declared.fault.LineFault.{LineFault}
use Rattle.script_tokens.specs.declared.fault.LineFault.TheVariants as line
use Rattle.script_tokens.specs.declared.fault.ScriptFault.{ScriptFault}
use Rattle.script_tokens.specs.declared.fault.ScriptFault.TheVariants as faults
use Rattle.script_tokens.specs.TokenValue.{values_of_lines}

-- ---- lists built line by line, up to the first fault

-- a list, or the first fault of a script
abbrev pub ListOrFault : Type 0 → Type 0
ListOrFault X = Result (List X) ScriptFault

-- one result after another, up to the first fault
abbrev pub and_then : {X Y F : Type 0} → Result X F → (X → Result Y F) → Result Y F
and_then (Ok x) f = f x
and_then (Err e) f = Err e

-- the list after all lines, of which the first has the number n
unfoldable pub gather : {X F : Type 0} → (ℕ → List TokenValue → List X → Result (List X) F) → ℕ → List (List TokenValue) → List X
    → Result (List X) F
gather f n [] xs = Ok xs
gather f n (l ∷ ls) xs = and_then (f n l xs) (λ ys. gather f (suc n) ls ys)

-- a fault with its line number
abbrev pub on_line : ℕ → LineFault → ScriptFault
on_line n line.Syntax = faults.Syntax n
on_line n line.Number = faults.Number n
on_line n line.Literal = faults.Literal n

-- ---- the pool: the bytes of all literals, or the fault of the first malformed one

-- the pool after a token of line n
unfoldable pub literal_of : ℕ → TokenValue → List ℕ → ListOrFault ℕ
literal_of n (Word w) pool = Ok pool
literal_of n (Literal bytes) pool = Ok (pool ++ bytes)
literal_of n Malformed pool = Err (faults.Literal n)

-- the pool after the tokens of line n
unfoldable pub literals_of : ℕ → List TokenValue → List ℕ → ListOrFault ℕ
literals_of n [] pool = Ok pool
literals_of n (s ∷ line) pool = and_then (literal_of n s pool) (λ more. literals_of n line more)

-- the pool of a text
unfoldable pub pool_bytes : List ℕ → ListOrFault ℕ
pool_bytes text = gather literals_of 1 (values_of_lines text) []

-- ---- results of calls that allocate

-- the fault of the specification, or a failed allocation, which may replace any result
abbrev pub Fails : {Y F : Type 0} → Failure F → Result Y F → Type 0
Fails (failures.Fault fault) r = r ≡ Err fault
Fails failures.OutOfMemory r = Unit {0}

-- the result of the specification, or a failed allocation
abbrev pub Answers : {X Y F : Type 0} → (X → Y) → Result X (Failure F) → Result Y F → Type 0
Answers view (Ok x) r = r ≡ Ok (view x)
Answers view (Err failure) r = Fails failure r
