-- The number, the name and the line of a script's fault.
use Rattle.std.specs.Prelude.{ℕ, List, codes}
use Rattle.script_tokens.specs.declared.fault.ScriptFault.{ScriptFault}
use Rattle.script_tokens.specs.declared.fault.ScriptFault.TheVariants.{Syntax, Number, Literal}

-- the number of each kind of fault
abbrev pub number_of : ScriptFault → ℕ
number_of (Syntax line) = 41
number_of (Number line) = 42
number_of (Literal line) = 43

-- the name of each kind of fault
abbrev pub name_of : ScriptFault → List ℕ
name_of (Syntax line) = codes "Syntax"
name_of (Number line) = codes "Number"
name_of (Literal line) = codes "Literal"

-- the faulty line
abbrev pub line_of : ScriptFault → ℕ
line_of (Syntax line) = line
line_of (Number line) = line
line_of (Literal line) = line
