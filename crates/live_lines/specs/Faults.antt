-- The numbers and names of the faults of a line.
use Rattle.std.specs.Prelude.{ℕ, List, codes}
use Rattle.script_tokens.specs.declared.fault.LineFault.{LineFault}
use Rattle.script_tokens.specs.declared.fault.LineFault.TheVariants as line
use Rattle.live_lines.specs.declared.fault.RequestFault.{RequestFault}
use Rattle.live_lines.specs.declared.fault.RequestFault.TheVariants.{Syntax, Number, Literal, BadNote, TooLong}

-- the number of a fault, as for scripts and note lists
abbrev pub number_of : RequestFault → ℕ
number_of Syntax = 41
number_of Number = 42
number_of Literal = 43
number_of BadNote = 45
number_of TooLong = 47

-- the name of a fault
abbrev pub name_of : RequestFault → List ℕ
name_of Syntax = codes "Syntax"
name_of Number = codes "Number"
name_of Literal = codes "Literal"
name_of BadNote = codes "BadNote"
name_of TooLong = codes "TooLong"

-- the fault of a part of a line
abbrev pub of_line : LineFault → RequestFault
of_line line.Syntax = Syntax
of_line line.Number = Number
of_line line.Literal = Literal
