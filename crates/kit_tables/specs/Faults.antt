-- The number, the name and the line of a table's fault.
use Rattle.std.specs.Prelude.{ℕ, List, codes}
use Rattle.kit_tables.specs.declared.fault.KitFault.{KitFault}
use Rattle.kit_tables.specs.declared.fault.KitFault.TheVariants.{BadRow, TooManyRows, NoRows}

-- the number of each kind of fault
abbrev pub number_of : KitFault → ℕ
number_of (BadRow line) = 75
number_of (TooManyRows line) = 76
number_of (NoRows line) = 77

-- the name of each kind of fault
abbrev pub name_of : KitFault → List ℕ
name_of (BadRow line) = codes "BadRow"
name_of (TooManyRows line) = codes "TooManyRows"
name_of (NoRows line) = codes "NoRows"

-- the faulty line
abbrev pub line_of : KitFault → ℕ
line_of (BadRow line) = line
line_of (TooManyRows line) = line
line_of (NoRows line) = line
