-- The number, the name and the line of a note list's fault.
use Rattle.std.specs.Prelude.{ℕ, List, codes}
use Rattle.script_notes.specs.declared.fault.NoteFault.{NoteFault}
use Rattle.script_notes.specs.declared.fault.NoteFault.TheVariants.{BadNote, TooManyNotes, TooLong}

-- the number of each kind of fault
abbrev pub number_of : NoteFault → ℕ
number_of (BadNote line) = 45
number_of (TooManyNotes line) = 46
number_of (TooLong line) = 47

-- the name of each kind of fault
abbrev pub name_of : NoteFault → List ℕ
name_of (BadNote line) = codes "BadNote"
name_of (TooManyNotes line) = codes "TooManyNotes"
name_of (TooLong line) = codes "TooLong"

-- the faulty line
abbrev pub line_of : NoteFault → ℕ
line_of (BadNote line) = line
line_of (TooManyNotes line) = line
line_of (TooLong line) = line
