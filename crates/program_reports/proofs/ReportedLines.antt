-- Lines of the standard error.
use Rattle.std.proofs.Common.{ℕ, List, length, take_all, Option, Result, Ok, Err, sym, subst, le_refl}
use Rattle.std.specs.Io.KnownBytes.{Appends}
use Rattle.base_outputs.specs.declared.writing.WriteFault.{WriteFault}
use Rattle.base_outputs.specs.Writing.{Delivers}
use Rattle.program_reports.specs.Reporting.{WritesPrefix}

-- a prefix of a written text was written
pub prefix_written : {U : Type 0} (a b : Option (List ℕ)) (line : List ℕ) (r : Result U WriteFault)
    → Delivers a b line r → WritesPrefix a b line
prefix_written a b line (Ok u) h =
    (length line, subst (Appends a b) (sym (take_all (length line) line (le_refl _))) h)
prefix_written a b line (Err fault) h = (fault.written, h.1)
