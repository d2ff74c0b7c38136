-- The number and the name of each fault of an output.
use Rattle.std.specs.Prelude.{ℕ, List, codes}
use Rattle.base_outputs.specs.declared.output_fault.OutputFault.{OutputFault}
use Rattle.base_outputs.specs.declared.output_fault.OutputFault.TheVariants.{SameFile, HoldsBank}

abbrev pub number_of : OutputFault → ℕ
number_of SameFile = 64
number_of HoldsBank = 65

abbrev pub name_of : OutputFault → List ℕ
name_of SameFile = codes "SameFile"
name_of HoldsBank = codes "HoldsBank"
