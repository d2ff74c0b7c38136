-- Which outputs are rejected before anything is read.
use Rattle.std.specs.Prelude.{◌≡◌, ◌≢◌, ◌⊎◌, ◌&&◌, ℕ, List, take, drop, codes, Option, Some, None, Result, Ok, Err}
use Rattle.std.specs.Prelude.{Bool, true, false, not, bytes_eq, ⊤}
use Rattle.std.specs.List.{list_any}
use Rattle.base_outputs.specs.declared.output_fault.OutputFault.{OutputFault}
use Rattle.base_outputs.specs.declared.output_fault.OutputFault.TheVariants.{SameFile, HoldsBank}
use Rattle.sf_base.specs.declared.memory.Failure.{Failure}
use Rattle.sf_base.specs.declared.memory.Failure.TheVariants.{Fault, OutOfMemory}
use Rattle.file_host.specs.declared.input_fault.InputFault.{InputFault}
use Rattle.file_host.specs.declared.input_fault.InputFault.TheVariants.{NotFound}
use Rattle.file_host.specs.World.{World, held_at, place_of, stores_at}

-- Two paths lead to one file, which can't be two files of one run. A character device can.
abbrev pub is_one_file : World → List ℕ → List ℕ → Bool
is_one_file world one other =
    bytes_eq (place_of world one) (place_of world other) && not (world.paths.is_shared (place_of world one))

-- the output is one file with one of the others
abbrev pub is_one_of : World → List ℕ → List (List ℕ) → Bool
is_one_of world output others = list_any (is_one_file world output) others

-- these bytes begin as a bank does: `RIFF`, a length of four bytes, `sfbk`
abbrev pub begins_as_bank : List ℕ → Bool
begins_as_bank bytes = bytes_eq (take 4 bytes) (codes "RIFF") && bytes_eq (take 4 (drop 8 bytes)) (codes "sfbk")

abbrev pub looks_as_bank : Result (List ℕ) InputFault → Bool
looks_as_bank (Ok bytes) = begins_as_bank bytes
looks_as_bank (Err fault) = false

-- a regular file at this path begins as a bank
abbrev pub is_bank_at : World → List ℕ → Bool
is_bank_at world path = stores_at world path && looks_as_bank (held_at world path)

-- A file is at this path, but can't be read to its end.
pub record IsUnreadable (world : World) (path : List ℕ) : Type 0 where
  pub why : InputFault
  pub held : held_at world path ≡ Err why
  pub there : why ≢ NotFound

-- ---- what a host finds of a world, as far as it is known

abbrev pub IsOneFile : Option World → List ℕ → List ℕ → Bool → Type 0
IsOneFile None one other found = ⊤
IsOneFile (Some world) one other found = found ≡ is_one_file world one other

abbrev pub IsOutput : Option World → List ℕ → Bool → Type 0
IsOutput None path found = ⊤
IsOutput (Some world) path found = found ≡ world.paths.is_output path

-- a file that can't be read to its end may begin as a bank
abbrev pub HasBank : Option World → List ℕ → Bool → Type 0
HasBank None path found = ⊤
HasBank (Some world) path true = (is_bank_at world path ≡ true) ⊎ IsUnreadable world path
HasBank (Some world) path false = is_bank_at world path ≡ false

-- ---- checks of outputs

-- a check rejects with this fault where the test holds, or an allocation failed
abbrev pub RejectsIf : {U : Type 0} → Bool → OutputFault → Result U (Failure OutputFault) → Type 0
RejectsIf test why (Ok u) = test ≡ false
RejectsIf test why (Err (Fault fault)) = (test ≡ true) × (fault ≡ why)
RejectsIf test why (Err OutOfMemory) = ⊤

-- the output is one file with none of the others
abbrev pub IsApart : {U : Type 0} → Option World → List ℕ → List (List ℕ) → Result U (Failure OutputFault) → Type 0
IsApart None output others result = ⊤
IsApart (Some world) output others result = RejectsIf (is_one_of world output others) SameFile result

-- the output replaces no bank; a file that can't be read to its end may count as one
abbrev pub ReplacesNoBank : {U : Type 0} → World → List ℕ → Result U (Failure OutputFault) → Type 0
ReplacesNoBank world output (Ok u) = is_bank_at world output ≡ false
ReplacesNoBank world output (Err (Fault fault)) =
    (fault ≡ HoldsBank) × ((is_bank_at world output ≡ true) ⊎ IsUnreadable world output)
ReplacesNoBank world output (Err OutOfMemory) = ⊤

-- the same, but with `force` it may replace one
abbrev pub IsNoBank : {U : Type 0} → Option World → List ℕ → Bool → Result U (Failure OutputFault) → Type 0
IsNoBank None output force result = ⊤
IsNoBank (Some world) output true result = RejectsIf false HoldsBank result
IsNoBank (Some world) output false result = ReplacesNoBank world output result
