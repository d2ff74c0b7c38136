-- A script that turns the bank of one file into the bank of another.
use Rattle.std.specs.Prelude.{◌≡◌, ◌==◌, ◌⊎◌, ℕ, Bool, true, false, List, [], Option, Some, None, Result, Ok, Err}
use Rattle.std.specs.Io.KnownBytes.{Appends, Keeps}
use Rattle.bank_parts.specs.declared.parts.Parts.{Parts}
use Rattle.bank_format.specs.declared.fault.ReadFault.{ReadFault}
use Rattle.bank_format.specs.Canon.{canon}
use Rattle.bank_format.specs.ReadChecks.{fault_of}
use Rattle.edit_forms.specs.declared.edit.Edit.{Edit}
use Rattle.edit_script.specs.Printing.{texts_of}
use Rattle.script_of_bank.specs.LeadsTo.{edits_between}
use Rattle.program_reports.specs.declared.run_fault.RunFault.{RunFault}
use Rattle.program_reports.specs.declared.run_fault.RunFault.TheVariants as run
use Rattle.file_host.specs.declared.faults.Which.TheVariants.{Out}
use Rattle.sfbank.specs.EditTexts.{edits_text}
use Rattle.sfbank.specs.Outcome.{bank_in, outcome}
use Rattle.sfbank.specs.Written.{IsWritten}

-- the banks that two files read as
pub record TwoBanks : Type 0 where
  pub first : Parts
  pub second : Parts

abbrev pub both : Parts × Parts → TwoBanks
both banks = record { first = banks.0; second = banks.1 }

-- the fault of a file, if it has one, else the result after reading it
abbrev pub after_file : {X : Type 0} → (ReadFault → RunFault) → Option ReadFault → Result X RunFault
    → Result X RunFault
after_file reported (Some f) r = Err (reported f)
after_file reported None r = r

abbrev pub if_same : Bool → TwoBanks → Result TwoBanks RunFault
if_same true banks = Ok banks
if_same false banks = Err run.OtherVersion

-- both banks, if they have the same minor version
abbrev pub of_one_version : TwoBanks → Result TwoBanks RunFault
of_one_version banks = if_same (banks.first.minor == banks.second.minor) banks

abbrev pub banks_in : List ℕ → List ℕ → TwoBanks
banks_in a b = record { first = bank_in a; second = bank_in b }

-- The first failed check of the first file, else of the second, else both banks, if their minor versions are equal.
unfoldable pub two_banks_of : List ℕ → List ℕ → Result TwoBanks RunFault
two_banks_of a b =
    after_file run.ReadFirst (fault_of a) (after_file run.ReadSecond (fault_of b) (of_one_version (banks_in a b)))

-- The text is the script of some edits of the first bank, with comments or without, or that of the edits that replace it by
-- the second.
abbrev pub IsScriptOf : Bool → Parts → Parts → List ℕ → Type 0
IsScriptOf comments x y text =
    ((es : List Edit) × (text ≡ edits_text comments x es)) ⊎ (text ≡ texts_of (edits_between x y))

-- The text, run on the first file, writes the canonical file of the second; its undo text, run on the written file,
-- writes the canonical file of the first.
pub record IsDifference (comments : Bool) (a b text : List ℕ) : Type 0 where
  pub is_script : IsScriptOf comments (bank_in a) (bank_in b) text
  pub undo : List ℕ
  pub again : List ℕ
  pub leads : outcome a text ≡ Ok (record { out = canon (bank_in b); undo = undo })
  pub returns : outcome (canon (bank_in b)) undo ≡ Ok (record { out = canon (bank_in a); undo = again })

-- a difference of two readable files is written
pub record WritesDifference {U : Type 0} (comments : Bool) (old new : Option (List ℕ)) (a b : List ℕ)
    (r : Result U RunFault) : Type 0 where
  pub is_pair : two_banks_of a b ≡ Ok (banks_in a b)
  pub text : List ℕ
  pub differs : IsDifference comments a b text
  pub writes : IsWritten Out old new text r

-- On success a difference is written; with the writer's fault, part of one. With any other fault nothing is written,
-- and any result may be replaced by out of memory before the first byte.
abbrev pub RunsDifference : {U : Type 0} → Bool → Option (List ℕ) → Option (List ℕ) → List ℕ → List ℕ
    → Result U RunFault → Type 0
RunsDifference comments old new a b (Ok u) = WritesDifference comments old new a b (Ok u)
RunsDifference comments old new a b (Err (run.Write which n)) =
    WritesDifference {U = Unit {0}} comments old new a b (Err (run.Write which n))
RunsDifference comments old new a b (Err run.Memory) = Keeps old new
RunsDifference comments old new a b (Err fault) = (two_banks_of a b ≡ Err fault) × Keeps old new

-- For two files of the same bank the script is empty.
abbrev pub WritesNothing : {U : Type 0} → Option (List ℕ) → Option (List ℕ) → List ℕ → List ℕ → Result U RunFault
    → Type 0
WritesNothing old new a b (Ok u) = bank_in a ≡ bank_in b → Appends old new []
WritesNothing old new a b (Err fault) = Unit {0}

-- both banks, or the reason why they were not read
abbrev pub ReadsTwoBanks : {X : Type 0} → (X → TwoBanks) → Result TwoBanks RunFault → Result X RunFault → Type 0
ReadsTwoBanks view pair (Ok x) = pair ≡ Ok (view x)
ReadsTwoBanks view pair (Err run.Memory) = Unit {0}
ReadsTwoBanks view pair (Err (run.Write which n)) = ⊥
ReadsTwoBanks view pair (Err fault) = pair ≡ Err fault

-- a difference of two readable files was found, or the reason why there is none
abbrev pub FindsDifference : {X : Type 0} → Bool → (X → List ℕ) → List ℕ → List ℕ → Result X RunFault → Type 0
FindsDifference comments view a b (Ok x) =
    (two_banks_of a b ≡ Ok (banks_in a b))
    × IsDifference comments a b (view x)
    × (bank_in a ≡ bank_in b → view x ≡ [])
FindsDifference comments view a b (Err run.Memory) = Unit {0}
FindsDifference comments view a b (Err (run.Write which n)) = ⊥
FindsDifference comments view a b (Err fault) = two_banks_of a b ≡ Err fault
