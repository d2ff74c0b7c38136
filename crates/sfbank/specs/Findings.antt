-- What is probably a mistake in the bank of a file, as a text and in a page.
use Rattle.std.specs.Prelude.{◌≡◌, ◌⊎◌, ℕ, List, Option, Result, Ok, Err}
use Rattle.std.specs.List.{flat_map}
use Rattle.std.specs.Io.KnownBytes.{Keeps}
use Rattle.bank_parts.specs.declared.parts.Parts.{Parts}
use Rattle.show_findings.specs.declared.finding.Finding.{Finding}
use Rattle.show_findings.specs.Findings.{AreFindings}
use Rattle.show_findings.specs.Lines.{finding_line}
use Rattle.show_page.specs.Page.{page}
use Rattle.file_host.specs.declared.faults.Which.TheVariants.{Out}
use Rattle.program_reports.specs.declared.run_fault.RunFault.{RunFault}
use Rattle.sfbank.specs.FolderPlans.{bank_outcome}
use Rattle.sfbank.specs.Written.{FailsBefore, IsWritten}

-- a line for each of some findings of the bank
abbrev pub finding_lines : Parts → List Finding → List ℕ
finding_lines b findings = flat_map (finding_line b) findings

pub record ListsFindings (b : Parts) (text : List ℕ) : Type 0 where
  pub findings : List Finding
  pub are : AreFindings b findings
  pub is : text ≡ finding_lines b findings

-- the page of the bank with some findings
pub record IsPage (b : Parts) (text : List ℕ) : Type 0 where
  pub findings : List Finding
  pub are : AreFindings b findings
  pub is : text ≡ page b findings

-- the bank of a file with some findings of it, or the fault of the file
abbrev pub ReadsChecked : {X : Type 0} → (X → Parts × List Finding) → List ℕ → Result X RunFault → Type 0
ReadsChecked view file (Ok x) = (bank_outcome file ≡ Ok (view x).0) × AreFindings (view x).0 (view x).1
ReadsChecked view file (Err fault) = FailsBefore fault (bank_outcome file)

-- ---- runs with a text of the bank of a file

-- a text with this property is written
pub record WritesSome {U : Type 0} (IsText : Parts → List ℕ → Type 0) (old new : Option (List ℕ)) (file : List ℕ)
    (r : Result U RunFault) : Type 0 where
  pub bank : Parts
  pub is_bank : bank_outcome file ≡ Ok bank
  pub text : List ℕ
  pub is_text : IsText bank text
  pub writes : IsWritten Out old new text r

-- nothing is written, for the fault of the file or since an allocation failed
abbrev pub FailsUnwritten : {U : Type 0} → Option (List ℕ) → Option (List ℕ) → List ℕ → Result U RunFault → Type 0
FailsUnwritten old new file (Ok u) = ⊥
FailsUnwritten old new file (Err fault) = FailsBefore fault (bank_outcome file) × Keeps old new

-- A text with this property of the bank is written, or nothing.
abbrev pub RunsSome : {U : Type 0} → (Parts → List ℕ → Type 0) → Option (List ℕ) → Option (List ℕ) → List ℕ
    → Result U RunFault → Type 0
RunsSome IsText old new file r = FailsUnwritten old new file r ⊎ WritesSome IsText old new file r
