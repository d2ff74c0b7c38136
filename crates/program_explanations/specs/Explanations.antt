-- The number and name of each fault and refusal, and the text that explains one.
use Rattle.std.specs.Prelude.{◌≡◌, ℕ, List, ◌++◌, Bool, IsTrue, All, Any, map, codes, decimal}
use Rattle.std.specs.List.{join_by}
use Rattle.std.specs.List.Sorted.{IsStrictlyIncreasing}
use Rattle.std.specs.Str.{str_eq_ignore_ascii_case}
use Rattle.bank_format.specs.FaultNames as reading
use Rattle.script_tokens.specs.Faults as scripts
use Rattle.script_notes.specs.Faults as notes
use Rattle.kit_tables.specs.Faults as tables
use Rattle.wave_file.specs.FaultNames as recordings
use Rattle.base_outputs.specs.OutputFaults as outputs
use Rattle.plan_presets.specs.PresetFaults as presets
use Rattle.edit_refusals.specs.RefusalNames as refusals
use Rattle.program_explanations.specs.declared.explanations.FaultCode.{FaultCode}
use Rattle.program_explanations.specs.declared.explanations.FaultCode.TheVariants.{Reading, Script, Notes, Recording, Output}
use Rattle.program_explanations.specs.declared.explanations.FaultCode.TheVariants.{Refused, NotNeutral, OtherVersion}
use Rattle.program_explanations.specs.declared.explanations.FaultCode.TheVariants.{Presets, PlanFailed, Table, FolderThere, HasFindings}
use Rattle.program_explanations.specs.declared.explanations.Explanation.{Explanation}

-- the number of each fault and refusal, as its own crate defines it
abbrev pub number_of : FaultCode → ℕ
number_of (Reading fault) = reading.number_of fault
number_of (Script fault) = scripts.number_of fault
number_of (Notes fault) = notes.number_of fault
number_of (Table fault) = tables.number_of fault
number_of (Recording fault) = recordings.number_of fault
number_of (Output fault) = outputs.number_of fault
number_of (Refused why) = refusals.refusal_number why
number_of NotNeutral = 50
number_of OtherVersion = 51
number_of (Presets fault) = presets.number_of fault
number_of PlanFailed = 66
number_of FolderThere = 81
number_of HasFindings = 82

-- the name of each fault and refusal, as its own crate defines it
abbrev pub name_of : FaultCode → List ℕ
name_of (Reading fault) = reading.name_of fault
name_of (Script fault) = scripts.name_of fault
name_of (Notes fault) = notes.name_of fault
name_of (Table fault) = tables.name_of fault
name_of (Recording fault) = recordings.name_of fault
name_of (Output fault) = outputs.name_of fault
name_of (Refused why) = refusals.refusal_name why
name_of NotNeutral = codes "NotNeutral"
name_of OtherVersion = codes "OtherVersion"
name_of (Presets fault) = presets.name_of fault
name_of PlanFailed = codes "PlanFailed"
name_of FolderThere = codes "FolderThere"
name_of HasFindings = codes "HasFindings"

-- some fault or refusal has the number that is asked for, and this number and name are its own
abbrev pub IsOfNumber : ℕ → ℕ → List ℕ → Type 0
IsOfNumber asked number name = (code : FaultCode) × (number_of code ≡ asked) × (number ≡ asked) × (name ≡ name_of code)

-- whether a fault or refusal has this name, but for the case of ASCII letters
abbrev pub is_named : List ℕ → FaultCode → Bool
is_named name code = str_eq_ignore_ascii_case (name_of code) name

-- the explanation has the number and the name of this fault or refusal
abbrev pub Explains : FaultCode → Explanation → Type 0
Explains code e = (e.number ≡ number_of code) × (e.name.now ≡ name_of code)

-- one explanation of each fault or refusal, in their order
pub record ExplainInTurn (codes : List FaultCode) (found : List Explanation) : Type 0 where
  pub numbers : map (λ e. e.number) found ≡ map number_of codes
  pub names : map (λ e. e.name.now) found ≡ map name_of codes

-- the explanations of exactly the faults and refusals with this name, each number once
pub record AreOfName (name : List ℕ) (found : List Explanation) : Type 0 where
  pub sound : All (λ e. (code : FaultCode) × IsTrue (is_named name code) × Explains code e) found
  pub complete : (code : FaultCode) → IsTrue (is_named name code) → Any (Explains code) found
  pub rising : IsStrictlyIncreasing (map (λ e. e.number) found)

-- a text and a line feed
abbrev pub line_of : List ℕ → List ℕ
line_of text = text ++ codes "\n"

-- an explanation in three lines: the number and name, the meaning, and what to do
abbrev pub explanation_text : Explanation → List ℕ
explanation_text e =
    decimal e.number ++ (codes " " ++ (line_of e.name.now ++ (line_of e.meaning.now ++ line_of e.what_to_do.now)))

-- an empty line and an explanation
abbrev pub next_text : Explanation → List ℕ
next_text e = codes "\n" ++ explanation_text e

-- explanations, with an empty line between two
abbrev pub explanations_text : List Explanation → List ℕ
explanations_text = join_by explanation_text (codes "\n")
