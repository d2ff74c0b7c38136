-- What follows the line of a fault where it is explained.
use Rattle.std.specs.Prelude.{◌≡◌, ℕ, List, [], ◌∷◌, ◌++◌, codes, Option, Some, None}
use Rattle.std.specs.List.{concat}
use Rattle.edit_refusals.specs.declared.refusal.Refusal.TheVariants.{Of}
use Rattle.edit_forms.specs.declared.cause.Cause.TheVariants as cause
use Rattle.file_host.specs.InputFaults.{reason_of}
use Rattle.program_explanations.specs.Explanations.{number_of, name_of}
use Rattle.program_explanations.specs.declared.explanations.Explanation.{Explanation}
use Rattle.program_explanations.specs.declared.explanations.FaultCode.{FaultCode}
use Rattle.program_explanations.specs.declared.explanations.FaultCode.TheVariants as code
use Rattle.program_reports.specs.declared.details.Details.{Details}
use Rattle.program_reports.specs.declared.details.Advice.{Advice}
use Rattle.program_reports.specs.declared.details.Advice.TheVariants.{Nothing, Line, Explained}
use Rattle.program_reports.specs.declared.fault.Fault.{Fault}
use Rattle.program_reports.specs.declared.fault.Fault.TheVariants.{File, FolderThere, HasFindings, Output, RowFile}
use Rattle.program_reports.specs.declared.fault.Fault.TheVariants.{RowRecording, Run}
use Rattle.program_reports.specs.declared.run_fault.RunFault.{RunFault}
use Rattle.program_reports.specs.declared.run_fault.RunFault.TheVariants.{Read, ReadFirst, ReadSecond, ReadFrom, Script}
use Rattle.program_reports.specs.declared.run_fault.RunFault.TheVariants.{Refused, NotNeutral, OtherVersion, Notes}
use Rattle.program_reports.specs.declared.run_fault.RunFault.TheVariants.{Recording, NoMember, Presets, Full, PlanFailed, Write}
use Rattle.program_reports.specs.declared.run_fault.RunFault.TheVariants.{Memory, Table, InRecording}

-- the code of a run's fault, under which `explain` has it; a failed write and a failed allocation have none
abbrev pub code_of : RunFault → Option FaultCode
code_of (Read fault) = Some (code.Reading fault)
code_of (ReadFirst fault) = Some (code.Reading fault)
code_of (ReadSecond fault) = Some (code.Reading fault)
code_of (ReadFrom fault) = Some (code.Reading fault)
code_of (Script fault) = Some (code.Script fault)
code_of (Refused line why) = Some (code.Refused why)
code_of (NotNeutral line) = Some code.NotNeutral
code_of OtherVersion = Some code.OtherVersion
code_of (Notes fault) = Some (code.Notes fault)
code_of (Table fault) = Some (code.Table fault)
code_of (Recording fault) = Some (code.Recording fault)
code_of (InRecording number fault) = Some (code.Recording fault)
code_of (NoMember cause) = Some (code.Refused (Of cause))
code_of (Presets fault) = Some (code.Presets fault)
code_of (Full limit) = Some (code.Refused (Of (cause.Full limit)))
code_of PlanFailed = Some code.PlanFailed
code_of (Write which written) = None
code_of Memory = None

-- an indented line
abbrev pub indented : List ℕ → List ℕ
indented text = concat (codes "  " ∷ text ∷ codes "\n" ∷ [])

-- the text of an advice: nothing, a line, or what a fault means and what to do about it
abbrev pub advice_text : Advice → List ℕ
advice_text Nothing = []
advice_text (Line text) = indented text.now
advice_text (Explained e) = indented e.meaning.now ++ indented e.what_to_do.now

abbrev pub details_text : Details → List ℕ
details_text details = details.remarks.now ++ advice_text details.advice

-- the advice is the explanation of this code, or some line if there is no code
abbrev pub IsExplained : Option FaultCode → List ℕ → Type 0
IsExplained (Some code) text =
    (e : Explanation) × (e.number ≡ number_of code) × (e.name.now ≡ name_of code) × (text ≡ advice_text (Explained e))
IsExplained None text = (line : List ℕ) × (text ≡ indented line)

-- The advice on a fault: the reason why an input can't be read, and the explanation of any other fault with a number.
abbrev pub IsAdvice : Fault → List ℕ → Type 0
IsAdvice (File path why) text = text ≡ indented (reason_of why)
IsAdvice (RowFile row why) text = text ≡ indented (reason_of why)
IsAdvice (RowRecording row fault) text = IsExplained (Some (code.Recording fault)) text
IsAdvice (Output fault path) text = IsExplained (Some (code.Output fault)) text
IsAdvice (FolderThere path) text = IsExplained (Some code.FolderThere) text
IsAdvice (HasFindings path) text = IsExplained (Some code.HasFindings) text
IsAdvice (Run fault path) text = IsExplained (code_of fault) text
IsAdvice fault text = text ≡ []

-- The details of a fault: remarks, such as the line of a script that it is about, which are not specified, and advice.
abbrev pub AreDetails : Fault → List ℕ → Type 0
AreDetails fault text = (remarks : List ℕ) × (advice : List ℕ) × IsAdvice fault advice × (text ≡ remarks ++ advice)
