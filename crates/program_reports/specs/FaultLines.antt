-- The lines that report faults, and the exit status of a run's fault.
use Rattle.std.specs.Prelude.{ℕ, List, [], ◌∷◌, ◌++◌, codes, decimal, string_bytes, Option, Some, None}
use Rattle.std.specs.List.{concat}
use Rattle.bank_format.specs.declared.fault.ReadFault.{ReadFault}
use Rattle.bank_format.specs.FaultNames as reading
use Rattle.script_tokens.specs.declared.fault.ScriptFault.{ScriptFault}
use Rattle.script_tokens.specs.Faults as scripts
use Rattle.script_notes.specs.declared.fault.NoteFault.{NoteFault}
use Rattle.script_notes.specs.Faults as notes
use Rattle.kit_tables.specs.declared.fault.KitFault.{KitFault}
use Rattle.kit_tables.specs.Faults as tables
use Rattle.wave_file.specs.declared.fault.WaveFault.{WaveFault}
use Rattle.wave_file.specs.FaultNames as recordings
use Rattle.bank_validity.specs.declared.limits.Limit.{Limit}
use Rattle.edit_forms.specs.declared.cause.Cause.{Cause}
use Rattle.edit_forms.specs.declared.cause.Cause.TheVariants as cause
use Rattle.edit_refusals.specs.declared.refusal.Refusal.{Refusal}
use Rattle.edit_refusals.specs.declared.refusal.Refusal.TheVariants.{Of}
use Rattle.edit_forms.specs.CauseNames as causes
use Rattle.edit_script.specs.RefusalText.{refusal_text}
use Rattle.plan_presets.specs.declared.fault.PresetFault.{PresetFault}
use Rattle.plan_presets.specs.declared.numbers.PresetNumbers.{PresetNumbers}
use Rattle.plan_presets.specs.PresetFaults as presets
use Rattle.base_outputs.specs.declared.output_fault.OutputFault.{OutputFault}
use Rattle.base_outputs.specs.OutputFaults as rejected
use Rattle.program_explanations.specs.Explanations as explanations
use Rattle.program_explanations.specs.declared.explanations.FaultCode.TheVariants as code
use Rattle.program_reports.specs.declared.fault.RowPath.{RowPath}
use Rattle.program_reports.specs.declared.run_fault.RunFault.{RunFault}
use Rattle.program_reports.specs.declared.run_fault.RunFault.TheVariants.{Read, ReadFirst, ReadSecond, ReadFrom, Script}
use Rattle.program_reports.specs.declared.run_fault.RunFault.TheVariants.{Refused, NotNeutral, OtherVersion, Notes}
use Rattle.program_reports.specs.declared.run_fault.RunFault.TheVariants.{Recording, NoMember, Presets, Full, PlanFailed, Write}
use Rattle.program_reports.specs.declared.run_fault.RunFault.TheVariants.{Memory, Table, InRecording}

-- a line that ends with a number and a name
abbrev pub named_line : List ℕ → ℕ → List ℕ → List ℕ
named_line start number name = concat (start ∷ decimal number ∷ codes " " ∷ name ∷ codes "\n" ∷ [])

-- a read fault, by its number and its name
abbrev pub read_text : ReadFault → List ℕ
read_text fault = named_line (codes "read fault ") (reading.number_of fault) (reading.name_of fault)

abbrev pub read_line : ReadFault → List ℕ
read_line fault = codes "sfbank: " ++ read_text fault

-- a read fault of the first or the second of two files
abbrev pub first_read_line : ReadFault → List ℕ
first_read_line fault = codes "sfbank: A: " ++ read_text fault

abbrev pub second_read_line : ReadFault → List ℕ
second_read_line fault = codes "sfbank: B: " ++ read_text fault

-- a read fault of the bank to copy from
abbrev pub from_read_line : ReadFault → List ℕ
from_read_line fault = codes "sfbank: FROM: " ++ read_text fault

-- a fault in a line of a text, by its number and its name
abbrev pub text_line : ℕ → ℕ → List ℕ → List ℕ
text_line line number name =
    concat
    (codes "sfbank: line " ∷ decimal line ∷ codes ": fault " ∷ decimal number ∷ codes " " ∷ name ∷ codes "\n"
    ∷ [])

abbrev pub script_line : ScriptFault → List ℕ
script_line fault = text_line (scripts.line_of fault) (scripts.number_of fault) (scripts.name_of fault)

abbrev pub notes_line : NoteFault → List ℕ
notes_line fault = text_line (notes.line_of fault) (notes.number_of fault) (notes.name_of fault)

abbrev pub table_line : KitFault → List ℕ
table_line fault = text_line (tables.line_of fault) (tables.number_of fault) (tables.name_of fault)

-- a line that is refused
abbrev pub refused_start : ℕ → List ℕ
refused_start line = concat (codes "sfbank: line " ∷ decimal line ∷ codes ": refused" ∷ [])

-- the same, and why
abbrev pub refused_line : ℕ → Refusal → List ℕ
refused_line line why = refused_start line ++ (refusal_text why ++ codes "\n")

-- a line that is not neutral, in a run that accepts neutral edits only
abbrev pub not_neutral_line : ℕ → List ℕ
not_neutral_line line = concat (codes "sfbank: line " ∷ decimal line ∷ codes ": refused 50 NotNeutral\n" ∷ [])

-- a fault of a WAVE file, by its number and its name
abbrev pub recording_line : WaveFault → List ℕ
recording_line fault = named_line (codes "sfbank: wave fault ") (recordings.number_of fault) (recordings.name_of fault)

-- a fault of a WAVE file after the text that begins its line
abbrev pub recording_text : WaveFault → List ℕ
recording_text fault = named_line (codes "wave fault ") (recordings.number_of fault) (recordings.name_of fault)

-- a fault of one of several recordings, by its number
abbrev pub in_recording_line : ℕ → WaveFault → List ℕ
in_recording_line number fault =
    concat (codes "sfbank: recording " ∷ decimal number ∷ codes ": " ∷ []) ++ recording_text fault

-- the line of the table that names a recording, if one does
abbrev pub row_start : Option ℕ → List ℕ
row_start (Some line) = concat (codes "sfbank: line " ∷ decimal line ∷ codes ": " ∷ [])
row_start None = codes "sfbank: "

-- a recording that can't be read whole
abbrev pub row_file_line : RowPath → List ℕ
row_file_line row = row_start row.line ++ concat (codes "file fault " ∷ string_bytes row.path ∷ codes "\n" ∷ [])

-- a recording that can't be imported
abbrev pub row_recording_line : RowPath → WaveFault → List ℕ
row_recording_line row fault = row_start row.line ++ (concat (string_bytes row.path ∷ codes ": " ∷ []) ++ recording_text fault)

-- a preset, instrument or sample that does not exist, in a command without script lines
abbrev pub no_member_line : Cause → List ℕ
no_member_line cause = named_line (codes "sfbank: refused ") (causes.number_of cause) (causes.name_of cause)

-- a preset that can't be kept or copied, by the number and the name of the fault, and its MIDI numbers
abbrev pub preset_text : ℕ → List ℕ → PresetNumbers → List ℕ
preset_text fault name numbers =
    concat
    (codes "sfbank: refused " ∷ decimal fault ∷ codes " " ∷ name ∷ codes " " ∷ decimal numbers.bank ∷ codes ":"
    ∷ decimal numbers.number ∷ codes "\n" ∷ [])

abbrev pub preset_line : PresetFault → List ℕ
preset_line fault = preset_text (presets.number_of fault) (presets.name_of fault) (presets.numbers_of fault)

-- the limit that a bank would exceed, in a command without script lines
abbrev pub full_line : Limit → List ℕ
full_line limit = codes "sfbank: refused" ++ (refusal_text (Of (cause.Full limit)) ++ codes "\n")

abbrev pub write_line : List ℕ → ℕ → List ℕ
write_line path written =
    concat (codes "sfbank: write fault " ∷ path ∷ codes " after " ∷ decimal written ∷ codes " bytes\n" ∷ [])

-- an input that can't be read whole
abbrev pub file_line : List ℕ → List ℕ
file_line path = concat (codes "sfbank: file fault " ∷ path ∷ codes "\n" ∷ [])

-- a line that ends with a number, a name and a path
abbrev pub path_line : List ℕ → ℕ → List ℕ → List ℕ → List ℕ
path_line start number name path =
    concat (start ∷ decimal number ∷ codes " " ∷ name ∷ codes " " ∷ path ∷ codes "\n" ∷ [])

-- an output that is rejected, by the number and the name of the fault, and its path
abbrev pub rejected_line : ℕ → List ℕ → List ℕ → List ℕ
rejected_line number name path = path_line (codes "sfbank: output fault ") number name path

abbrev pub output_line : List ℕ → OutputFault → List ℕ
output_line path fault = rejected_line (rejected.number_of fault) (rejected.name_of fault) path

-- a folder that is there already
abbrev pub folder_there_line : List ℕ → List ℕ
folder_there_line path =
    rejected_line (explanations.number_of code.FolderThere) (explanations.name_of code.FolderThere) path

-- a bank that has findings
abbrev pub has_findings_line : List ℕ → List ℕ
has_findings_line path =
    path_line (codes "sfbank: check fault ") (explanations.number_of code.HasFindings)
    (explanations.name_of code.HasFindings) path

-- a number, or a name, that no fault and no refusal has
abbrev pub no_number_line : ℕ → List ℕ
no_number_line number =
    concat (codes "error: no fault and no refusal has the number " ∷ decimal number ∷ codes "\n" ∷ [])

abbrev pub no_name_line : List ℕ → List ℕ
no_name_line name = concat (codes "error: no fault and no refusal has the name " ∷ name ∷ codes "\n" ∷ [])

-- the line of a run's fault, with its line feed; a write fault has the path
unfoldable pub fault_line : List ℕ → RunFault → List ℕ
fault_line path (Read fault) = read_line fault
fault_line path (ReadFirst fault) = first_read_line fault
fault_line path (ReadSecond fault) = second_read_line fault
fault_line path (ReadFrom fault) = from_read_line fault
fault_line path (Script fault) = script_line fault
fault_line path (Refused line why) = refused_line line why
fault_line path (NotNeutral line) = not_neutral_line line
fault_line path OtherVersion = codes "sfbank: refused 51 OtherVersion\n"
fault_line path (Notes fault) = notes_line fault
fault_line path (Table fault) = table_line fault
fault_line path (Recording fault) = recording_line fault
fault_line path (InRecording number fault) = in_recording_line number fault
fault_line path (NoMember cause) = no_member_line cause
fault_line path (Presets fault) = preset_line fault
fault_line path (Full limit) = full_line limit
fault_line path PlanFailed = codes "sfbank: plan fault 66 PlanFailed\n"
fault_line path (Write which written) = write_line path written
fault_line path Memory = codes "sfbank: out of memory\n"

-- the exit status of a run's fault
abbrev pub status_of : RunFault → ℕ
status_of (Read fault) = 2
status_of (ReadFirst fault) = 2
status_of (ReadSecond fault) = 2
status_of (ReadFrom fault) = 2
status_of (Script fault) = 3
status_of (Refused line why) = 4
status_of (NotNeutral line) = 4
status_of OtherVersion = 4
status_of (Notes fault) = 3
status_of (Table fault) = 3
status_of (Recording fault) = 2
status_of (InRecording number fault) = 2
status_of (NoMember cause) = 4
status_of (Presets fault) = 4
status_of (Full limit) = 4
status_of (Write which written) = 5
status_of Memory = 6
status_of PlanFailed = 7
