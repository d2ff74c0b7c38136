-- How a fault is reported: a line on the standard error, details after it, and an exit status.
use Rattle.std.specs.Prelude.{◌≡◌, ℕ, List, [], ◌++◌, codes, take, Bool, true, false, Option, ◌⊎◌}
use Rattle.std.specs.Io.KnownBytes.{Appends, Keeps}
use Rattle.program_reports.specs.Details.{AreDetails}
use Rattle.program_reports.specs.FaultLines as lines
use Rattle.program_reports.specs.declared.fault.Fault.{Fault}
use Rattle.program_reports.specs.declared.fault.Fault.TheVariants.{Words, NotText, NoNumber, NoName, File, Output, Run}
use Rattle.program_reports.specs.declared.fault.Fault.TheVariants.{FolderThere, HasFindings, PipeClosed, RowFile, RowRecording}

-- the exit status of a fault
abbrev pub status_of : Fault → ℕ
status_of (Words error) = 1
status_of NotText = 1
status_of (NoNumber number) = 1
status_of (NoName name) = 1
status_of (File path why) = 5
status_of (RowFile row why) = 5
status_of (RowRecording row fault) = 2
status_of (Output fault path) = 5
status_of (FolderThere path) = 5
status_of (HasFindings path) = 7
status_of (Run fault path) = lines.status_of fault
status_of PipeClosed = 5

-- The line of a fault. A pipe that its reader closed is not reported, and clap's text for rejected arguments is not
-- specified.
unfoldable pub line_of : Fault → List ℕ
line_of (Words error) = []
line_of NotText = codes "error: a word is not text\n"
line_of (NoNumber number) = lines.no_number_line number
line_of (NoName name) = lines.no_name_line name.now
line_of (File path why) = lines.file_line path.now
line_of (RowFile row why) = lines.row_file_line row
line_of (RowRecording row fault) = lines.row_recording_line row fault
line_of (Output fault path) = lines.output_line path.now fault
line_of (FolderThere path) = lines.folder_there_line path.now
line_of (HasFindings path) = lines.has_findings_line path.now
line_of (Run fault path) = lines.fault_line path.now fault
line_of PipeClosed = []

-- a prefix of the text is written: all of it, or less if a write fails
abbrev pub WritesPrefix : Option (List ℕ) → Option (List ℕ) → List ℕ → Type 0
WritesPrefix old new text = (written : ℕ) × Appends old new (take written text)

-- clap rejects the arguments
abbrev pub is_words : Fault → Bool
is_words (Words error) = true
is_words fault = false

-- what is shown after the line: the details if the fault is explained, else nothing
abbrev pub AreShown : Bool → Fault → List ℕ → Type 0
AreShown true fault details = AreDetails fault details
AreShown false fault details = details ≡ []

-- The line of the fault is written, and what is shown after it, or a prefix of them. So the line is the same whether the
-- fault is explained or not.
abbrev pub Reports : Bool → Option (List ℕ) → Option (List ℕ) → Fault → Type 0
Reports explains old new fault =
    is_words fault ≡ false
    → (details : List ℕ) × AreShown explains fault details × WritesPrefix old new (line_of fault ++ details)

-- A run that succeeds writes nothing, with status 0. Any other reports its fault, with the fault's status.
abbrev pub Ends : Bool → Option (List ℕ) → Option (List ℕ) → ℕ → Type 0
Ends explains old new status =
    ((status ≡ 0) × Keeps old new) ⊎ ((fault : Fault) × (status ≡ status_of fault) × Reports explains old new fault)
