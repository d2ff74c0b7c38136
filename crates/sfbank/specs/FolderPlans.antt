-- The plans of requests that write a bank as a folder, or make the bank of a folder.
use Rattle.std.specs.Prelude.{ℕ, suc, true, List, [], ◌∷◌, map, codes, Some, None, Result, Ok, Err}
use Rattle.std.specs.Path.{path_join}
use Rattle.bank_parts.specs.declared.parts.Parts.{Parts}
use Rattle.bank_parts.specs.declared.parts.Sample.{Sample}
use Rattle.bank_format.specs.ReadChecks.{fault_of}
use Rattle.bank_folders.specs.declared.bare.BareSample.{BareSample}
use Rattle.bank_folders.specs.Folders.{bare_samples}
use Rattle.bank_folders.specs.SampleFiles.{sample_file}
use Rattle.edit_script.specs.declared.parsing.Line.{Line}
use Rattle.edit_script.specs.Script.{script_of}
use Rattle.file_host.specs.declared.input_fault.InputFault.{InputFault}
use Rattle.file_host.specs.World.{World}
use Rattle.program_commands.specs.declared.words.PackPaths.{PackPaths}
use Rattle.program_commands.specs.declared.words.UnpackPaths.{UnpackPaths}
use Rattle.program_reports.specs.declared.run_fault.RunFault.{RunFault}
use Rattle.wave_file.specs.SampleWave.{sample_wave}
use Rattle.sfbank.specs.BankScripts.{bare_form, form_text}
use Rattle.sfbank.specs.Folders.{lines_read, pack_outcome}
use Rattle.sfbank.specs.KitPlans.{Entry, fails_recorded, paths_of, with_waves}
use Rattle.sfbank.specs.Outcome.{after_reading, bank_in}
use Rattle.sfbank.specs.PlanParts.{Path, Action, FolderStep, MakesFolder, SavesFile, SavesFolder, Text, Why, Fails, UnreadRow}
use Rattle.sfbank.specs.PlanParts.{Inputs, apart, no_bank, put_at}

-- ---- the files of a folder

-- the name of the text of a bank
abbrev pub bank_file : List ℕ
bank_file = codes "bank.txt"

-- the path of its text
abbrev pub text_path : Path → Path
text_path folder = path_join folder bank_file

-- the folder of its WAVE files
abbrev pub samples_path : Path → Path
samples_path folder = path_join folder (codes "samples")

-- the WAVE file of a sample with this number and this name
abbrev pub sample_path : Path → ℕ → List ℕ → Path
sample_path folder number name = path_join (samples_path folder) (sample_file number name)

-- ---- a folder with WAVE files

-- a WAVE file for each sample, of which the first has the number n
abbrev pub sample_steps : Path → ℕ → List Sample → List FolderStep
sample_steps folder n [] = []
sample_steps folder n (s ∷ samples) =
    SavesFile (sample_path folder n s.name) (sample_wave s) ∷ sample_steps folder (suc n) samples

-- a text in this file, then the WAVE files
abbrev pub files_steps : Path → List ℕ → List ℕ → List Sample → List FolderStep
files_steps folder file text samples = SavesFile (path_join folder file) text ∷ sample_steps folder 0 samples

-- the folder of the WAVE files, and all files
abbrev pub inner_steps : Path → List ℕ → List ℕ → List Sample → List FolderStep
inner_steps folder file text samples = MakesFolder (samples_path folder) ∷ files_steps folder file text samples

-- the folder, and all in it
abbrev pub steps_with : Path → List ℕ → List ℕ → List Sample → List FolderStep
steps_with folder file text samples = MakesFolder folder ∷ inner_steps folder file text samples

-- ---- a bank as a folder: its script without points, with comments, and its samples

abbrev pub folder_steps : Path → Parts → List FolderStep
folder_steps folder b = steps_with folder bank_file (form_text (bare_form true) b) b.samples

-- the bank of a file, or its first failed check
abbrev pub bank_outcome : List ℕ → Result Parts RunFault
bank_outcome file = after_reading (fault_of file) (Ok (bank_in file))

-- a bank is saved as a folder
abbrev pub with_folder : UnpackPaths → Result Parts RunFault → Result Action Why
with_folder p (Ok b) = Ok (SavesFolder p.folder.now p.force (folder_steps p.folder.now b))
with_folder p (Err fault) = Err (Fails p.folder.now fault)

-- ---- the bank of a folder

abbrev pub text_entry : Path → Entry
text_entry folder = record { line = None; path = text_path folder }

abbrev pub sample_entry : Path → BareSample → Entry
sample_entry folder s = record { line = Some s.line; path = sample_path folder s.number s.name }

-- the WAVE files of the samples that lines add without points
abbrev pub entries_in : Path → List Line → List Entry
entries_in folder lines = map (sample_entry folder) (bare_samples lines)

-- the rest of the plan for the bytes of a file, or its fault
abbrev pub with_entry : Entry → Result (List ℕ) InputFault → (List ℕ → Result Action Why) → Result Action Why
with_entry e (Ok bytes) rest = rest bytes
with_entry e (Err why) rest = Err (UnreadRow e.line e.path why)

-- a bank that is packed, or why it isn't
abbrev pub with_packed : PackPaths → List Entry → World → Result (List ℕ) RunFault → Result Action Why
with_packed p entries w (Ok file) = Ok (put_at w p.out.now (Text file))
with_packed p entries w (Err fault) = fails_recorded p.out.now entries fault

-- the plan for WAVE files, which the output may not be
abbrev pub entries_plan : PackPaths → List ℕ → List (Result (List ℕ) InputFault) → World → List Entry → Result Action Why
entries_plan p text given w entries =
    apart w p.out.now (paths_of entries)
    (with_waves entries given (λ waves. with_packed p entries w (pack_outcome text waves)))

-- the WAVE files of the samples that lines add without points, or the fault of the lines
abbrev pub entries_due : Path → Result (List Line) RunFault → Result (List Entry) RunFault
entries_due folder (Ok lines) = Ok (entries_in folder lines)
entries_due folder (Err fault) = Err fault

-- the same for the lines of a text
abbrev pub entries_in_text : Path → List ℕ → Result (List Entry) RunFault
entries_in_text folder text = entries_due folder (lines_read (script_of text))

-- the plan for the WAVE files of a text, or its fault
abbrev pub lines_plan : PackPaths → List ℕ → List (Result (List ℕ) InputFault) → World → Result (List Entry) RunFault
    → Result Action Why
lines_plan p text given w (Ok entries) = entries_plan p text given w entries
lines_plan p text given w (Err fault) = Err (Fails p.out.now fault)

-- the checks of the output before anything is read
abbrev pub pack_apart : PackPaths → World → Result Action Why → Result Action Why
pack_apart p w rest = apart w p.out.now (text_path p.folder.now ∷ []) (no_bank w p.out.now p.force rest)

-- what packing does, or why it does nothing
abbrev pub pack_plan : PackPaths → Inputs → World → Result Action Why
pack_plan p inputs w =
    pack_apart p w
    (with_entry (text_entry p.folder.now) inputs.first (λ text. lines_plan p text inputs.others w (entries_in_text p.folder.now text)))

-- the WAVE files that are read
abbrev pub entries_or_none : Result (List Entry) RunFault → List Entry
entries_or_none (Ok entries) = entries
entries_or_none (Err fault) = []

abbrev pub entries_of_text : Path → Result (List ℕ) InputFault → List Entry
entries_of_text folder (Ok text) = entries_or_none (entries_in_text folder text)
entries_of_text folder (Err why) = []
