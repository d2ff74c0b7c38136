-- The plan of a request that writes all samples of a bank, and the zones of an instrument as the table of a kit.
use Rattle.std.specs.Prelude.{ℕ, List, codes, if◌then◌else◌, length, nat_lt, Option, Some, None, Result, Ok, Err}
use Rattle.std.specs.Path.{path_join}
use Rattle.bank_folders.specs.Laws.{files_of}
use Rattle.bank_parts.specs.declared.parts.Parts.{Parts}
use Rattle.edit_forms.specs.declared.cause.Cause.TheVariants.{NoSuchInstrument}
use Rattle.kit_of_instrument.specs.KitLines.{kit_text}
use Rattle.program_commands.specs.declared.recordings.WaveAllPaths.{WaveAllPaths}
use Rattle.program_reports.specs.declared.run_fault.RunFault.{RunFault}
use Rattle.program_reports.specs.declared.run_fault.RunFault.TheVariants as run
use Rattle.sfbank.specs.FolderPlans.{steps_with}
use Rattle.sfbank.specs.PlanParts.{Path, Action, FolderStep, SavesFolder, Why, Fails}

-- the name of the table
abbrev pub kit_file : List ℕ
kit_file = codes "kit.txt"

abbrev pub kit_path : Path → Path
kit_path folder = path_join folder kit_file

-- the table of instrument i, and a WAVE file for each sample
abbrev pub kit_steps : Path → ℕ → Parts → List FolderStep
kit_steps folder i b = steps_with folder kit_file (kit_text (files_of b) b i) b.samples

-- the instrument of the table: the one that is given, which must exist, or else the first
abbrev pub listed_instrument : Option ℕ → Parts → Result ℕ RunFault
listed_instrument None b = Ok 0
listed_instrument (Some i) b = if nat_lt i (length b.instruments) then Ok i else Err (run.NoMember NoSuchInstrument)

-- the samples of a bank are saved with the table of an instrument
abbrev pub with_instrument : WaveAllPaths → Parts → Result ℕ RunFault → Result Action Why
with_instrument p b (Ok i) = Ok (SavesFolder p.folder.now p.force (kit_steps p.folder.now i b))
with_instrument p b (Err fault) = Err (Fails p.folder.now fault)

abbrev pub with_samples : WaveAllPaths → Result Parts RunFault → Result Action Why
with_samples p (Ok b) = with_instrument p b (listed_instrument p.instrument b)
with_samples p (Err fault) = Err (Fails p.folder.now fault)
