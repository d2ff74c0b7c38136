-- The plan of a request that imports several recordings.
use Rattle.std.specs.Prelude.{◌-◌, ℕ, List, [], ◌∷◌, map, take, slice_get, codes, bytes_eq, if◌then◌else◌}
use Rattle.std.specs.Prelude.{Option, Some, None, Result, Ok, Err}
use Rattle.std.specs.Borrow.{Bor}
use Rattle.std.specs.List.{AllZip, enumerate_from, zip}
use Rattle.std.specs.Option.{option_map, unwrap_or}
use Rattle.std.specs.Path.{path_join, path_parent}
use Rattle.sf_base.specs.Names.{before_zero}
use Rattle.file_host.specs.declared.input_fault.InputFault.{InputFault}
use Rattle.file_host.specs.World.{World}
use Rattle.kit_tables.specs.declared.fault.KitFault.{KitFault}
use Rattle.kit_tables.specs.declared.zone.KitZone.{KitZone}
use Rattle.kit_tables.specs.Zones.{whole}
use Rattle.kit_tables.specs.Rows.{Row, rows_of}
use Rattle.kit_tables.specs.Files.{NamedFile, files_of, index_among}
use Rattle.kit_edits.specs.declared.kit.KitMembers.{KitMembers}
use Rattle.kit_edits.specs.declared.kit.KitPreset.{KitPreset}
use Rattle.program_commands.specs.declared.kits.KitPaths.{KitPaths}
use Rattle.program_commands.specs.declared.kits.KitSource.{KitSource}
use Rattle.program_commands.specs.declared.kits.KitSource.TheVariants.{Files, Table}
use Rattle.program_commands.specs.declared.kits.NewPreset.{NewPreset}
use Rattle.program_reports.specs.declared.run_fault.RunFault.{RunFault}
use Rattle.program_reports.specs.declared.run_fault.RunFault.TheVariants as run
use Rattle.wave_file.specs.declared.fault.WaveFault.{WaveFault}
use Rattle.sfbank.specs.Outcome.{Done}
use Rattle.sfbank.specs.Kits.{Source, kit_outcome}
use Rattle.sfbank.specs.declared.program.kits.KitWork.{KitWork}
use Rattle.sfbank.specs.PlanParts.{Path, Action, Why, Fails, FailsRow, UnreadRow, SavesBoth, Known, Inputs}
use Rattle.sfbank.specs.PlanParts.{GivesInput, apart, name_in, no_bank, with_input}

-- ---- what is listed

-- a recording: the number of the line that names it first, if it is on a table, and its path
pub record Entry : Type 0 where
  pub line : Option ℕ
  pub path : Path

-- recordings, and zones, each with the number of its recording
pub record Listing : Type 0 where
  pub entries : List Entry
  pub zones : List (ℕ × KitZone)

abbrev pub paths_of : List Entry → List Path
paths_of entries = map (λ (e : Entry). e.path) entries

abbrev pub word_entry : Bor Path → Entry
word_entry path = record { line = None; path = path.now }

abbrev pub word_zone : ℕ × Bor Path → ℕ × KitZone
word_zone numbered = (numbered.0, whole)

-- recordings that words name, each with a zone of all keys
abbrev pub listing_of_words : List (Bor Path) → Listing
listing_of_words paths = record {
  entries = map word_entry paths;
  zones = map word_zone (enumerate_from 0 paths);
}

-- the folder of a table: none for one from the standard input
abbrev pub folder_of : Path → Path
folder_of table = if bytes_eq table (codes "/dev/stdin") then [] else unwrap_or (path_parent table) []

-- a file of a table, whose path begins at this folder
abbrev pub entry_at : Path → NamedFile → Entry
entry_at folder f = record { line = Some f.line; path = path_join folder f.path }

-- the recordings of a table, whose paths begin at its folder, and a zone for each line
abbrev pub listing_of_rows : Path → List Row → Listing
listing_of_rows table rows = record {
  entries = map (entry_at (folder_of table)) (files_of rows);
  zones = map (λ (r : Row). (index_among (files_of rows) r, r.zone)) rows;
}

-- ---- the instrument and the preset

-- the instrument has the name that is given, or else that of the preset, or else this one, if there is one
abbrev pub first_name : Option (List ℕ) → Option NewPreset → Option (List ℕ) → Option (List ℕ)
first_name (Some name) preset other = Some name
first_name None (Some preset) other = Some preset.name
first_name None None other = other

-- the first 20 bytes, up to the first zero byte
abbrev pub cut_name : List ℕ → List ℕ
cut_name stem = before_zero (take 20 stem)

-- the name of a table's file without its extension
abbrev pub table_name : Path → List ℕ
table_name table = cut_name (name_in table)

abbrev pub other_name : KitSource → Option (List ℕ)
other_name (Files paths) = None
other_name (Table table) = Some (table_name table.now)

abbrev pub kit_preset : NewPreset → KitPreset
kit_preset p = record { numbers = p.numbers; name = p.name }

abbrev pub kit_members : Option (List ℕ) → Option NewPreset → Option (List ℕ) → KitMembers
kit_members instrument preset other = record {
  instrument = first_name instrument preset other;
  preset = option_map kit_preset preset;
}

abbrev pub members_of : KitPaths → KitMembers
members_of p = kit_members p.instrument p.preset (other_name p.source)

-- ---- the parts of the plan

-- a table is an input
abbrev pub tables_of : KitSource → List Path
tables_of (Files paths) = []
tables_of (Table table) = table.now ∷ []

-- the checks of the undo script against the table, and that it replaces no bank
abbrev pub table_apart : KitWork → List Path → World → Result Action Why → Result Action Why
table_apart k tables w rest = apart w k.undo.now tables (no_bank w k.undo.now k.force rest)

-- the checks of the undo script against all other files but the recordings
abbrev pub script_apart : KitWork → List Path → World → Result Action Why → Result Action Why
script_apart k tables w rest = apart w k.undo.now (k.input.now ∷ k.out.now ∷ []) (table_apart k tables w rest)

-- the checks of both outputs
abbrev pub outputs_apart : KitWork → List Path → World → Result Action Why → Result Action Why
outputs_apart k tables w rest = apart w k.out.now tables (script_apart k tables w rest)

-- the checks of the outputs against the recordings
abbrev pub recordings_apart : KitWork → List Path → World → Result Action Why → Result Action Why
recordings_apart k paths w rest = apart w k.out.now paths (apart w k.undo.now paths rest)

-- what is listed in the rows of a table, or their fault
abbrev pub listing_in : Path → Result (List Row) KitFault → Result Listing RunFault
listing_in table (Ok rows) = Ok (listing_of_rows table rows)
listing_in table (Err fault) = Err (run.Table fault)

-- the rest of the plan for what is listed, or its fault
abbrev pub if_listed : KitWork → Result Listing RunFault → (Listing → Result Action Why) → Result Action Why
if_listed k (Ok listing) rest = rest listing
if_listed k (Err fault) rest = Err (Fails k.out.now fault)

abbrev pub with_listing : KitWork → KitSource → Result (List ℕ) InputFault → (Listing → Result Action Why)
    → Result Action Why
with_listing k (Files paths) given rest = rest (listing_of_words paths.items)
with_listing k (Table table) given rest =
    with_input table.now given (λ text. if_listed k (listing_in table.now (rows_of text)) rest)

-- the rest of the plan for the bytes of all recordings, or the fault of the first that can't be read
abbrev pub with_waves : List Entry → List (Result (List ℕ) InputFault) → (List (List ℕ) → Result Action Why)
    → Result Action Why
with_waves (e ∷ entries) (Ok bytes ∷ given) rest = with_waves entries given (λ waves. rest (bytes ∷ waves))
with_waves (e ∷ entries) (Err why ∷ given) rest = Err (UnreadRow e.line e.path why)
with_waves entries given rest = rest []

-- the fault of a recording, by its line and its path
abbrev pub fails_row : Path → ℕ → WaveFault → Option Entry → Result Action Why
fails_row out n fault (Some e) = Err (FailsRow e.line e.path fault)
fails_row out n fault None = Err (Fails out (run.InRecording n fault))

-- the fault of a run with recordings: that of a recording by its line and its path
abbrev pub fails_recorded : Path → List Entry → RunFault → Result Action Why
fails_recorded out entries (run.InRecording n fault) = fails_row out n fault (slice_get entries (n - 1))
fails_recorded out entries fault = Err (Fails out fault)

-- the outcome of a kit, at both paths
abbrev pub with_kit : KitWork → List Entry → Result Done RunFault → Result Action Why
with_kit k entries (Ok done) = Ok (SavesBoth k.out.now k.undo.now (Known done))
with_kit k entries (Err fault) = fails_recorded k.out.now entries fault

abbrev pub source_at : Entry × List ℕ → Source
source_at both = record { stem = name_in both.0.path; wave = both.1 }

-- the plan for what is listed
abbrev pub listed_plan : KitWork → KitMembers → List ℕ → Listing → List (Result (List ℕ) InputFault) → World
    → Result Action Why
listed_plan k members file listing given w =
    recordings_apart k (paths_of listing.entries) w
    (with_waves listing.entries given
    (λ waves. with_kit k listing.entries
    (kit_outcome (record { zones = listing.zones; members = members }) k.options
    (map source_at (zip listing.entries waves)) file)))

-- ---- the plan

-- what a kit of this source and with these members does, or why it does nothing
abbrev pub kit_plan : KitWork → KitMembers → KitSource → Inputs → World → Result Action Why
kit_plan k members source inputs w =
    outputs_apart k (tables_of source) w
    (with_input k.input.now inputs.first
    (λ file. with_listing k source inputs.second
    (λ listing. listed_plan k members file listing inputs.others w)))

-- the path of the table, if there is one
abbrev pub table_of : KitSource → Option Path
table_of (Files paths) = None
table_of (Table table) = Some table.now

abbrev pub entries_in : Result Listing RunFault → List Entry
entries_in (Ok listing) = listing.entries
entries_in (Err fault) = []

abbrev pub entries_of_table : Path → Result (List ℕ) InputFault → List Entry
entries_of_table table (Ok text) = entries_in (listing_in table (rows_of text))
entries_of_table table (Err why) = []

-- the recordings that are read
abbrev pub entries_of : KitSource → Result (List ℕ) InputFault → List Entry
entries_of (Files paths) given = (listing_of_words paths.items).entries
entries_of (Table table) given = entries_of_table table.now given

-- each recording gives what the world says
abbrev pub GiveWaves : World → List Entry → List (Result (List ℕ) InputFault) → Type 0
GiveWaves w entries given = AllZip (λ (e : Entry) r. GivesInput w (Some e.path) r) entries given

-- ---- the work of a request

abbrev pub work_of : KitPaths → KitWork
work_of p = record { input = p.input; out = p.out; undo = p.undo; options = p.options; force = p.force }
