-- The steps of a request that imports several recordings.
use Rattle.std.specs.Prelude.{◌≡◌, ◌-◌, ◌++◌, ◌∷◌, ℕ, List, map, slice_get, string_bytes, Option, Some, None, Result, Ok, Err, ⊤}
use Rattle.std.specs.Borrow.{Bor}
use Rattle.std.specs.List.{AllZip}
use Rattle.std.specs.Path.{path_buf_bytes}
use Rattle.bank_parts.specs.declared.parts.Parts.{Parts}
use Rattle.file_host.specs.World.{World, Gives}
use Rattle.file_host.specs.declared.input_fault.InputFault.{InputFault}
use Rattle.kit_tables.specs.declared.row.KitRow.{KitRow}
use Rattle.kit_tables.specs.declared.zone.KitZone.{KitZone}
use Rattle.kit_edits.specs.declared.kit.KitMembers.{KitMembers}
use Rattle.kit_edits.specs.declared.kit.KitRecording.{KitRecording}
use Rattle.wave_file.specs.declared.options.ReadOptions.{ReadOptions}
use Rattle.wave_file.specs.Imports.{BothSides, sides_of}
use Rattle.program_reports.specs.declared.fault.Fault.{Fault}
use Rattle.program_reports.specs.declared.fault.Fault.TheVariants.{RowFile, RowRecording, Run}
use Rattle.program_reports.specs.declared.run_fault.RunFault.{RunFault}
use Rattle.program_reports.specs.declared.run_fault.RunFault.TheVariants as run
use Rattle.wave_file.specs.declared.fault.WaveFault.{WaveFault}
use Rattle.sfbank.specs.Written.{FailsBefore}
use Rattle.sfbank.specs.Kits.{Design, Source, bare, kit_outcome, recordings_in}
use Rattle.sfbank.specs.declared.program.kits.KitWork.{KitWork}
use Rattle.sfbank.specs.PlanParts.{Action, Inputs, Path, Why, Fails, GivesInput, name_in}
use Rattle.program_commands.specs.declared.kits.KitSource.{KitSource}
use Rattle.sfbank.specs.declared.program.listing.Entry as code
use Rattle.sfbank.specs.declared.program.listed.ReadFile.{ReadFile}
use Rattle.sfbank.specs.declared.program.listing.TableFile.{TableFile}
use Rattle.sfbank.specs.declared.program.listing.TableListing.{TableListing}
use Rattle.sfbank.specs.KitPlans.{Entry, GiveWaves, Listing, entries_of, kit_plan, listed_plan, table_of}
use Rattle.sfbank.specs.Ends.{Outside, IsEarly, EndsAs, EndsFor}
use Rattle.sfbank.specs.Steps.{IsReadAs}

-- the points of a recording that are not borrowed from its file
abbrev pub sides_in : KitRecording → BothSides
sides_in r = sides_of r.recording.channels

-- the recordings, or their fault
abbrev pub ReadsRecordings : {X : Type 0} → (X → List KitRecording) → Result (List KitRecording) RunFault
    → Result X RunFault → Type 0
ReadsRecordings view due (Ok x) = due ≡ Ok (map bare (view x))
ReadsRecordings view due (Err fault) = FailsBefore fault due

-- a bank and recordings with their sides, or the fault of any kit of them
abbrev pub ReadsKit : {X : Type 0} → (X → Parts) → (X → List KitRecording) → (X → List BothSides) → ReadOptions
    → List Source → List ℕ → Result X RunFault → Type 0
ReadsKit bank recordings sides options sources file (Ok x) =
    IsReadAs file (bank x) × (recordings_in options sources ≡ Ok (map bare (recordings x)))
    × (sides x ≡ map sides_in (recordings x))
ReadsKit bank recordings sides options sources file (Err fault) =
    (design : Design) → FailsBefore fault (kit_outcome design options sources file)

-- ---- what is listed

-- an entry of the code, with the bytes of its path
abbrev pub entry_of : code.Entry → Entry
entry_of e = record { line = e.line; path = e.path.now }

-- the paths of the code
abbrev pub are_paths : List (Bor (List ℕ)) → List Path
are_paths paths = map (λ (p : Bor (List ℕ)). p.now) paths

-- the zone of a row of the code, with the index of its file
abbrev pub row_zone : KitRow × ℕ → ℕ × KitZone
row_zone both = (both.1, both.0.zone)

-- a recording of a table
abbrev pub entry_in : TableFile → Entry
entry_in f = record { line = Some f.line; path = path_buf_bytes f.path }

abbrev pub listing_of : TableListing → Listing
listing_of t = record { entries = map entry_in t.files.items; zones = t.zones.items }

-- what is listed in a table, or its fault
abbrev pub ListsTable : {X : Type 0} → (X → TableListing) → Result Listing RunFault → Result X RunFault → Type 0
ListsTable view due (Ok x) = due ≡ Ok (listing_of (view x))
ListsTable view due (Err fault) = FailsBefore fault due

-- ---- the recordings

-- a recording that was read: its path and its bytes
pub record FileRead : Type 0 where
  pub path : Path
  pub bytes : List ℕ

abbrev pub file_of : ReadFile → FileRead
file_of f = record { path = string_bytes f.path; bytes = f.bytes.items }

abbrev pub source_read : FileRead → Source
source_read f = record { stem = name_in f.path; wave = f.bytes }

-- the bytes of a recording, as far as the world is known
abbrev pub IsReadOf : Option World → Entry → FileRead → Type 0
IsReadOf world e f = (f.path ≡ e.path) × Gives world e.path (Ok f.bytes)

-- a recording can't be read, or an allocation failed
abbrev pub FailsEntry : Option World → Entry → Fault → Type 0
FailsEntry world e (RowFile row why) = (row.line ≡ e.line) × (string_bytes row.path ≡ e.path) × Gives world e.path (Err why)
FailsEntry world e (Run run.Memory at) = ⊤
FailsEntry world e fault = ⊥

-- A recording, or its fault. No file is changed.
abbrev pub ReadsEntry : {X : Type 0} → (X → FileRead) → Option World → Option World → Entry → Result X Fault → Type 0
ReadsEntry view old new e (Ok x) = IsReadOf old e (view x) × (new ≡ old)
ReadsEntry view old new e (Err fault) = FailsEntry old e fault × (new ≡ old)

-- recordings are read up to the first that fails
pub record StopsAtEntry (world : Option World) (entries : List Entry) (fault : Fault) : Type 0 where
  pub before : List Entry
  pub at : Entry
  pub after : List Entry
  pub is : entries ≡ before ++ at ∷ after
  pub files : List FileRead
  pub read : AllZip (IsReadOf world) before files
  pub fails : FailsEntry world at fault

-- All recordings, or the fault of the first that can't be read. No file is changed.
abbrev pub ReadsListed : {X : Type 0} → (X → List FileRead) → Option World → Option World → List Entry → Result X Fault
    → Type 0
ReadsListed view old new entries (Ok x) = AllZip (IsReadOf old) entries (view x) × (new ≡ old)
ReadsListed view old new entries (Err fault) = StopsAtEntry old entries fault × (new ≡ old)

-- the fault of a recording that can't be imported, or a failed allocation
abbrev pub IsOfRecording : Entry → WaveFault → Fault → Type 0
IsOfRecording e why (RowRecording row fault) = (row.line ≡ e.line) × (string_bytes row.path ≡ e.path) × (fault ≡ why)
IsOfRecording e why (Run run.Memory at) = ⊤
IsOfRecording e why fault = ⊥

-- the fault of recording n, by its entry if there is one
abbrev pub IsOfEntry : Option Entry → ℕ → WaveFault → Bor (List ℕ) → Fault → Type 0
IsOfEntry (Some e) n why out fault = IsOfRecording e why fault
IsOfEntry None n why out fault = fault ≡ Run (run.InRecording n why) out

-- the fault of a kit, which is saved at this path
abbrev pub IsOfKit : List Entry → Bor (List ℕ) → RunFault → Fault → Type 0
IsOfKit entries out (run.InRecording n why) fault = IsOfEntry (slice_get entries (n - 1)) n why out fault
IsOfKit entries out why fault = fault ≡ Run why out

-- ---- how the steps end

-- what is listed is imported as it is planned for what its recordings give
pub record EndsListedIn {U : Type 0} (k : KitWork) (members : KitMembers) (file : List ℕ) (listing : Listing) (w : World)
    (old new : Outside) (written : ℕ) (end : Result U Fault) : Type 0 where
  pub given : List (Result (List ℕ) InputFault)
  pub gives : GiveWaves w listing.entries given
  pub ends : EndsAs w (listed_plan k members file listing given w) old new written end

-- the same, as far as the world is known
abbrev pub EndsListedFor : {U : Type 0} → KitWork → KitMembers → List ℕ → Listing → Option World → Outside → Outside → ℕ
    → Result U Fault → Type 0
EndsListedFor k members file listing None old new written end = ⊤
EndsListedFor k members file listing (Some w) old new written end =
    EndsListedIn k members file listing w old new written end

abbrev pub EndsListed : {U : Type 0} → KitWork → KitMembers → List ℕ → Listing → Outside → Outside → ℕ → Result U Fault
    → Type 0
EndsListed k members file listing old new written end =
    EndsListedFor k members file listing old.files old new written end

-- what is listed is imported, or its fault ends the request
abbrev pub EndsIfListed : {U : Type 0} → KitWork → KitMembers → List ℕ → Result Listing RunFault → Outside → Outside → ℕ
    → Result U Fault → Type 0
EndsIfListed k members file (Ok listing) old new written end = EndsListed k members file listing old new written end
EndsIfListed k members file (Err fault) old new written end =
    EndsFor (λ w. Err (Fails k.out.now fault)) old new written end

-- a kit is imported as it is planned for what its inputs give
pub record EndsKitIn {U : Type 0} (k : KitWork) (members : KitMembers) (source : KitSource) (w : World)
    (old new : Outside) (written : ℕ) (end : Result U Fault) : Type 0 where
  pub inputs : Inputs
  pub given_bank : GivesInput w (Some k.input.now) inputs.first
  pub given_table : GivesInput w (table_of source) inputs.second
  pub given_waves : GiveWaves w (entries_of source inputs.second) inputs.others
  pub ends : EndsAs w (kit_plan k members source inputs w) old new written end

-- the same, as far as the world is known
abbrev pub EndsKitFor : {U : Type 0} → KitWork → KitMembers → KitSource → Option World → Outside → Outside → ℕ
    → Result U Fault → Type 0
EndsKitFor k members source None old new written end = ⊤
EndsKitFor k members source (Some w) old new written end = EndsKitIn k members source w old new written end

abbrev pub EndsKit : {U : Type 0} → KitWork → KitMembers → KitSource → Outside → Outside → ℕ → Result U Fault → Type 0
EndsKit k members source old new written end = EndsKitFor k members source old.files old new written end
