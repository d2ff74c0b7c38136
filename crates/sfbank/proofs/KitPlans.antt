-- How the steps of a request make the end of a kit.
use Rattle.std.proofs.Common.{◌≡◌, ◌∙◌, ◌++◌, ◌-◌, ℕ, Vec, Global, List, [], ◌∷◌, map, Option, Some, None, Result, Ok, Err, ap, inl, refl, subst, sym}
use Rattle.std.proofs.Common.{◌<◌, suc, take, drop, length, get_or}
use Rattle.std.specs.List.{AllZip, zip}
use Rattle.std.specs.Prelude.{slice_get}
use Rattle.std.specs.Borrow.{Bor}
use Rattle.file_host.specs.World.{World, Gives, file_at}
use Rattle.file_host.specs.declared.input_fault.InputFault.{InputFault}
use Rattle.file_host.specs.declared.input_fault.InputFault.TheVariants.{NotFound}
use Rattle.kit_tables.specs.declared.row.KitRow.{KitRow}
use Rattle.kit_tables.specs.Rows.{Row, row_of, rows_of}
use Rattle.kit_edits.specs.declared.kit.KitMembers.{KitMembers}
use Rattle.program_commands.specs.declared.kits.KitPaths.{KitPaths}
use Rattle.program_commands.specs.declared.kits.KitSource.{KitSource}
use Rattle.program_commands.specs.declared.words.Request.TheVariants.{ImportKit}
use Rattle.program_commands.specs.declared.kits.KitSource.TheVariants.{Files, Table}
use Rattle.program_reports.specs.declared.fault.Fault.{Fault}
use Rattle.program_reports.specs.declared.fault.Fault.TheVariants.{Words, NotText, NoNumber, NoName, File, Output, Run, PipeClosed}
use Rattle.program_reports.specs.declared.fault.Fault.TheVariants.{FolderThere, HasFindings, RowFile, RowRecording}
use Rattle.program_reports.specs.declared.run_fault.RunFault.{RunFault}
use Rattle.program_reports.specs.declared.run_fault.RunFault.TheVariants as run
use Rattle.wave_file.specs.declared.fault.WaveFault.{WaveFault}
use Rattle.sfbank.specs.declared.program.kits.KitWork.{KitWork}
use Rattle.sfbank.specs.declared.program.listing.Entry as code
use Rattle.sfbank.specs.declared.program.listed.ReadFile.{ReadFile}
use Rattle.sfbank.specs.Outcome.{Done}
use Rattle.sfbank.specs.Written.{FailsBefore}
use Rattle.sfbank.specs.Kits.{Source, kit_outcome}
use Rattle.sfbank.specs.PlanParts.{Action, Why, FailsRow, UnreadRow, Known, Inputs, GivesInput, name_in, with_input}
use Rattle.sfbank.specs.KitPlans.{Entry, Listing, GiveWaves, entries_in, entries_of, entries_of_table, fails_recorded, fails_row, if_listed}
use Rattle.sfbank.specs.KitPlans.{kit_plan, listed_plan, listing_in, listing_of_words, kit_members, members_of, other_name, outputs_apart, paths_of, work_of}
use Rattle.sfbank.specs.KitPlans.{recordings_apart, source_at, table_of, tables_of, with_kit, with_listing, with_waves}
use Rattle.sfbank.specs.KitSteps.{EndsIfListed, EndsKit, EndsListed, FailsEntry, FileRead, IsOfEntry, IsOfKit, IsOfRecording}
use Rattle.sfbank.specs.KitSteps.{IsReadOf, StopsAtEntry, entry_of, file_of, row_zone, source_read}
use Rattle.sfbank.specs.Ends.{Outside, IsEarly, EndsAs, EndsFor}
use Rattle.sfbank.specs.Outputs.{SavesPairAt}
use Rattle.sfbank.specs.Steps.{Part, Passes, FailsInput, ReadsTwo, AreGiven}
use Rattle.sfbank.specs.Meanings.{MeansPlan}
use Rattle.sfbank.proofs.ListLaws.{map_split, split_at}
use Rattle.sfbank.proofs.OutcomeLaws.{both_end, outcome_fails}
use Rattle.sfbank.proofs.PlanLaws.{at, ends_early, input_stops, nothing, untouched}

-- ---- what inputs give

-- what the recordings give in a world
abbrev pub given_waves : World → List Entry → List (Result (List ℕ) InputFault)
given_waves w entries = map (λ (e : Entry). file_at w e.path) entries

pub all_given : (w : World) (entries : List Entry) → GiveWaves w entries (given_waves w entries)
all_given w [] = tt
all_given w (e ∷ entries) = ((λ s. refl), all_given w entries)

-- what a table gives in a world
abbrev given_table : World → KitSource → Result (List ℕ) InputFault
given_table w (Files paths) = Err NotFound
given_table w (Table table) = file_at w table.now

table_given : (w : World) (source : KitSource) → GivesInput w (table_of source) (given_table w source)
table_given w (Files paths) = tt
table_given w (Table table) = λ s. refl

-- ---- the rows of a table

pub zones_of_rows : (f : Row → ℕ) (rows : List KitRow)
    → map row_zone (zip rows (map f (map row_of rows))) ≡ map (λ (r : Row). (f r, r.zone)) (map row_of rows)
zones_of_rows f [] = refl
zones_of_rows f (r ∷ rows) = ap (λ zs. (f (row_of r), r.zone) ∷ zs) (zones_of_rows f rows)

-- ---- memory

-- a failed allocation passes for the fault of any part
pub memory_passes : (part : Part) (old new : Option World) (path : Bor (List ℕ)) → new ≡ old
    → Passes {U = Unit {0}} part old new (Err (Run run.Memory path))
memory_passes part None new path e = (tt, e)
memory_passes part (Some w) new path e = ((λ rest. tt), e)

-- ---- the checks of the outputs

pub kit_rejected : (k : KitWork) (members : KitMembers) (source : KitSource) (old new : Option World)
    (printed : Option (List ℕ)) (written : ℕ) (fault : Fault)
    → Passes {U = Unit {0}} (outputs_apart k (tables_of source)) old new (Err fault)
    → EndsKit {U = Unit {0}} k members source (at old printed) (at new printed) written (Err fault)
kit_rejected k members source None new printed written fault h = tt
kit_rejected k members source (Some w) new printed written fault h =
    let table = given_table w source in
    let inputs : Inputs = record {
      first = file_at w k.input.now;
      second = table;
      others = given_waves w (entries_of source table);
    } in
    record {
      inputs = inputs;
      given_bank = λ s. refl;
      given_table = table_given w source;
      given_waves = all_given w (entries_of source table);
      ends = ends_early w (kit_plan k members source inputs w) (at (Some w) printed) (at new printed) written fault
          (h.0 (with_input k.input.now inputs.first
          (λ file. with_listing k source inputs.second (λ listing. listed_plan k members file listing inputs.others w))))
          (untouched (Some w) new printed h.1);
    }

-- ---- recordings that words name

pub words_unread : (k : KitWork) (members : KitMembers) (paths : Vec (Bor (List ℕ)) Global) (old mid new : Option World)
    (printed : Option (List ℕ)) (written : ℕ) (fault : Fault) (u : Unit {0})
    → Passes (outputs_apart k []) old mid (Ok u) → FailsInput mid new k.input.now fault
    → EndsKit {U = Unit {0}} k members (Files paths) (at old printed) (at new printed) written (Err fault)
words_unread k members paths None mid new printed written fault u pass read = tt
words_unread k members paths (Some w) mid new printed written fault u pass read =
    let here = subst (λ (x : Option World). FailsInput x new k.input.now fault) pass.1 read in
    let s = input_stops (Some w) new k.input.now fault here in
    let entries = (listing_of_words paths.items).entries in
    let inputs : Inputs = record { first = s.0.given; second = Err NotFound; others = given_waves w entries } in
    let rest : List ℕ → Result Action Why =
    λ file. with_listing k (Files paths) inputs.second (λ listing. listed_plan k members file listing inputs.others w) in
    record {
      inputs = inputs;
      given_bank = s.0.is_given;
      given_table = tt;
      given_waves = all_given w entries;
      ends = ends_early w (kit_plan k members (Files paths) inputs w) (at (Some w) printed) (at new printed) written fault
          (subst (λ (x : Result Action Why). IsEarly w x fault) (sym (pass.0 (with_input k.input.now s.0.given rest))) (s.0.stops w rest))
          (untouched (Some w) new printed s.1);
    }

pub words_end : (k : KitWork) (members : KitMembers) (paths : Vec (Bor (List ℕ)) Global) (file : List ℕ) (old mid last : Option World)
    (printed : Option (List ℕ)) (new : Outside) (written : ℕ) (end : Result (Unit {0}) Fault) (u : Unit {0})
    → Passes (outputs_apart k []) old mid (Ok u) → Gives mid k.input.now (Ok file) × (last ≡ mid)
    → EndsListed k members file (listing_of_words paths.items) (at last printed) new written end
    → EndsKit k members (Files paths) (at old printed) new written end
words_end k members paths file None mid last printed new written end u pass read done = tt
words_end k members paths file (Some w) mid last printed new written end u pass read done =
    let d = subst (λ (x : Option World). EndsListed k members file (listing_of_words paths.items) (at x printed) new written end)
    (read.1 ∙ pass.1) done in
    record {
      inputs = record { first = Ok file; second = Err NotFound; others = d.given };
      given_bank = subst (λ (x : Option World). Gives x k.input.now (Ok file)) pass.1 read.0;
      given_table = tt;
      given_waves = d.gives;
      ends = subst (λ (x : Result Action Why). EndsAs w x (at (Some w) printed) new written end)
          (sym (pass.0 (listed_plan k members file (listing_of_words paths.items) d.given w))) d.ends;
    }

-- ---- recordings of a table

pub table_unread : (k : KitWork) (members : KitMembers) (table : Bor (List ℕ)) (old mid new : Option World)
    (printed : Option (List ℕ)) (written : ℕ) (fault : Fault) (u : Unit {0})
    → Passes (outputs_apart k (table.now ∷ [])) old mid (Ok u)
    → ReadsTwo {X = List ℕ} {Y = List ℕ} (λ x. x) (λ y. y) mid new k.input.now table.now (Err fault)
    → EndsKit {U = Unit {0}} k members (Table table) (at old printed) (at new printed) written (Err fault)
table_unread k members table None mid new printed written fault u pass read = tt
table_unread k members table (Some w) mid new printed written fault u pass read =
    let stops = read.0 in
    let given = subst (λ (x : Option World). AreGiven x k.input.now table.now stops.inputs) pass.1 stops.given in
    let entries = entries_of_table table.now stops.inputs.second in
    let inputs : Inputs = record {
      first = stops.inputs.first;
      second = stops.inputs.second;
      others = given_waves w entries;
    } in
    let rest : List ℕ → List ℕ → Result Action Why =
    λ file text. if_listed k (listing_in table.now (rows_of text)) (λ listing. listed_plan k members file listing inputs.others w) in
    let whole : Result Action Why = with_input k.input.now inputs.first (λ file. with_input table.now inputs.second (rest file)) in
    record {
      inputs = inputs;
      given_bank = given.0;
      given_table = given.1;
      given_waves = all_given w entries;
      ends = ends_early w (kit_plan k members (Table table) inputs w) (at (Some w) printed) (at new printed) written fault
          (subst (λ (x : Result Action Why). IsEarly w x fault) (sym (pass.0 whole)) (stops.stops w rest))
          (untouched (Some w) new printed (read.1 ∙ pass.1));
    }

-- what is listed is imported for what its recordings give, or its fault ends the request
record EndsRows (k : KitWork) (members : KitMembers) (file : List ℕ) (due : Result Listing RunFault) (w : World)
    (old new : Outside) (written : ℕ) (end : Result (Unit {0}) Fault) : Type 0 where
  given : List (Result (List ℕ) InputFault)
  gives : GiveWaves w (entries_in due) given
  ends : EndsAs w (if_listed k due (λ listing. listed_plan k members file listing given w)) old new written end

rows_end : (k : KitWork) (members : KitMembers) (file : List ℕ) (due : Result Listing RunFault) (w : World)
    (printed : Option (List ℕ)) (new : Outside) (written : ℕ) (end : Result (Unit {0}) Fault)
    → EndsIfListed k members file due (at (Some w) printed) new written end
    → EndsRows k members file due w (at (Some w) printed) new written end
rows_end k members file (Ok listing) w printed new written end d =
    record { given = d.given; gives = d.gives; ends = d.ends }
rows_end k members file (Err fault) w printed new written end d = record { given = []; gives = tt; ends = d }

pub table_end : (k : KitWork) (members : KitMembers) (table : Bor (List ℕ)) (file text : List ℕ) (old mid last : Option World)
    (printed : Option (List ℕ)) (new : Outside) (written : ℕ) (end : Result (Unit {0}) Fault) (u : Unit {0})
    → Passes (outputs_apart k (table.now ∷ [])) old mid (Ok u)
    → AreGiven mid k.input.now table.now (record { first = Ok file; second = Ok text; others = [] }) × (last ≡ mid)
    → EndsIfListed k members file (listing_in table.now (rows_of text)) (at last printed) new written end
    → EndsKit k members (Table table) (at old printed) new written end
table_end k members table file text None mid last printed new written end u pass read done = tt
table_end k members table file text (Some w) mid last printed new written end u pass read done =
    let due = listing_in table.now (rows_of text) in
    let inputs : Inputs = record { first = Ok file; second = Ok text; others = [] } in
    let given = subst (λ (x : Option World). AreGiven x k.input.now table.now inputs) pass.1 read.0 in
    let d = rows_end k members file due w printed new written end
    (subst (λ (x : Option World). EndsIfListed k members file due (at x printed) new written end) (read.1 ∙ pass.1) done) in
    record {
      inputs = record { first = Ok file; second = Ok text; others = d.given };
      given_bank = given.0;
      given_table = given.1;
      given_waves = d.gives;
      ends = subst (λ (x : Result Action Why). EndsAs w x (at (Some w) printed) new written end)
          (sym (pass.0 (if_listed k due (λ listing. listed_plan k members file listing d.given w)))) d.ends;
    }

-- the plan of a listing, for what its recordings give
from_plan : (k : KitWork) (members : KitMembers) (file : List ℕ) (due : Result Listing RunFault) (old : Option World)
    (printed : Option (List ℕ)) (written : ℕ) (fault : Fault)
    → EndsFor {U = Unit {0}}
    (λ w. if_listed k due (λ listing. listed_plan k members file listing (given_waves w listing.entries) w))
    (at old printed) (at old printed) written (Err fault)
    → EndsIfListed {U = Unit {0}} k members file due (at old printed) (at old printed) written (Err fault)
from_plan k members file (Err f) old printed written fault h = h
from_plan k members file (Ok listing) None printed written fault h = tt
from_plan k members file (Ok listing) (Some w) printed written fault h =
    record { given = given_waves w listing.entries; gives = all_given w listing.entries; ends = h }

pub rows_fail : (k : KitWork) (members : KitMembers) (file : List ℕ) (due : Result Listing RunFault) (old : Option World)
    (printed : Option (List ℕ)) (written : ℕ) (why : RunFault)
    → FailsBefore why due
    → EndsIfListed {U = Unit {0}} k members file due (at old printed) (at old printed) written (Err (Run why k.out))
rows_fail k members file due old printed written why h =
    from_plan k members file due old printed written (Run why k.out)
    (outcome_fails old printed written k.out
    (λ w r. if_listed k r (λ listing. listed_plan k members file listing (given_waves w listing.entries) w)) why due
    (λ w fault. refl) h)

-- ---- a request

-- the end of a kit is what its request means
pub kit_means : (p : KitPaths) (old : Option World) (printed : Option (List ℕ)) (new : Outside) (written : ℕ)
    (end : Result (Unit {0}) Fault)
    → EndsKit (work_of p) (members_of p) p.source (at old printed) new written end
    → MeansPlan (ImportKit p) (at old printed) new written end
kit_means p None printed new written end h = record { inputs = nothing; given = tt; ends = tt }
kit_means p (Some w) printed new written end h =
    record { inputs = h.inputs; given = (h.given_bank, h.given_table, h.given_waves); ends = h.ends }

pub kit_named : (p : KitPaths) (source : KitSource) (m : KitMembers) (old : Option World) (printed : Option (List ℕ))
    (new : Outside) (written : ℕ) (end : Result (Unit {0}) Fault)
    → p.source ≡ source → m ≡ kit_members p.instrument p.preset (other_name source)
    → EndsKit (work_of p) m source (at old printed) new written end → MeansPlan (ImportKit p) (at old printed) new written end
kit_named p source m old printed new written end s e h =
    kit_means p old printed new written end
    (subst (λ (x : KitSource). EndsKit (work_of p) (kit_members p.instrument p.preset (other_name x)) x (at old printed) new written end)
    (sym s)
    (subst (λ (x : KitMembers). EndsKit (work_of p) x source (at old printed) new written end) e h))

-- ---- what is listed

-- no file is changed, for a fault whatever the recordings give
pub listed_rejected : (k : KitWork) (members : KitMembers) (file : List ℕ) (listing : Listing) (old new : Option World)
    (printed : Option (List ℕ)) (written : ℕ) (fault : Fault)
    → Passes {U = Unit {0}} (recordings_apart k (paths_of listing.entries)) old new (Err fault)
    → EndsListed {U = Unit {0}} k members file listing (at old printed) (at new printed) written (Err fault)
listed_rejected k members file listing None new printed written fault h = tt
listed_rejected k members file listing (Some w) new printed written fault h =
    let given = given_waves w listing.entries in
    record {
      given = given;
      gives = all_given w listing.entries;
      ends = ends_early w (listed_plan k members file listing given w) (at (Some w) printed) (at new printed) written fault
          (h.0 _) (untouched (Some w) new printed h.1);
    }

-- ---- the fault of a kit

-- the fault of a recording that can't be imported
row_fails : (w : World) (e : Entry) (why : WaveFault) (fault : Fault) (planned : Result Action Why)
    → planned ≡ Err (FailsRow e.line e.path why) → IsOfRecording e why fault → IsEarly w planned fault
row_fails w e why (RowRecording row f) planned is h =
    is ∙ (λ i. Err (FailsRow (sym h.0 i) (sym h.1 i) (sym h.2 i)))
row_fails w e why (Run run.Memory path) planned is h = tt
row_fails w e why (Words x) planned is h = absurd h
row_fails w e why NotText planned is h = absurd h
row_fails w e why (NoNumber n) planned is h = absurd h
row_fails w e why (NoName n) planned is h = absurd h
row_fails w e why (File path f) planned is h = absurd h
row_fails w e why (Output f path) planned is h = absurd h
row_fails w e why (RowFile row f) planned is h = absurd h
row_fails w e why (FolderThere path) planned is h = absurd h
row_fails w e why (HasFindings path) planned is h = absurd h
row_fails w e why PipeClosed planned is h = absurd h
row_fails w e why (Run (run.Read f) path) planned is h = absurd h
row_fails w e why (Run (run.ReadFirst f) path) planned is h = absurd h
row_fails w e why (Run (run.ReadSecond f) path) planned is h = absurd h
row_fails w e why (Run (run.ReadFrom f) path) planned is h = absurd h
row_fails w e why (Run (run.Script f) path) planned is h = absurd h
row_fails w e why (Run (run.Table f) path) planned is h = absurd h
row_fails w e why (Run (run.Refused n f) path) planned is h = absurd h
row_fails w e why (Run (run.NotNeutral n) path) planned is h = absurd h
row_fails w e why (Run run.OtherVersion path) planned is h = absurd h
row_fails w e why (Run (run.Notes f) path) planned is h = absurd h
row_fails w e why (Run (run.Recording f) path) planned is h = absurd h
row_fails w e why (Run (run.NoMember f) path) planned is h = absurd h
row_fails w e why (Run (run.Presets f) path) planned is h = absurd h
row_fails w e why (Run (run.Full f) path) planned is h = absurd h
row_fails w e why (Run run.PlanFailed path) planned is h = absurd h
row_fails w e why (Run (run.InRecording i f) path) planned is h = absurd h
row_fails w e why (Run (run.Write a n) path) planned is h = absurd h

-- the fault of a recording, if it is listed
entry_fails : (w : World) (out : Bor (List ℕ)) (i : ℕ) (why : WaveFault) (fault : Fault) (e : Option Entry)
    (planned : Result Action Why)
    → planned ≡ fails_row out.now i why e → IsOfEntry e i why out fault → IsEarly w planned fault
entry_fails w out i why fault (Some e) planned is h = row_fails w e why fault planned is h
entry_fails w out i why fault None planned is h = subst (IsEarly w planned) (sym h) is

pub recorded_fails : {X : Type 0} (w : World) (out : Bor (List ℕ)) (entries : List Entry)
    (planned : Result X RunFault → Result Action Why) (outcome : Result X RunFault) (why : RunFault) (fault : Fault)
    → ((f : RunFault) → planned (Err f) ≡ fails_recorded out.now entries f)
    → FailsBefore why outcome → IsOfKit entries out why fault → IsEarly w (planned outcome) fault
recorded_fails w out entries planned outcome (run.InRecording i f) fault law h is =
    entry_fails w out i f fault (slice_get entries (i - 1)) (planned outcome) (ap planned h ∙ law (run.InRecording i f)) is
recorded_fails w out entries planned outcome run.Memory fault law h is = subst (IsEarly w (planned outcome)) (sym is) tt
recorded_fails w out entries planned outcome (run.Write a n) fault law h is = absurd h
recorded_fails w out entries planned outcome run.PlanFailed fault law h is =
    subst (IsEarly w (planned outcome)) (sym is) (inl (ap planned h ∙ law run.PlanFailed))
recorded_fails w out entries planned outcome (run.Full f) fault law h is =
    subst (IsEarly w (planned outcome)) (sym is) (inl (ap planned h ∙ law (run.Full f)))
recorded_fails w out entries planned outcome (run.Read f) fault law h is =
    subst (IsEarly w (planned outcome)) (sym is) (ap planned h ∙ law (run.Read f))
recorded_fails w out entries planned outcome (run.ReadFirst f) fault law h is =
    subst (IsEarly w (planned outcome)) (sym is) (ap planned h ∙ law (run.ReadFirst f))
recorded_fails w out entries planned outcome (run.ReadSecond f) fault law h is =
    subst (IsEarly w (planned outcome)) (sym is) (ap planned h ∙ law (run.ReadSecond f))
recorded_fails w out entries planned outcome (run.ReadFrom f) fault law h is =
    subst (IsEarly w (planned outcome)) (sym is) (ap planned h ∙ law (run.ReadFrom f))
recorded_fails w out entries planned outcome (run.Script f) fault law h is =
    subst (IsEarly w (planned outcome)) (sym is) (ap planned h ∙ law (run.Script f))
recorded_fails w out entries planned outcome (run.Table f) fault law h is =
    subst (IsEarly w (planned outcome)) (sym is) (ap planned h ∙ law (run.Table f))
recorded_fails w out entries planned outcome (run.Refused n f) fault law h is =
    subst (IsEarly w (planned outcome)) (sym is) (ap planned h ∙ law (run.Refused n f))
recorded_fails w out entries planned outcome (run.NotNeutral n) fault law h is =
    subst (IsEarly w (planned outcome)) (sym is) (ap planned h ∙ law (run.NotNeutral n))
recorded_fails w out entries planned outcome run.OtherVersion fault law h is =
    subst (IsEarly w (planned outcome)) (sym is) (ap planned h ∙ law run.OtherVersion)
recorded_fails w out entries planned outcome (run.Notes f) fault law h is =
    subst (IsEarly w (planned outcome)) (sym is) (ap planned h ∙ law (run.Notes f))
recorded_fails w out entries planned outcome (run.Recording f) fault law h is =
    subst (IsEarly w (planned outcome)) (sym is) (ap planned h ∙ law (run.Recording f))
recorded_fails w out entries planned outcome (run.NoMember f) fault law h is =
    subst (IsEarly w (planned outcome)) (sym is) (ap planned h ∙ law (run.NoMember f))
recorded_fails w out entries planned outcome (run.Presets f) fault law h is =
    subst (IsEarly w (planned outcome)) (sym is) (ap planned h ∙ law (run.Presets f))

pub kit_stopped : (files : Option World) (printed : Option (List ℕ)) (written : ℕ) (k : KitWork) (entries : List Entry)
    (outcome : Result Done RunFault) (why : RunFault) (fault : Fault)
    → FailsBefore why outcome → IsOfKit entries k.out why fault
    → EndsFor {U = Unit {0}} (λ w. with_kit k entries outcome) (at files printed) (at files printed) written (Err fault)
kit_stopped None printed written k entries outcome why fault h is = tt
kit_stopped (Some w) printed written k entries outcome why fault h is =
    ends_early w (with_kit k entries outcome) (at (Some w) printed) (at (Some w) printed) written fault
    (recorded_fails w k.out entries (with_kit k entries) outcome why fault (λ f. refl) h is) (untouched (Some w) (Some w) printed refl)

pub kit_saved : (files new : Option World) (printed : Option (List ℕ)) (written : ℕ) (k : KitWork) (entries : List Entry)
    (outcome : Result Done RunFault) (done : Done) (end : Result (Unit {0}) Fault)
    → outcome ≡ Ok done → SavesPairAt k.out.now k.undo.now done files new written end
    → EndsFor (λ w. with_kit k entries outcome) (at files printed) (at new printed) written end
kit_saved None new printed written k entries outcome done end e h = tt
kit_saved (Some w) new printed written k entries outcome done end e h =
    both_end w k.out.now k.undo.now (Known done) done (with_kit k entries outcome) new printed written end
    (ap (with_kit k entries) e) refl h

-- ---- the recordings that are read

-- what they give
abbrev pub given_files : List FileRead → List (Result (List ℕ) InputFault)
given_files files = map (λ (f : FileRead). Ok f.bytes) files

pub files_given : (w : World) (entries : List Entry) (files : List FileRead) → AllZip (IsReadOf (Some w)) entries files
    → GiveWaves w entries (given_files files)
files_given w [] [] h = tt
files_given w [] (f ∷ files) h = absurd h
files_given w (e ∷ entries) [] h = absurd h
files_given w (e ∷ entries) (f ∷ files) h = (h.0.1, files_given w entries files h.1)

pub waves_pass : (w : World) (entries : List Entry) (files : List FileRead) (rest : List (List ℕ) → Result Action Why)
    → AllZip (IsReadOf (Some w)) entries files
    → with_waves entries (given_files files) rest ≡ rest (map (λ (f : FileRead). f.bytes) files)
waves_pass w [] [] rest h = refl
waves_pass w [] (f ∷ files) rest h = absurd h
waves_pass w (e ∷ entries) [] rest h = absurd h
waves_pass w (e ∷ entries) (f ∷ files) rest h = waves_pass w entries files (λ waves. rest (f.bytes ∷ waves)) h.1

sources_read : (w : World) (entries : List Entry) (files : List FileRead) → AllZip (IsReadOf (Some w)) entries files
    → map source_at (zip entries (map (λ (f : FileRead). f.bytes) files)) ≡ map source_read files
sources_read w [] [] h = refl
sources_read w [] (f ∷ files) h = absurd h
sources_read w (e ∷ entries) [] h = absurd h
sources_read w (e ∷ entries) (f ∷ files) h =
    λ i. record { stem = name_in (sym h.0.0 i); wave = f.bytes } ∷ sources_read w entries files h.1 i

-- ---- a recording that can't be read

-- what the recordings give, where this one gives this
given_about : (w : World) (before : List Entry) (files : List FileRead) (e : Entry) (r : Result (List ℕ) InputFault)
    (after : List Entry)
    → AllZip (IsReadOf (Some w)) before files → GivesInput w (Some e.path) r
    → GiveWaves w (before ++ e ∷ after) (given_files files ++ r ∷ given_waves w after)
given_about w [] [] e r after h g = (g, all_given w after)
given_about w [] (f ∷ files) e r after h g = absurd h
given_about w (b ∷ before) [] e r after h g = absurd h
given_about w (b ∷ before) (f ∷ files) e r after h g = (h.0.1, given_about w before files e r after h.1 g)

stops_about : (w : World) (before : List Entry) (files : List FileRead) (e : Entry) (why : InputFault) (after : List Entry)
    (given : List (Result (List ℕ) InputFault)) (rest : List (List ℕ) → Result Action Why)
    → AllZip (IsReadOf (Some w)) before files
    → with_waves (before ++ e ∷ after) (given_files files ++ Err why ∷ given) rest ≡ Err (UnreadRow e.line e.path why)
stops_about w [] [] e why after given rest h = refl
stops_about w [] (f ∷ files) e why after given rest h = absurd h
stops_about w (b ∷ before) [] e why after given rest h = absurd h
stops_about w (b ∷ before) (f ∷ files) e why after given rest h =
    stops_about w before files e why after given (λ waves. rest (f.bytes ∷ waves)) h.1

-- a recording of the code can't be read
pub stops_here : (old now : Option World) (entries : List code.Entry) (files : List ReadFile) (i : ℕ) (d : code.Entry)
    (fault : Fault)
    → i < length entries → AllZip (IsReadOf old) (map entry_of (take i entries)) (map file_of files) → now ≡ old
    → FailsEntry now (entry_of (get_or entries i d)) fault → StopsAtEntry old (map entry_of entries) fault
stops_here old now entries files i d fault l read same fails = record {
  before = map entry_of (take i entries);
  at = entry_of (get_or entries i d);
  after = map entry_of (drop (suc i) entries);
  is = ap (map entry_of) (split_at entries i d l)
      ∙ map_split entry_of (take i entries) (get_or entries i d) (drop (suc i) entries);
  files = map file_of files;
  read = read;
  fails = subst (λ (w : Option World). FailsEntry w (entry_of (get_or entries i d)) fault) same fails;
}

-- the recordings give this, and the plan stops in the fault
pub record StopsGiven (w : World) (entries : List Entry) (fault : Fault) : Type 0 where
  pub given : List (Result (List ℕ) InputFault)
  pub gives : GiveWaves w entries given
  pub stops : (rest : List (List ℕ) → Result Action Why) → IsEarly w (with_waves entries given rest) fault

pub stops_given : (w : World) (before : List Entry) (files : List FileRead) (e : Entry) (after : List Entry) (fault : Fault)
    → AllZip (IsReadOf (Some w)) before files → FailsEntry (Some w) e fault
    → StopsGiven w (before ++ e ∷ after) fault
stops_given w before files e after (RowFile row why) h f = record {
  given = given_files files ++ Err why ∷ given_waves w after;
  gives = given_about w before files e (Err why) after h f.2;
  stops = λ rest. stops_about w before files e why after (given_waves w after) rest h
      ∙ (λ i. Err (UnreadRow (sym f.0 i) (sym f.1 i) why));
}
stops_given w before files e after (Run run.Memory path) h f = record {
  given = given_waves w (before ++ e ∷ after);
  gives = all_given w (before ++ e ∷ after);
  stops = λ rest. tt;
}
stops_given w before files e after (Words x) h f = absurd f
stops_given w before files e after NotText h f = absurd f
stops_given w before files e after (NoNumber n) h f = absurd f
stops_given w before files e after (NoName n) h f = absurd f
stops_given w before files e after (File path g) h f = absurd f
stops_given w before files e after (Output g path) h f = absurd f
stops_given w before files e after (RowRecording row g) h f = absurd f
stops_given w before files e after (FolderThere path) h f = absurd f
stops_given w before files e after (HasFindings path) h f = absurd f
stops_given w before files e after PipeClosed h f = absurd f
stops_given w before files e after (Run (run.Read g) path) h f = absurd f
stops_given w before files e after (Run (run.ReadFirst g) path) h f = absurd f
stops_given w before files e after (Run (run.ReadSecond g) path) h f = absurd f
stops_given w before files e after (Run (run.ReadFrom g) path) h f = absurd f
stops_given w before files e after (Run (run.Script g) path) h f = absurd f
stops_given w before files e after (Run (run.Table g) path) h f = absurd f
stops_given w before files e after (Run (run.Refused n g) path) h f = absurd f
stops_given w before files e after (Run (run.NotNeutral n) path) h f = absurd f
stops_given w before files e after (Run run.OtherVersion path) h f = absurd f
stops_given w before files e after (Run (run.Notes g) path) h f = absurd f
stops_given w before files e after (Run (run.Recording g) path) h f = absurd f
stops_given w before files e after (Run (run.NoMember g) path) h f = absurd f
stops_given w before files e after (Run (run.Presets g) path) h f = absurd f
stops_given w before files e after (Run (run.Full g) path) h f = absurd f
stops_given w before files e after (Run run.PlanFailed path) h f = absurd f
stops_given w before files e after (Run (run.InRecording i g) path) h f = absurd f
stops_given w before files e after (Run (run.Write a n) path) h f = absurd f

pub listed_unread : (k : KitWork) (members : KitMembers) (file : List ℕ) (listing : Listing) (old mid new : Option World)
    (printed : Option (List ℕ)) (written : ℕ) (fault : Fault) (u : Unit {0})
    → Passes (recordings_apart k (paths_of listing.entries)) old mid (Ok u)
    → StopsAtEntry mid listing.entries fault × (new ≡ mid)
    → EndsListed {U = Unit {0}} k members file listing (at old printed) (at new printed) written (Err fault)
listed_unread k members file listing None mid new printed written fault u pass read = tt
listed_unread k members file listing (Some w) mid new printed written fault u pass read =
    let at_entry = subst (λ (x : Option World). StopsAtEntry x listing.entries fault) pass.1 read.0 in
    let s = subst (λ (es : List Entry). StopsGiven w es fault) (sym at_entry.is)
    (stops_given w at_entry.before at_entry.files at_entry.at at_entry.after fault at_entry.read at_entry.fails) in
    let rest : List (List ℕ) → Result Action Why =
    λ waves. with_kit k listing.entries
    (kit_outcome (record { zones = listing.zones; members = members }) k.options (map source_at (zip listing.entries waves)) file)
    in
    record {
      given = s.given;
      gives = s.gives;
      ends = ends_early w (listed_plan k members file listing s.given w) (at (Some w) printed) (at new printed) written fault
          (subst (λ (x : Result Action Why). IsEarly w x fault) (sym (pass.0 (with_waves listing.entries s.given rest)))
          (s.stops rest))
          (untouched (Some w) new printed (read.1 ∙ pass.1));
    }

pub listed_end : (k : KitWork) (members : KitMembers) (file : List ℕ) (listing : Listing) (files : List FileRead)
    (old mid last : Option World) (printed : Option (List ℕ)) (new : Outside) (written : ℕ) (end : Result (Unit {0}) Fault)
    (u : Unit {0})
    → Passes (recordings_apart k (paths_of listing.entries)) old mid (Ok u)
    → AllZip (IsReadOf mid) listing.entries files × (last ≡ mid)
    → EndsFor (λ w. with_kit k listing.entries
    (kit_outcome (record { zones = listing.zones; members = members }) k.options (map source_read files) file))
    (at last printed) new written end
    → EndsListed k members file listing (at old printed) new written end
listed_end k members file listing files None mid last printed new written end u pass read done = tt
listed_end k members file listing files (Some w) mid last printed new written end u pass read done =
    let outcome_of : List Source → Result Action Why =
    λ sources. with_kit k listing.entries
    (kit_outcome (record { zones = listing.zones; members = members }) k.options sources file) in
    let rest : List (List ℕ) → Result Action Why =
    λ waves. outcome_of (map source_at (zip listing.entries waves)) in
    let here = subst (λ (x : Option World). AllZip (IsReadOf x) listing.entries files) pass.1 read.0 in
    let d = subst (λ (x : Option World). EndsFor (λ w. outcome_of (map source_read files)) (at x printed) new written end)
    (read.1 ∙ pass.1) done in
    let is = pass.0 (with_waves listing.entries (given_files files) rest) ∙ waves_pass w listing.entries files rest here
    ∙ ap outcome_of (sources_read w listing.entries files here) in
    record {
      given = given_files files;
      gives = files_given w listing.entries files here;
      ends = subst (λ (x : Result Action Why). EndsAs w x (at (Some w) printed) new written end) (sym is) d;
    }
