-- What a request does, as a function of the world of files and of what its inputs give.
use Rattle.std.specs.Prelude.{◌||◌, not, [], ◌∷◌, Option, Some, None, Result, Ok}
use Rattle.std.specs.Prelude.{⊤}
use Rattle.file_host.specs.World.{World}
use Rattle.file_host.specs.Checks.{is_one_file}
use Rattle.script_of_bank.specs.declared.samples.SamplePoints.TheVariants.{Kept}
use Rattle.program_commands.specs.declared.words.Request.{Request}
use Rattle.program_commands.specs.declared.words.Request.TheVariants.{Apply, ApplyOnly, Canon, Check, Copy, Diff, Explain, Import, ImportKit}
use Rattle.program_commands.specs.declared.words.Request.TheVariants.{Keep, Live, Map, Merge, New, Pack, Page, Play, Replace, Script, Show}
use Rattle.program_commands.specs.declared.words.Request.TheVariants.{Take, Tidy, Unpack, Wave, WaveAll}
use Rattle.program_commands.specs.declared.plans.Kept as kept
use Rattle.program_commands.specs.declared.plans.Kept.TheVariants.{Notes, Presets}
use Rattle.program_commands.specs.declared.plans.PlanPaths.{PlanPaths}
use Rattle.bank_format.specs.ReadChecks.{fault_of}
use Rattle.sfbank.specs.Outcome.{after_reading, bank_in, canon_outcome}
use Rattle.sfbank.specs.Outcome.{play_outcome}
use Rattle.sfbank.specs.EditRuns.{outcome_of}
use Rattle.sfbank.specs.BankScripts.{script_outcome}
use Rattle.sfbank.specs.Differences.{two_banks_of}
use Rattle.sfbank.specs.NewBanks.{new_outcome}
use Rattle.sfbank.specs.Maps.{map_outcome}
use Rattle.sfbank.specs.Recordings.{import_outcome, replace_outcome}
use Rattle.sfbank.specs.Purposes.{copying, keeping_listed, keeping_played, merging, taking, tidying}
use Rattle.sfbank.specs.FolderPlans.{bank_outcome, entries_of_text, pack_plan, text_path, with_folder}
use Rattle.sfbank.specs.KitFolders.{with_samples}
use Rattle.sfbank.specs.KitPlans.{GiveWaves, entries_of, kit_plan, members_of, table_of, work_of}
use Rattle.sfbank.specs.PlanParts.{Path, standard_output, Action, Why, Inputs, GivesInput, apart, no_bank, with_input}
use Rattle.sfbank.specs.PlanParts.{with_text, with_print, with_both, without_undo, with_difference, with_edits}
use Rattle.sfbank.specs.PlanParts.{undo_apart, both_apart, listing_outcome, form_of, import_name, export_outcome}
use Rattle.sfbank.specs.PlanParts.{Explanation, Prints, Plays, with_findings, with_page}

-- the paths of the inputs
abbrev pub first_input : Request → Option Path
first_input (Apply paths) = Some paths.input.now
first_input (ApplyOnly paths) = Some paths.input.now
first_input (Canon paths) = Some paths.input.now
first_input (Check paths) = Some paths.input.now
first_input (Copy copy) = Some copy.paths.input.now
first_input (Diff paths) = Some paths.first.now
first_input (Explain topic) = None
first_input (Import paths) = Some paths.input.now
first_input (ImportKit paths) = Some paths.input.now
first_input (Keep keep) = Some keep.paths.input.now
first_input (Live paths) = Some paths.input.now
first_input (Map paths) = Some paths.input.now
first_input (Merge merge) = Some merge.paths.input.now
first_input (New bank) = None
first_input (Pack paths) = Some (text_path paths.folder.now)
first_input (Page paths) = Some paths.input.now
first_input (Play paths) = Some paths.input.now
first_input (Replace paths) = Some paths.input.now
first_input (Script paths) = Some paths.input.now
first_input (Show paths) = Some paths.input.now
first_input (Take take) = Some take.paths.input.now
first_input (Tidy tidy) = Some tidy.paths.input.now
first_input (Unpack paths) = Some paths.input.now
first_input (Wave paths) = Some paths.input.now
first_input (WaveAll paths) = Some paths.input.now

-- the notes whose presets are kept
abbrev pub notes_in : kept.Kept → Option Path
notes_in (Notes path zones) = Some path.now
notes_in (Presets list) = None

abbrev pub second_input : Request → Option Path
second_input (Apply paths) = Some paths.script.now
second_input (ApplyOnly paths) = Some paths.script.now
second_input (Diff paths) = Some paths.second.now
second_input (Import paths) = Some paths.wave.now
second_input (ImportKit paths) = table_of paths.source
second_input (Keep keep) = notes_in keep.kept
second_input (Merge merge) = Some merge.from.now
second_input (Play paths) = Some paths.notes.now
second_input (Replace paths) = Some paths.wave.now
second_input (Take take) = Some take.from.now
second_input other = None

-- the recordings of a kit or of a folder give what the world says
abbrev pub GivesOthers : World → Request → Inputs → Type 0
GivesOthers world (ImportKit paths) inputs = GiveWaves world (entries_of paths.source inputs.second) inputs.others
GivesOthers world (Pack paths) inputs = GiveWaves world (entries_of_text paths.folder.now inputs.first) inputs.others
GivesOthers world request inputs = ⊤

abbrev pub AreInputs : World → Request → Inputs → Type 0
AreInputs world request inputs =
    GivesInput world (first_input request) inputs.first × GivesInput world (second_input request) inputs.second
    × GivesOthers world request inputs

-- ---- the plan

-- what `keep` does: it keeps the presets that notes play, or those with these numbers
abbrev pub keep_plan : PlanPaths → kept.Kept → World → Inputs → Result Action Why
keep_plan p (Notes notes zones) world inputs =
    both_apart world p notes.now
    (with_input p.input.now inputs.first
    (λ file. with_input notes.now inputs.second
    (λ text. with_edits p file (keeping_played zones file text))))
keep_plan p (Presets list) world inputs =
    undo_apart world p
    (with_input p.input.now inputs.first
    (λ file. with_edits p file (after_reading (fault_of file) (keeping_listed (bank_in file) list.items))))

-- what a request does, or why it does nothing
abbrev pub plan : Request → World → Inputs → Result Action Why
plan (Apply p) world inputs =
    apart world p.out.now (p.script.now ∷ [])
    (apart world p.undo.now (p.input.now ∷ p.script.now ∷ p.out.now ∷ [])
    (no_bank world p.undo.now p.force
    (with_input p.input.now inputs.first
    (λ file. with_input p.script.now inputs.second (λ script. with_both p.out.now p.undo.now (outcome_of p.forms file script))))))
plan (ApplyOnly p) world inputs =
    apart world p.out.now (p.script.now ∷ [])
    (with_input p.input.now inputs.first
    (λ file. with_input p.script.now inputs.second
    (λ script. with_text world p.out.now (without_undo (outcome_of p.forms file script)))))
plan (Canon p) world inputs = with_input p.input.now inputs.first (λ file. with_text world p.out.now (canon_outcome file))
plan (Check p) world inputs = with_input p.input.now inputs.first (λ file. with_findings p (bank_outcome file))
plan (Copy copy) world inputs =
    undo_apart world copy.paths
    (with_input copy.paths.input.now inputs.first
    (λ file. with_edits copy.paths file (copying file copy.member copy.name)))
plan (Diff p) world inputs =
    no_bank world p.out.now p.force
    (with_input p.first.now inputs.first
    (λ a. with_input p.second.now inputs.second (λ b. with_difference world p.out.now (not p.no_comments) a b (two_banks_of a b))))
plan (Explain topic) world inputs = Ok (Prints standard_output (Explanation topic))
plan (Import p) world inputs =
    apart world p.out.now (p.wave.now ∷ [])
    (apart world p.undo.now (p.input.now ∷ p.wave.now ∷ p.out.now ∷ [])
    (no_bank world p.undo.now p.force
    (with_input p.input.now inputs.first
    (λ file. with_input p.wave.now inputs.second
    (λ wave. with_both p.out.now p.undo.now (import_outcome p.options (import_name p) file wave))))))
plan (ImportKit p) world inputs = kit_plan (work_of p) (members_of p) p.source inputs world
plan (Keep keep) world inputs = keep_plan keep.paths keep.kept world inputs
plan (Live p) world inputs =
    apart world p.pcm.now (p.input.now ∷ [])
    (no_bank world p.pcm.now p.force (with_input p.input.now inputs.first (λ file. Ok (Plays p file))))
plan (Map p) world inputs =
    no_bank world p.out.now p.force
    (with_input p.input.now inputs.first (λ file. with_text world p.out.now (map_outcome file p.drawn)))
plan (Merge merge) world inputs =
    both_apart world merge.paths merge.from.now
    (with_input merge.paths.input.now inputs.first
    (λ file. with_input merge.from.now inputs.second (λ other. with_edits merge.paths file (merging file other merge.shift))))
plan (New p) world inputs = no_bank world p.out.now p.force (with_text world p.out.now (new_outcome p.minor))
plan (Pack p) world inputs = pack_plan p inputs world
plan (Page p) world inputs =
    no_bank world p.out.now p.force
    (with_input p.input.now inputs.first (λ file. with_page world p.out.now (bank_outcome file)))
plan (Play p) world inputs =
    apart world p.out.now (p.notes.now ∷ [])
    (no_bank world p.out.now (p.force || is_one_file world p.out.now p.input.now)
    (with_input p.input.now inputs.first
    (λ file. with_input p.notes.now inputs.second (λ notes. with_text world p.out.now (play_outcome file notes)))))
plan (Replace p) world inputs =
    apart world p.out.now (p.wave.now ∷ [])
    (apart world p.undo.now (p.input.now ∷ p.wave.now ∷ p.out.now ∷ [])
    (no_bank world p.undo.now p.force
    (with_input p.input.now inputs.first
    (λ file. with_input p.wave.now inputs.second
    (λ wave. with_both p.out.now p.undo.now (replace_outcome p.options p.sample file wave))))))
plan (Script p) world inputs =
    no_bank world p.out.now p.force
    (with_input p.input.now inputs.first (λ file. with_text world p.out.now (script_outcome (form_of p) file)))
plan (Show p) world inputs = with_input p.input.now inputs.first (λ file. with_print (listing_outcome p file))
plan (Take take) world inputs =
    both_apart world take.paths take.from.now
    (with_input take.paths.input.now inputs.first
    (λ file. with_input take.from.now inputs.second (λ other. with_edits take.paths file (taking file other take.presets.items))))
plan (Tidy tidy) world inputs =
    undo_apart world tidy.paths
    (with_input tidy.paths.input.now inputs.first (λ file. with_edits tidy.paths file (tidying file tidy.merge)))
plan (Unpack p) world inputs =
    with_input p.input.now inputs.first (λ file. with_folder p (bank_outcome file))
plan (Wave p) world inputs =
    no_bank world p.out.now p.force
    (with_input p.input.now inputs.first (λ file. with_text world p.out.now (export_outcome p file)))
plan (WaveAll p) world inputs =
    with_input p.input.now inputs.first (λ file. with_samples p (bank_outcome file))
