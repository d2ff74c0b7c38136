-- On files: what `apply` restores of its own outputs.
use Rattle.std.proofs.Common.{◌≡◌, ◌≢◌, ℕ, List, [], ◌∷◌, None, Result, Ok, Err, Bool, true, false, refl, sym, ap, ◌∙◌}
use Rattle.std.specs.Prelude.{if◌then◌else◌, nat_le, length, not, ◌&&◌}
use Rattle.base_outputs.specs.declared.output_fault.OutputFault.TheVariants.{SameFile, HoldsBank}
use Rattle.hydra_records.specs.Records.{AreBytes}
use Rattle.bank_format.specs.Canon.{canon}
use Rattle.bank_format.specs.ReadChecks.{fault_of}
use Rattle.edit_script.specs.declared.parsing.Line.{Line}
use Rattle.edit_script.specs.Script.{script_of}
use Rattle.edit_script.specs.Printing.{texts_of}
use Rattle.file_host.specs.declared.input_fault.InputFault.TheVariants.{TooLong}
use Rattle.file_host.specs.World.{World, held_at, file_at, read_of, place_of, stores_at, with_file, with_text, with_pair}
use Rattle.file_host.specs.World.{most_bytes}
use Rattle.file_host.specs.Checks.{is_one_of, is_bank_at}
use Rattle.file_host.proofs.FileLaws.{put_at, put_beside}
use Rattle.program_commands.specs.declared.words.ApplyPaths.{ApplyPaths}
use Rattle.program_commands.specs.declared.words.Request.{Request}
use Rattle.live_sessions.specs.Saved.{saved_of}
use Rattle.inverse_edits.specs.Histories.{undo_edits}
use Rattle.program_commands.specs.declared.words.Forms.{Forms}
use Rattle.program_commands.specs.declared.words.Forms.TheVariants.{Every, Neutral}
use Rattle.program_reports.specs.declared.run_fault.RunFault.{RunFault}
use Rattle.sfbank.specs.Outcome.{Done, bank_in, edits_of, outcome, play_outcome}
use Rattle.sfbank.specs.EditRuns.{after_lines, outcome_of}
use Rattle.sfbank.specs.declared.program.recorded.RecordingWork.{RecordingWork}
use Rattle.sfbank.specs.PlanParts.{Inputs, Why, Rejected, SavesBoth, Known, unless, with_both}
use Rattle.sfbank.specs.UndoneFiles.{IsApplied, IsRecorded, ArePlaced, RunsOn, IsRestored}
use Rattle.sfbank.specs.UndoneFiles.{UndoRestoresFiles, UndoRemovesRecordings, UndoRemovesKits, UndoRestoresPlans}
use Rattle.sfbank.specs.UndoneFiles.{UndoEndsSessions}
use Rattle.sfbank.specs.Purposes.{promise_of}
use Rattle.sfbank.specs.SavedBanks.{SavedUndoRestores}
use Rattle.sfbank.specs.Recordings.{change_of, recording_outcome}
use Rattle.sfbank.proofs.Neutral.{of_every, of_neutral, neutrally_restores}
use Rattle.sfbank.proofs.Restores.{restores, reading_done}
use Rattle.sfbank.proofs.KitRuns.{kit_adds, kit_read, kit_restores}
use Rattle.sfbank.proofs.Recordings.{destination_fits, recording_read, recording_restores}
use Rattle.sfbank.proofs.PlannedEdits.{no_fault, plan_is_undone}
use Rattle.sfbank.proofs.RenderLaws.{played_on_canon}

-- ---- files that were saved

pub held_text : (world : World) (path text : List ℕ) → stores_at world path ≡ true
    → held_at (with_text path text world) path ≡ Ok text
held_text world path text stores =
    ap (λ (b : Bool). held_at (if b then with_file path (Ok text) world else world) path) stores
    ∙ put_at world.files (place_of world path) (Ok text)

-- a text that is saved at another place leaves a file
held_beside : (world : World) (path text other : List ℕ) (b : Bool) → place_of world other ≢ place_of world path
    → held_at (if b then with_file path (Ok text) world else world) other ≡ held_at world other
held_beside world path text other true apart =
    put_beside world.files (place_of world path) (Ok text) (place_of world other) apart
held_beside world path text other false apart = refl

paths_stay : (world : World) (path text : List ℕ) (b : Bool)
    → (if b then with_file path (Ok text) world else world).paths ≡ world.paths
paths_stay world path text true = refl
paths_stay world path text false = refl

-- where the text of a pair is saved
pub pair_out : (world : World) (undo_path undo path text : List ℕ) → stores_at world path ≡ true
    → held_at (with_pair undo_path undo path text world) path ≡ Ok text
pair_out world undo_path undo path text stores =
    let mid = with_text undo_path undo world in
    let same : mid.paths ≡ world.paths = paths_stay world undo_path undo (stores_at world undo_path) in
    held_text mid path text (ap (λ p. p.stores (p.place path)) same ∙ stores)

-- where its undo script is saved
pair_undo : (world : World) (undo_path undo path text : List ℕ) → stores_at world undo_path ≡ true
    → place_of world path ≢ place_of world undo_path
    → held_at (with_pair undo_path undo path text world) undo_path ≡ Ok undo
pair_undo world undo_path undo path text stores apart =
    let mid = with_text undo_path undo world in
    let same : mid.paths ≡ world.paths = paths_stay world undo_path undo (stores_at world undo_path) in
    held_beside mid path text undo_path (stores_at mid path)
    (λ e. apart (sym (ap (λ p. p.place undo_path) (sym same) ∙ e ∙ ap (λ p. p.place path) same)))
    ∙ held_text world undo_path undo stores

-- a text that could be read again was read whole
whole_if : (text bytes : List ℕ) (b : Bool) → (if b then Ok text else Err TooLong) ≡ Ok bytes → text ≡ bytes
whole_if text bytes true e = cc
whole_if text bytes false e = cc

read_whole : (text bytes : List ℕ) → read_of (Ok text) ≡ Ok bytes → text ≡ bytes
read_whole text bytes e = whole_if text bytes (nat_le (length text) most_bytes) e

-- ---- what was planned

pub unless_done : {X : Type 0} (test : Bool) (why : Why) (rest : Result X Why) (x : X) → unless test why rest ≡ Ok x → rest ≡ Ok x
unless_done true why rest x e = cc
unless_done false why rest x e = e

both_done : (out undo : List ℕ) (r : Result Done RunFault) (done : Done)
    → with_both out undo r ≡ Ok (SavesBoth out undo (Known done)) → r ≡ Ok done
both_done out undo (Ok x) done e = cc
both_done out undo (Err fault) done e = cc

-- the outcome of a run that was applied
pub applied_outcome : (p : ApplyPaths) (old new : World) (file script : List ℕ) (done : Done)
    → IsApplied p old new file script done → outcome_of p.forms file script ≡ Ok done
applied_outcome p old new file script done h =
    let out = is_one_of old p.out.now (p.script.now ∷ []) in
    let undo = is_one_of old p.undo.now (p.input.now ∷ p.script.now ∷ p.out.now ∷ []) in
    let bank = not p.force && is_bank_at old p.undo.now in
    let rest = with_both p.out.now p.undo.now (outcome_of p.forms file script) in
    let no_bank = unless bank (Rejected p.undo.now HoldsBank) rest in
    let apart = unless undo (Rejected p.undo.now SameFile) no_bank in
    both_done p.out.now p.undo.now (outcome_of p.forms file script) done
    (unless_done bank (Rejected p.undo.now HoldsBank) rest _
    (unless_done undo (Rejected p.undo.now SameFile) no_bank _
    (unless_done out (Rejected p.out.now SameFile) apart _ h.planned)))

-- in either mode, the undo script leads back
leads_back : (forms : Forms) (file script : List ℕ) (done : Done) (lines : List Line) → AreBytes file
    → outcome_of forms file script ≡ Ok done → script_of script ≡ Ok lines
    → outcome_of forms done.out done.undo ≡ Ok (record { out = canon (bank_in file); undo = texts_of (edits_of lines) })
leads_back Every file script done lines bytes e parses =
    of_every done.out done.undo ∙ restores file script bytes done lines (sym (of_every file script) ∙ e) parses
leads_back Neutral file script done lines bytes e parses =
    of_neutral done.out done.undo ∙ neutrally_restores file script bytes done lines (sym (of_neutral file script) ∙ e) parses

pub ok_same : (x y : Done) (r : Result Done RunFault) → r ≡ Ok x → r ≡ Ok y → x ≡ y
ok_same x y r e h = cc

-- what the second run read
pub second_read : (now left : World) (path text other bytes : List ℕ) → other ≡ path → file_at now path ≡ file_at left path
    → held_at left path ≡ Ok text → file_at now other ≡ Ok bytes → text ≡ bytes
second_read now left path text other bytes e stays held read =
    read_whole text bytes (ap read_of (sym held) ∙ sym stays ∙ ap (file_at now) (sym e) ∙ read)

-- what a second run gave, on what was left
second_gives : (second : ApplyPaths) (out undo : List ℕ) (old left now new : World) (file script : List ℕ)
    (done back : Done) → left ≡ with_pair undo done.undo out done.out old → ArePlaced old out undo
    → RunsOn second out undo left now new file script back → outcome_of second.forms done.out done.undo ≡ Ok back
second_gives second out undo old left now new file script done back saved placed h =
    let held_out : held_at left out ≡ Ok done.out =
    ap (λ (w : World). held_at w out) saved ∙ pair_out old undo done.undo out done.out placed.stores_out in
    let held_undo : held_at left undo ≡ Ok done.undo =
    ap (λ (w : World). held_at w undo) saved ∙ pair_undo old undo done.undo out done.out placed.stores_undo placed.apart in
    let same_file : done.out ≡ file =
    second_read now left out done.out second.input.now file h.out_is h.stays_out held_out h.done.read in
    let same_script : done.undo ≡ script =
    second_read now left undo done.undo second.script.now script h.undo_is h.stays_undo held_undo h.done.read_script in
    (λ i. outcome_of second.forms (same_file i) (same_script i))
    ∙ applied_outcome second now new file script back h.done

-- the canonical file of a bank is what it gave
restored : (second : ApplyPaths) (now new : World) (file edits other_file other_script : List ℕ) (back : Done)
    → AreBytes file → fault_of file ≡ None → IsApplied second now new other_file other_script back
    → back ≡ record { out = canon (bank_in file); undo = edits } → IsRestored second now new file edits back
restored second now new file edits other_file other_script back bytes read b is =
    let bank : back.out ≡ canon (bank_in file) = ap (λ (d : Done). d.out) is in
    record {
      texts = is;
      holds_bank = λ stores. ap (λ (w : World). held_at w second.out.now) b.files
          ∙ pair_out now second.undo.now back.undo second.out.now back.out stores ∙ ap Ok bank;
      holds_edits = λ stores apart. ap (λ (w : World). held_at w second.undo.now) b.files
          ∙ pair_undo now second.undo.now back.undo second.out.now back.out stores apart
          ∙ ap (λ (d : Done). Ok d.undo) is;
      sound = λ notes. ap (λ (x : List ℕ). play_outcome x notes) bank ∙ played_on_canon file notes bytes read;
    }

-- a file of which there is an outcome is a bank
is_read : (forms : Forms) (file script : List ℕ) (done : Done) → outcome_of forms file script ≡ Ok done
    → fault_of file ≡ None
is_read forms file script done e =
    (reading_done (fault_of file) (after_lines forms (bank_in file) (script_of script)) done e).0

pub undo_restores_files : UndoRestoresFiles
undo_restores_files first second old left now new file script other_file other_script done back lines bytes parses a placed
    forms h =
    let was : outcome_of first.forms file script ≡ Ok done = applied_outcome first old left file script done a in
    let leads = leads_back first.forms file script done lines bytes was parses in
    let gives : outcome_of first.forms done.out done.undo ≡ Ok back =
    (λ i. outcome_of (sym forms i) done.out done.undo)
    ∙ second_gives second first.out.now first.undo.now old left now new other_file other_script done back a.files placed h
    in
    restored second now new file (texts_of (edits_of lines)) other_file other_script back bytes
    (is_read first.forms file script done was) h.done
    (ok_same back _ (outcome_of first.forms done.out done.undo) gives leads)

-- what `apply` gave with edits of all forms
every_gives : (second : ApplyPaths) (out undo : List ℕ) (old left now new : World) (file script : List ℕ) (done back : Done)
    → left ≡ with_pair undo done.undo out done.out old → ArePlaced old out undo → second.forms ≡ Every
    → RunsOn second out undo left now new file script back → outcome done.out done.undo ≡ Ok back
every_gives second out undo old left now new file script done back saved placed every h =
    sym (of_every done.out done.undo) ∙ (λ i. outcome_of (sym every i) done.out done.undo)
    ∙ second_gives second out undo old left now new file script done back saved placed h

-- the outcome of a recording that was brought into a bank
recorded_outcome : (work : RecordingWork) (request : Request) (old new : World) (file wave : List ℕ) (done : Done)
    → IsRecorded work request old new file wave done
    → recording_outcome (change_of work.destination) work.options file wave ≡ Ok done
recorded_outcome work request old new file wave done h =
    let p = work.paths in
    let result = recording_outcome (change_of work.destination) work.options file wave in
    let out = is_one_of old p.out.now (p.other.now ∷ []) in
    let undo = is_one_of old p.undo.now (p.input.now ∷ p.other.now ∷ p.out.now ∷ []) in
    let bank = not p.force && is_bank_at old p.undo.now in
    let rest = with_both p.out.now p.undo.now result in
    let no_bank = unless bank (Rejected p.undo.now HoldsBank) rest in
    let apart = unless undo (Rejected p.undo.now SameFile) no_bank in
    let inputs : Inputs = record { first = Ok file; second = Ok wave; others = [] } in
    both_done p.out.now p.undo.now result done
    (unless_done bank (Rejected p.undo.now HoldsBank) rest _
    (unless_done undo (Rejected p.undo.now SameFile) no_bank _
    (unless_done out (Rejected p.out.now SameFile) apart _ (sym (h.records.plans old inputs) ∙ h.planned))))

pub undo_removes_recordings : UndoRemovesRecordings
undo_removes_recordings work request second old left now new file wave other_file other_script done back r edits bytes
    wave_bytes fits key records changes a placed every h =
    let p = work.paths in
    let change = change_of work.destination in
    let was = recorded_outcome work request old left file wave done a in
    let gives =
    every_gives second p.out.now p.undo.now old left now new other_file other_script done back a.files placed every h
    in
    restored second now new file (texts_of edits) other_file other_script back bytes
    (recording_read change work.options file wave done was) h.done
    (ok_same back _ (outcome done.out done.undo) gives
    (recording_restores change work.options file wave (destination_fits work.destination fits) key bytes wave_bytes done r
    edits was records changes))

pub undo_removes_kits : UndoRemovesKits
undo_removes_kits design options sources out undo second old left now new file other_file other_script done back bytes key
    designed fits was saved placed every h =
    let gives =
    every_gives second out undo old left now new other_file other_script done back saved placed every h in
    let kit = kit_adds design options sources file done was in
    let leads =
    kit_restores design options sources file key designed fits bytes done kit.recordings kit.edits was kit.read kit.changes in
    let is : back ≡ record { out = canon (bank_in file); undo = texts_of kit.edits } =
    ok_same back _ (outcome done.out done.undo) gives leads in
    restored second now new file back.undo other_file other_script back bytes
    (kit_read design options sources file done was) h.done
    (is ∙ ap (λ (x : List ℕ). record { out = canon (bank_in file); undo = x }) (sym (ap (λ (d : Done). d.undo) is)))

pub undo_restores_plans : UndoRestoresPlans
undo_restores_plans purpose out undo second old left now new file other_file other_script done back found bytes saved placed
    every h =
    let promise = promise_of purpose in
    let gives =
    every_gives second out undo old left now new other_file other_script done back saved placed every h in
    restored second now new file (texts_of found.edits) other_file other_script back bytes
    (no_fault promise file done found) h.done
    (ok_same back _ (outcome done.out done.undo) gives (plan_is_undone promise file bytes done found))

pub undo_ends_sessions : SavedUndoRestores → UndoEndsSessions
undo_ends_sessions law file ts last c out undo second old left now new other_file other_script back bytes read turns history
    bank saved placed every h =
    let texts = saved_of c (undo_edits last.session) in
    let done : Done = record { out = texts.out; undo = texts.undo } in
    let leads = law file ts last c bytes read turns history bank in
    let gives =
    every_gives second out undo old left now new other_file other_script done back saved placed every h in
    let is : back ≡ record { out = canon (bank_in file); undo = leads.0 } =
    ok_same back _ (outcome texts.out texts.undo) gives leads.1 in
    restored second now new file back.undo other_file other_script back bytes read h.done
    (is ∙ ap (λ (x : List ℕ). record { out = canon (bank_in file); undo = x }) (sym (ap (λ (d : Done). d.undo) is)))
