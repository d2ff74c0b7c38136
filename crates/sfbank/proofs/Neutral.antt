-- Runs of neutral edits.
use Rattle.std.proofs.Common.{◌≡◌, ℕ, Bool, true, false, List, [], ◌∷◌, Option, Some, None, Result, Ok, Err, refl}
use Rattle.std.proofs.Common.{suc, sym, ap, subst, ◌∙◌, ◌++◌}
use Rattle.std.specs.List.{AllByRecursion}
use Rattle.bank_parts.specs.declared.parts.Parts.{Parts}
use Rattle.bank_parts.specs.Sound.{IsSound}
use Rattle.hydra_records.specs.Records.{AreBytes}
use Rattle.bank_format.specs.declared.fault.ReadFault.{ReadFault}
use Rattle.bank_format.specs.Canon.{canon}
use Rattle.bank_format.specs.ReadChecks.{fault_of}
use Rattle.bank_format.proofs.RoundTrip.{reads-again}
use Rattle.bank_format.proofs.ReadValid.{read_valid, read_fits}
use Rattle.edit_refusals.specs.Edits.{raw}
use Rattle.edit_forms.specs.declared.edit.Edit.{Edit}
use Rattle.bank_edits.specs.EditChanges.{inverse}
use Rattle.bank_edits.specs.Runs.{AllAccepted, after_all, undo_list}
use Rattle.bank_edits.proofs.Law.{undone}
use Rattle.bank_edits.proofs.RunLaw.{all_undone}
use Rattle.script_tokens.specs.declared.fault.ScriptFault.{ScriptFault}
use Rattle.edit_script.specs.declared.parsing.Line.{Line}
use Rattle.edit_script.specs.Script.{script_of}
use Rattle.edit_script.specs.Printing.{numbered}
use Rattle.edit_script.proofs.FitLaws.{script_fits}
use Rattle.edit_script.proofs.LineLaws.{printed_is_read}
use Rattle.script_notes.specs.declared.fault.NoteFault.{NoteFault}
use Rattle.script_notes.specs.Notes.{Numbers, notes_of}
use Rattle.mixer.specs.Render.{render}
use Rattle.sound_neutral_edits.specs.Neutral.{is_neutral}
use Rattle.sound_neutral_edits.proofs.EventLaws.{neutral_render}
use Rattle.sound_neutral_edits.proofs.UndoneLaws.{neutral_back}
use Rattle.wave_file.specs.Wave.{wave}
use Rattle.program_commands.specs.declared.words.Forms.TheVariants.{Every, Neutral}
use Rattle.sfbank.specs.Outcome.{Done, edits_of, unless_neutral, first_not_neutral, if_neutral, after_script}
use Rattle.sfbank.specs.Outcome.{after_neutral_script, after_reading, bank_in, outcome, neutral_outcome, after_notes}
use Rattle.sfbank.specs.Outcome.{play_outcome, IsNeutrallyUndone, IsRunOfEdits, EditedRendersSame}
use Rattle.sfbank.specs.EditRuns.{outcome_of}
use Rattle.sfbank.proofs.Restores.{reading_done, all_accepted, all_fit, script_done, restores}
use Rattle.sfbank.proofs.RenderLaws.{played_on}

-- ---- the outcome of a run, by the forms that it accepts

pub of_every : (file script : List ℕ) → outcome_of Every file script ≡ outcome file script
unfolding outcome
of_every file script = refl

pub of_neutral : (file script : List ℕ) → outcome_of Neutral file script ≡ neutral_outcome file script
unfolding neutral_outcome
of_neutral file script = refl

-- ---- a neutral run that succeeds

record NeutralScript (b : Parts) (parsed : Result (List Line) ScriptFault) (done : Done) : Type 0 where
  lines : List Line
  parses : parsed ≡ Ok lines
  neutral : first_not_neutral lines ≡ None
  outcome_is : after_script b parsed ≡ Ok done

neutral_script : (b : Parts) (parsed : Result (List Line) ScriptFault) (done : Done)
    → after_neutral_script b parsed ≡ Ok done → NeutralScript b parsed done
neutral_script b (Err f) done h = absurd cc
neutral_script b (Ok lines) done h = by_what (first_not_neutral lines) refl h
  where
    by_what : (o : Option ℕ) → first_not_neutral lines ≡ o → if_neutral o (after_script b (Ok lines)) ≡ Ok done
        → NeutralScript b (Ok lines) done
    by_what None e h = record { lines = lines; parses = refl; neutral = e; outcome_is = h }
    by_what (Some number) e h = absurd cc

record NeutralDone (file script : List ℕ) (done : Done) : Type 0 where
  read : fault_of file ≡ None
  of_script : NeutralScript (bank_in file) (script_of script) done

neutral_done : (file script : List ℕ) (done : Done) → neutral_outcome file script ≡ Ok done
    → NeutralDone file script done
unfolding neutral_outcome
neutral_done file script done h =
    let read = reading_done (fault_of file) (after_neutral_script (bank_in file) (script_of script)) done h in
    record { read = read.0; of_script = neutral_script (bank_in file) (script_of script) done read.1 }

-- the run that accepts every edit has the same outcome
as_every : (file script : List ℕ) (done : Done) → neutral_outcome file script ≡ Ok done → outcome file script ≡ Ok done
unfolding outcome
as_every file script done h =
    let d = neutral_done file script done h in
    ap (λ (o : Option ReadFault). after_reading o (after_script (bank_in file) (script_of script))) d.read
    ∙ d.of_script.outcome_is

pub runs_edits : (file script : List ℕ) → IsRunOfEdits file script
runs_edits file script done h = as_every file script done h

-- and conversely, if all lines are neutral
as_neutral : (file script : List ℕ) (done : Done) (lines : List Line) → outcome file script ≡ Ok done
    → script_of script ≡ Ok lines → first_not_neutral lines ≡ None → neutral_outcome file script ≡ Ok done
unfolding outcome neutral_outcome
as_neutral file script done lines h parses neutral =
    let b = bank_in file in
    let read = reading_done (fault_of file) (after_script b (script_of script)) done h in
    ap (λ (o : Option ReadFault). after_reading o (after_neutral_script b (script_of script))) read.0
    ∙ ap (after_neutral_script b) parses
    ∙ ap (λ (o : Option ℕ). if_neutral o (after_script b (Ok lines))) neutral
    ∙ ap (after_script b) (sym parses)
    ∙ read.1

-- ---- the undo text of neutral edits

AllNeutral : List Edit → Type 0
AllNeutral es = AllByRecursion (λ (e : Edit). is_neutral e ≡ true) es

with_last : (es : List Edit) (e : Edit) → AllNeutral es → is_neutral e ≡ true → AllNeutral (es ++ e ∷ [])
unfolding AllNeutral
with_last [] e h n = (n, tt)
with_last (x ∷ xs) e h n = (h.0, with_last xs e h.1 n)

or_neutral : (x : Bool) (number : ℕ) (later : Option ℕ) → unless_neutral x number later ≡ None
    → (x ≡ true) × (later ≡ None)
or_neutral true number later h = (refl, h)
or_neutral false number later h = absurd cc

edits_neutral : (lines : List Line) → first_not_neutral lines ≡ None → AllNeutral (edits_of lines)
unfolding AllNeutral
edits_neutral [] h = tt
edits_neutral (l ∷ lines) h =
    let both = or_neutral (is_neutral l.edit) l.number (first_not_neutral lines) h in
    (both.0, edits_neutral lines both.1)

lines_neutral : (n : ℕ) (es : List Edit) → AllNeutral es → first_not_neutral (numbered n es) ≡ None
unfolding AllNeutral
lines_neutral n [] h = refl
lines_neutral n (e ∷ es) h = rw h.0 (lines_neutral (suc n) es h.1)

undo_neutral : (b : Parts) (es : List Edit) → AllNeutral es → AllNeutral (undo_list b es)
unfolding AllNeutral
undo_neutral b [] h = tt
undo_neutral b (e ∷ es) h =
    with_last (undo_list (raw b e) es) (inverse b e) (undo_neutral (raw b e) es h.1) (neutral_back b e h.0)

pub neutrally_restores : (file script : List ℕ) → AreBytes file → IsNeutrallyUndone file script
neutrally_restores file script bytes done lines h parses =
    let d = neutral_done file script done h in
    let b = bank_in file in
    let es = edits_of lines in
    let us = undo_list b es in
    let same = lines_same (script_of script) d.of_script.lines lines d.of_script.parses parses in
    let neutral = subst (λ (ls : List Line). first_not_neutral ls ≡ None) same d.of_script.neutral in
    let run = script_done b lines done (ap (after_script b) (sym parses) ∙ d.of_script.outcome_is) in
    let sound : IsSound b = record { valid = read_valid file bytes d.read; fits = read_fits file bytes } in
    let undone = all_undone b es sound (all_accepted b lines (script_fits script lines parses) run.accepted) in
    let parsed : script_of done.undo ≡ Ok (numbered 1 us) =
    ap (λ (x : Done). script_of x.undo) run.texts ∙ printed_is_read us (all_fit (after_all b es) us undone.is_accepted) in
    as_neutral done.out done.undo _ (numbered 1 us)
    (restores file script bytes done lines (as_every file script done h) parses) parsed
    (lines_neutral 1 us (undo_neutral b es (edits_neutral lines neutral)))
  where
    lines_same : (parsed : Result (List Line) ScriptFault) (x y : List Line) → parsed ≡ Ok x → parsed ≡ Ok y → x ≡ y
    lines_same parsed x y h k = cc

-- ---- rendering

-- neutral edits in order
render_same : (b : Parts) (lines : List Line) → IsSound b → AllAccepted b (edits_of lines) → first_not_neutral lines ≡ None
    → (ns : List Numbers) → render (after_all b (edits_of lines)) ns ≡ render b ns
render_same b [] sound is_accepted neutral ns = refl
render_same b (l ∷ lines) sound is_accepted neutral ns =
    let both = or_neutral (is_neutral l.edit) l.number (first_not_neutral lines) neutral in
    render_same (raw b l.edit) lines (undone b l.edit sound is_accepted.0).sound is_accepted.1 both.1 ns
    ∙ neutral_render b l.edit sound is_accepted.0 both.0 ns

played_same : (b end : Parts) (parsed : Result (List Numbers) NoteFault)
    → ((ns : List Numbers) → render end ns ≡ render b ns) → after_notes end parsed ≡ after_notes b parsed
played_same b end (Ok ns) h = ap (λ xs. Ok (wave xs)) (h ns)
played_same b end (Err fault) h = refl

pub edited_renders_same : (file script : List ℕ) → AreBytes file → EditedRendersSame file script
edited_renders_same file script bytes done notes h =
    let d = neutral_done file script done h in
    let b = bank_in file in
    let lines = d.of_script.lines in
    let run = script_done b lines done (ap (after_script b) (sym d.of_script.parses) ∙ d.of_script.outcome_is) in
    let sound : IsSound b = record { valid = read_valid file bytes d.read; fits = read_fits file bytes } in
    let is_accepted = all_accepted b lines (script_fits script lines d.of_script.parses) run.accepted in
    let end : Parts = after_all b (edits_of lines) in
    let end_sound = (all_undone b (edits_of lines) sound is_accepted).sound in
    ap (λ (x : Done). play_outcome x.out notes) run.texts
    ∙ played_on (canon end) notes end _ (reads-again end end_sound.valid end_sound.fits)
    ∙ played_same b end (notes_of notes) (render_same b lines sound is_accepted d.of_script.neutral)
    ∙ sym (played_on file notes b _ (d.read, refl))
