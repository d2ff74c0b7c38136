-- A run and the run of its undo text.
use Rattle.std.proofs.Common.{◌≡◌, ◌<◌, ℕ, suc, List, [], ◌∷◌, get_or, w8, Fits as InType, Option, Some, None}
use Rattle.std.proofs.Common.{Result, Ok, refl, sym, ap, ◌∙◌, arith}
use Rattle.std.proofs.lemmas.List.Elements.{All-from_get_or}
use Rattle.bank_parts.specs.declared.parts.Parts.{Parts}
use Rattle.bank_parts.specs.Sound.{IsSound}
use Rattle.hydra_records.specs.Records.{AreBytes}
use Rattle.bank_format.specs.declared.fault.ReadFault.{ReadFault}
use Rattle.bank_format.specs.Canon.{canon}
use Rattle.bank_format.specs.Reading.{Content}
use Rattle.bank_format.specs.ReadChecks.{fault_of}
use Rattle.bank_format.proofs.RoundTrip.{reads-again}
use Rattle.bank_format.proofs.ReadValid.{read_valid, read_fits}
use Rattle.edit_forms.specs.declared.edit.Edit.{Edit}
use Rattle.edit_refusals.specs.declared.refusal.Refusal.{Refusal}
use Rattle.edit_refusals.specs.Edits.{raw, refusal}
use Rattle.bank_edits.specs.Runs.{AllAccepted, after_all, undo_list}
use Rattle.bank_edits.proofs.RunLaw.{all_undone}
use Rattle.edit_script.specs.declared.parsing.Line.{Line}
use Rattle.edit_script.specs.Script.{script_of}
use Rattle.edit_script.specs.Printing.{texts_of, numbered, AllFit, LinesFit}
use Rattle.edit_script.proofs.LineLaws.{printed_is_read}
use Rattle.edit_script.proofs.FitLaws.{script_fits}
use Rattle.program_reports.specs.declared.run_fault.RunFault.{RunFault}
use Rattle.sfbank.specs.Outcome.{Done, edits_of, RefusedLine, or_else, first_refused, both_texts, unless_refused}
use Rattle.sfbank.specs.Outcome.{after_script, after_reading, bank_in, outcome, IsUndone}

-- the bytes of a slice
pub are_bytes : (file : List ℕ) → ((i : ℕ) → InType w8 (get_or file i 0)) → AreBytes file
are_bytes file fits = All-from_get_or (λ b. b < 256) file 0 (λ i l. let byte = fits i in omega (arith, byte))

-- ---- a run that succeeds

-- if the first refused line is none, no line is refused
or_none : (n : ℕ) (r : Option Refusal) (later : Option RefusedLine) → or_else n r later ≡ None
    → (r ≡ None) × (later ≡ None)
or_none n None later e = (refl, e)
or_none n (Some r) later e = absurd cc

pub all_accepted : (b : Parts) (lines : List Line) → LinesFit lines → first_refused b lines ≡ None
    → AllAccepted b (edits_of lines)
all_accepted b [] f e = tt
all_accepted b (l ∷ lines) f e =
    let both = or_none l.number (refusal b l.edit) (first_refused (raw b l.edit) lines) e in
    (record { fits = f.0; accepted = both.0 }, all_accepted (raw b l.edit) lines f.1 both.1)

none_refused : (b : Parts) (n : ℕ) (es : List Edit) → AllAccepted b es → first_refused b (numbered n es) ≡ None
none_refused b n [] h = refl
none_refused b n (e ∷ es) h = rw h.0.accepted (none_refused (raw b e) (suc n) es h.1)

pub all_fit : (b : Parts) (es : List Edit) → AllAccepted b es → AllFit es
all_fit b [] h = tt
all_fit b (e ∷ es) h = (h.0.fits, all_fit (raw b e) es h.1)

pub edits_numbered : (n : ℕ) (es : List Edit) → edits_of (numbered n es) ≡ es
edits_numbered n [] = refl
edits_numbered n (e ∷ es) = ap (λ (xs : List Edit). e ∷ xs) (edits_numbered (suc n) es)

pub record ScriptDone (b : Parts) (lines : List Line) (done : Done) : Type 0 where
  pub accepted : first_refused b lines ≡ None
  pub texts : done ≡ both_texts b (edits_of lines)

pub script_done : (b : Parts) (lines : List Line) (done : Done) → after_script b (Ok lines) ≡ Ok done
    → ScriptDone b lines done
script_done b lines done h = by_what (first_refused b lines) refl h
  where
    by_what : (o : Option RefusedLine) → first_refused b lines ≡ o
        → unless_refused o (both_texts b (edits_of lines)) ≡ Ok done → ScriptDone b lines done
    by_what None e h = record { accepted = e; texts = cc }
    by_what (Some r) e h = absurd cc

pub reading_done : {X : Type 0} (o : Option ReadFault) (r : Result X RunFault) (x : X) → after_reading o r ≡ Ok x
    → (o ≡ None) × (r ≡ Ok x)
reading_done None r x h = (refl, h)
reading_done (Some f) r x h = absurd cc

-- ---- a run on a canonical file

pub outcome_canon : (b : Parts) (script : List ℕ) → IsSound b
    → outcome (canon b) script ≡ after_script b (script_of script)
unfolding outcome
outcome_canon b script s =
    let again = reads-again b s.valid s.fits in
    ap (λ (o : Option ReadFault). after_reading o (after_script (bank_in (canon b)) (script_of script))) again.0
    ∙ ap (λ (c : Content). after_script c.bank (script_of script)) again.1

-- accepted edits, as numbered lines
pub after_numbered : (b : Parts) (es : List Edit) → AllAccepted b es
    → after_script b (Ok (numbered 1 es)) ≡ Ok (both_texts b es)
after_numbered b es h =
    ap (λ (o : Option RefusedLine). unless_refused o (both_texts b (edits_of (numbered 1 es)))) (none_refused b 1 es h)
    ∙ ap (λ (xs : List Edit). Ok (both_texts b xs)) (edits_numbered 1 es)

-- ---- the law

-- the undo text, run on the written file
run_back : (b : Parts) (es : List Edit) → IsSound b → AllAccepted b es
    → outcome (canon (after_all b es)) (texts_of (undo_list b es)) ≡ Ok (record { out = canon b; undo = texts_of es })
run_back b es s h =
    let undone = all_undone b es s h in
    let end : Parts = after_all b es in
    let us : List Edit = undo_list b es in
    let parses = printed_is_read us (all_fit end us undone.is_accepted) in
    outcome_canon end (texts_of us) undone.sound
    ∙ ap (after_script end) parses
    ∙ after_numbered end us undone.is_accepted
    ∙ (λ i. Ok (record { out = canon (undone.restored i); undo = texts_of (undone.redone i) }))

pub restores : (file script : List ℕ) → AreBytes file → IsUndone file script
unfolding outcome
restores file script bytes done lines h parses =
    let b = bank_in file in
    let read = reading_done (fault_of file) (after_script b (script_of script)) done h in
    let run = script_done b lines done (ap (after_script b) (sym parses) ∙ read.1) in
    let sound : IsSound b = record { valid = read_valid file bytes read.0; fits = read_fits file bytes } in
    let back = run_back b (edits_of lines) sound (all_accepted b lines (script_fits script lines parses) run.accepted) in
    ap (λ (d : Done). outcome d.out d.undo) run.texts ∙ back
