-- The script of a file's bank.
use Rattle.std.proofs.Common.{◌≡◌, ℕ, List, [], ◌∷◌, Option, None, Result, Ok, Err, refl, sym, ap, ◌∙◌, Bool, true, false}
use Rattle.sf_base.specs.declared.memory.Failure.{Failure}
use Rattle.bank_parts.specs.declared.parts.Parts.{Parts}
use Rattle.bank_parts.specs.Sound.{IsSound}
use Rattle.hydra_records.specs.Records.{AreBytes}
use Rattle.bank_format.specs.declared.fault.Counts.{Counts}
use Rattle.bank_format.specs.declared.fault.ReadFault.{ReadFault}
use Rattle.bank_format.specs.Canon.{canon}
use Rattle.bank_format.specs.Reading.{Content}
use Rattle.bank_format.specs.FaultChecks.{Fails}
use Rattle.bank_format.specs.ReadChecks.{fault_of, ReadsAs}
use Rattle.bank_format.proofs.RoundTrip.{reads-again}
use Rattle.bank_format.proofs.ReadValid.{read_valid, read_fits}
use Rattle.edit_refusals.specs.Edits.{raw}
use Rattle.bank_edits.specs.Runs.{AllAccepted, undo_list}
use Rattle.edit_script.specs.declared.parsing.Line.{Line}
use Rattle.edit_script.specs.Script.{script_of}
use Rattle.edit_script.specs.Printing.{texts_of}
use Rattle.script_of_bank.specs.BankEdits.{empty}
use Rattle.script_of_bank.specs.BankScript.{IsScript}
use Rattle.script_of_bank.specs.LeadsTo.{Leads}
use Rattle.script_of_bank.proofs.AcceptedLaws.{sound_empty}
use Rattle.script_of_bank.proofs.PrintedLaws.{text_gives, text_determines}
use Rattle.commented_scripts.proofs.CommentedLaws as laws
use Rattle.program_reports.specs.declared.run_fault.RunFault.{RunFault}
use Rattle.program_reports.specs.declared.run_fault.RunFault.TheVariants as run
use Rattle.file_host.specs.declared.faults.Which.TheVariants.{Out}
use Rattle.program_reports.specs.RunFaults.{in_run}
use Rattle.sfbank.specs.Outcome.{Done, edits_of, RefusedLine, first_refused, both_texts, unless_refused}
use Rattle.sfbank.specs.Outcome.{after_script, after_reading, bank_in, outcome, play_outcome}
use Rattle.sfbank.specs.Written.{IsWritten, RunsOneText}
use Rattle.sfbank.specs.BankScripts.{form_text, script_outcome, start_of, whole_form, IsRemade, ScriptsDistinguish}
use Rattle.sfbank.specs.BankScripts.{RemadeRendersSame}
use Rattle.sfbank.specs.declared.script.ScriptForm.{ScriptForm}
use Rattle.sfbank.proofs.OneText.{not_read, runs_one_text, canon_text}
use Rattle.sfbank.proofs.Restores.{reading_done, outcome_canon}
use Rattle.sfbank.proofs.RenderLaws.{played_on_canon}

-- ---- the run

pub script_not_read : (U : Type 0) (form : ScriptForm) (failure : Failure ReadFault) (known : Option (List ℕ))
    (file : List ℕ)
    → Fails failure (fault_of file)
    → RunsOneText {U = U} known known (script_outcome form file) (Err (in_run run.Read failure))
unfolding script_outcome
script_not_read U form failure known file h =
    not_read U failure known (fault_of file) (Ok (form_text form (bank_in file))) h

pub script_text : (form : ScriptForm) (file : List ℕ) (b : Parts) (counts : Counts) → ReadsAs file b counts
    → script_outcome form file ≡ Ok (form_text form b)
unfolding script_outcome
script_text form file b counts r =
    ap (λ (o : Option ReadFault). after_reading o (Ok (form_text form (bank_in file)))) r.0
    ∙ ap (λ (c : Content). Ok (form_text form c.bank)) r.1

pub script_runs : {U : Type 0} (form : ScriptForm) (old new : Option (List ℕ)) (file : List ℕ) (b : Parts)
    (counts : Counts) (r : Result U RunFault)
    → ReadsAs file b counts → IsWritten Out old new (form_text form b) r
    → RunsOneText old new (script_outcome form file) r
script_runs form old new file b counts r reads h =
    runs_one_text old new (script_outcome form file) (form_text form b) r (script_text form file b counts reads)
    h

-- ---- a script that leads from one bank to another

lines_accepted : (b : Parts) (lines : List Line) → AllAccepted b (edits_of lines) → first_refused b lines ≡ None
lines_accepted b [] h = refl
lines_accepted b (l ∷ lines) h = rw h.0.accepted (lines_accepted (raw b l.edit) lines h.1)

pub lines_lead : (a : Parts) (lines : List Line) (b : Parts) → Leads a (edits_of lines) b
    → after_script a (Ok lines) ≡ Ok (record { out = canon b; undo = texts_of (undo_list a (edits_of lines)) })
lines_lead a lines b leads =
    let es = edits_of lines in
    ap (λ (o : Option RefusedLine). unless_refused o (both_texts a es)) (lines_accepted a lines leads.is_accepted)
    ∙ ap
    (λ (c : Parts). let r : Result Done RunFault =
    Ok (record { out = canon c; undo = texts_of (undo_list a es) }) in r)
    leads.given

pub script_leads : (a : Parts) (text : List ℕ) (b : Parts) (s : IsScript a text b)
    → after_script a (script_of text) ≡ Ok (record { out = canon b; undo = texts_of (undo_list a (edits_of s.lines)) })
script_leads a text b s =
    ap (after_script a) s.read ∙ lines_lead a s.lines b s.leads

-- ---- laws

pub sound_in : (file : List ℕ) → AreBytes file → fault_of file ≡ None → IsSound (bank_in file)
sound_in file bytes read = record { valid = read_valid file bytes read; fits = read_fits file bytes }

-- the script of a bank leads to it, with comments or without
whole_gives : (comments : Bool) (b : Parts) → IsSound b → IsScript (empty b.minor) (form_text (whole_form comments) b) b
whole_gives true b sound = laws.gives b sound
whole_gives false b sound = text_gives b sound

-- two banks with one script are equal
whole_determines : (comments : Bool) (a b : Parts) → IsSound a → IsSound b
    → form_text (whole_form comments) a ≡ form_text (whole_form comments) b → a ≡ b
whole_determines true a b s r e = laws.determines a b s r e
whole_determines false a b s r e = text_determines a b s r e

script_is : (comments : Bool) (file text : List ℕ) → script_outcome (whole_form comments) file ≡ Ok text
    → (fault_of file ≡ None) × (form_text (whole_form comments) (bank_in file) ≡ text)
unfolding script_outcome
script_is comments file text h =
    let read = reading_done (fault_of file) (Ok (form_text (whole_form comments) (bank_in file))) text h in (read.0, cc)

pub remade : (file : List ℕ) → AreBytes file → IsRemade file
remade file bytes comments text h =
    let b = bank_in file in
    let is = script_is comments file text h in
    let sound = sound_in file bytes is.0 in
    let s = whole_gives comments b sound in (
      texts_of (undo_list (empty b.minor) (edits_of s.lines)),
      ap (outcome (start_of file)) (sym is.1)
          ∙ outcome_canon (empty b.minor) (form_text (whole_form comments) b) (sound_empty b sound)
          ∙ script_leads (empty b.minor) (form_text (whole_form comments) b) b s,
    )

-- banks with the same canonical file are equal
determined_by_canon : (a b : Parts) → IsSound a → IsSound b → canon a ≡ canon b → a ≡ b
determined_by_canon a b s r e =
    let first = ap (λ (c : Content). c.bank) (reads-again a s.valid s.fits).1 in
    let second = ap (λ (c : Content). c.bank) (reads-again b r.valid r.fits).1 in
    sym first ∙ ap bank_in e ∙ second

pub distinguishes : ScriptsDistinguish
distinguishes comments a b in_a in_b read_a read_b =
    let s = sound_in a in_a read_a in
    let r = sound_in b in_b read_b in
    let script_a = script_text (whole_form comments) a (bank_in a) _ (read_a, refl) in
    let script_b = script_text (whole_form comments) b (bank_in b) _ (read_b, refl) in
    let canon_a = canon_text a (bank_in a) _ (read_a, refl) in
    let canon_b = canon_text b (bank_in b) _ (read_b, refl) in (
      (λ e. let same : form_text (whole_form comments) (bank_in a) ≡ form_text (whole_form comments) (bank_in b) = cc in
          canon_a ∙ ap (λ (c : Parts). Ok (canon c)) (whole_determines comments (bank_in a) (bank_in b) s r same)
          ∙ sym canon_b),
      (λ e. let same : canon (bank_in a) ≡ canon (bank_in b) = cc in
          script_a ∙ ap (λ (c : Parts). Ok (form_text (whole_form comments) c)) (determined_by_canon (bank_in a) (bank_in b) s r same)
          ∙ sym script_b),
    )

pub remade_renders_same : RemadeRendersSame
remade_renders_same comments file text notes done bytes h run_done =
    let made = remade file bytes comments text h in
    let same : done.out ≡ canon (bank_in file) = cc in
    ap (λ (t : List ℕ). play_outcome t notes) same ∙ played_on_canon file notes bytes (script_is comments file text h).0
