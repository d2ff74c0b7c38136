-- Runs that render notes, and banks that render identically.
use Rattle.std.proofs.Common.{◌≡◌, ℕ, ℤ, List, Option, None, Result, Ok, Err, refl, sym, ap, ◌∙◌}
use Rattle.std.proofs.Common.{arith}
use Rattle.sf_base.specs.declared.memory.Failure.{Failure}
use Rattle.sf_base.specs.declared.memory.Failure.TheVariants as failures
use Rattle.bank_parts.specs.declared.parts.Parts.{Parts}
use Rattle.hydra_records.specs.Records.{AreBytes}
use Rattle.bank_format.specs.declared.fault.Counts.{Counts}
use Rattle.bank_format.specs.declared.fault.ReadFault.{ReadFault}
use Rattle.bank_format.specs.Canon.{canon}
use Rattle.bank_format.specs.Reading.{Content}
use Rattle.bank_format.specs.ReadChecks.{fault_of, ReadsAs}
use Rattle.bank_format.proofs.RoundTrip.{reads-again}
use Rattle.bank_format.proofs.ReadValid.{read_valid, read_fits}
use Rattle.edit_script.specs.declared.parsing.Line.{Line}
use Rattle.script_tokens.specs.declared.fault.ScriptFault.{ScriptFault}
use Rattle.script_tokens.specs.Pool as texts
use Rattle.edit_script.specs.Script.{script_of}
use Rattle.script_notes.specs.declared.fault.NoteFault.{NoteFault}
use Rattle.script_notes.specs.Notes.{Numbers, notes_of}
use Rattle.mixer.specs.Render.{render, IsRendered}
use Rattle.wave_file.specs.Wave.{wave, FitsWave}
use Rattle.program_reports.specs.declared.run_fault.RunFault.{RunFault}
use Rattle.program_reports.specs.declared.run_fault.RunFault.TheVariants as run
use Rattle.sfbank.specs.Outcome.{Done, after_script, after_reading, bank_in, outcome, canon_outcome, after_notes}
use Rattle.sfbank.specs.Outcome.{play_outcome, RestoredRendersSame, CanonRendersSame}
use Rattle.sfbank.specs.Written.{FailsBefore}
use Rattle.program_reports.specs.RunFaults.{in_run}
use Rattle.sfbank.proofs.Restores.{reading_done, restores}

-- ---- a run

-- the outcome for the bytes is the outcome for their bank
pub played_on : (file notes : List ℕ) (b : Parts) (counts : Counts) → ReadsAs file b counts
    → play_outcome file notes ≡ after_notes b (notes_of notes)
unfolding play_outcome
played_on file notes b counts r =
    ap (λ (o : Option ReadFault). after_reading o (after_notes (bank_in file) (notes_of notes))) r.0
    ∙ ap (λ (c : Content). after_notes c.bank (notes_of notes)) r.1

-- the notes have a fault, or an allocation failed
pub notes_fail : (failure : Failure NoteFault) (file notes : List ℕ) (b : Parts) (counts : Counts) → ReadsAs file b counts
    → texts.Fails failure (notes_of notes) → FailsBefore (in_run run.Notes failure) (play_outcome file notes)
notes_fail (failures.Fault fault) file notes b counts r h = played_on file notes b counts r ∙ ap (after_notes b) h
notes_fail failures.OutOfMemory file notes b counts r h = tt

pub fits_wave : (sides : List ℤ) → IsRendered sides → FitsWave sides
fits_wave sides h = let most = h.bound in record { whole = h.whole; size = omega (arith, most) }

-- what is rendered of the notes
pub played : (file notes : List ℕ) (b : Parts) (counts : Counts) (ns : List Numbers) (sides : List ℤ)
    → ReadsAs file b counts → notes_of notes ≡ Ok ns → sides ≡ render b ns
    → play_outcome file notes ≡ Ok (wave sides)
played file notes b counts ns sides reads spelled e =
    played_on file notes b counts reads ∙ ap (after_notes b) spelled
    ∙ ap (λ (xs : List ℤ). Ok (wave xs)) (sym e)

-- ---- banks that render identically

pub played_on_canon : (file notes : List ℕ) → AreBytes file → fault_of file ≡ None
    → play_outcome (canon (bank_in file)) notes ≡ play_outcome file notes
played_on_canon file notes bytes read =
    let b = bank_in file in
    played_on (canon b) notes b _ (reads-again b (read_valid file bytes read) (read_fits file bytes))
    ∙ sym (played_on file notes b _ (read, refl))

pub canon_renders_same : (file notes : List ℕ) → AreBytes file → CanonRendersSame file notes
unfolding canon_outcome
canon_renders_same file notes bytes text h =
    let read = reading_done (fault_of file) (Ok (canon (bank_in file))) text h in
    let same : canon (bank_in file) ≡ text = cc in
    ap (λ (t : List ℕ). play_outcome t notes) (sym same) ∙ played_on_canon file notes bytes read.0

same_out : (back : Done) (out undo : List ℕ) (r : Result Done RunFault) → r ≡ Ok (record { out = out; undo = undo })
    → r ≡ Ok back → back.out ≡ out
same_out back out undo r e f = cc

pub restored_renders_same : (file script : List ℕ) → AreBytes file → RestoredRendersSame file script
unfolding outcome
restored_renders_same file script bytes done back notes h g = by_lines (script_of script) refl
  where
    read : (fault_of file ≡ None) × (after_script (bank_in file) (script_of script) ≡ Ok done)
    read = reading_done (fault_of file) (after_script (bank_in file) (script_of script)) done h

    by_lines : (r : Result (List Line) ScriptFault) → script_of script ≡ r
        → play_outcome back.out notes ≡ play_outcome file notes
    by_lines (Ok lines) e =
        ap (λ (t : List ℕ). play_outcome t notes)
        (same_out back _ _ (outcome done.out done.undo) (restores file script bytes done lines h e) g)
        ∙ played_on_canon file notes bytes read.0
    by_lines (Err f) e =
        let err : after_script (bank_in file) (Err f) ≡ Ok done =
        ap (after_script (bank_in file)) (sym e) ∙ read.1 in
        absurd cc
