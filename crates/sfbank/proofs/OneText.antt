-- Runs with one text: the canonical file, the listing and the WAVE file.
use Rattle.std.proofs.Common.{◌≡◌, ℕ, List, [], Option, Some, None, Result, Ok, Err, refl, sym, ap, ◌∙◌}
use Rattle.std.proofs.KnownBytes.{Keeps-refl}
use Rattle.sf_base.specs.declared.memory.Failure.{Failure}
use Rattle.sf_base.specs.declared.memory.Failure.TheVariants as failures
use Rattle.bank_parts.specs.declared.parts.Parts.{Parts}
use Rattle.hydra_records.specs.Records.{AreBytes}
use Rattle.bank_format.specs.declared.fault.Counts.{Counts}
use Rattle.bank_format.specs.declared.fault.ReadFault.{ReadFault}
use Rattle.bank_format.specs.Canon.{canon}
use Rattle.bank_format.specs.Reading.{Content}
use Rattle.bank_format.specs.FaultChecks.{Fails}
use Rattle.bank_format.specs.ReadChecks.{fault_of, ReadsAs}
use Rattle.bank_format.proofs.RoundTrip.{reads-again}
use Rattle.bank_format.proofs.ReadValid.{read_valid, read_fits}
use Rattle.edit_script.specs.declared.parsing.Line.{Line}
use Rattle.script_tokens.specs.declared.fault.ScriptFault.{ScriptFault}
use Rattle.edit_script.specs.Script.{script_of}
use Rattle.edit_script.proofs.LineLaws.{printed_is_read}
use Rattle.show_listing.specs.declared.listing.Details.{Details}
use Rattle.show_listing.specs.Listing.{listing}
use Rattle.show_listing.specs.Details.{detailed_listing}
use Rattle.program_reports.specs.declared.run_fault.RunFault.{RunFault}
use Rattle.program_reports.specs.declared.run_fault.RunFault.TheVariants as run
use Rattle.file_host.specs.declared.faults.Which.TheVariants.{Out}
use Rattle.sfbank.specs.Outcome.{after_script, after_reading, bank_in, counts_in, outcome, canon_outcome}
use Rattle.sfbank.specs.Outcome.{show_outcome, show_details_outcome, without_undo, IsEmptyEdit, IsFixed}
use Rattle.sfbank.specs.Written.{IsWritten, RunsOneText, FailsBefore}
use Rattle.program_reports.specs.RunFaults.{in_run}
use Rattle.sfbank.proofs.Restores.{reading_done}

-- ---- a file that can't be read

pub not_read : (U : Type 0) (failure : Failure ReadFault) (known : Option (List ℕ)) (broken : Option ReadFault)
    (r : Result (List ℕ) RunFault)
    → Fails failure broken
    → RunsOneText {U = U} known known (after_reading broken r) (Err (in_run run.Read failure))
not_read U (failures.Fault fault) known broken r h = (ap (λ o. after_reading o r) h, Keeps-refl known)
not_read U failures.OutOfMemory known broken r h = Keeps-refl known

pub canon_not_read : (U : Type 0) (failure : Failure ReadFault) (known : Option (List ℕ)) (file : List ℕ)
    → Fails failure (fault_of file)
    → RunsOneText {U = U} known known (canon_outcome file) (Err (in_run run.Read failure))
unfolding canon_outcome
canon_not_read U failure known file h = not_read U failure known (fault_of file) (Ok (canon (bank_in file))) h

pub show_not_read : (U : Type 0) (failure : Failure ReadFault) (known : Option (List ℕ)) (file : List ℕ)
    → Fails failure (fault_of file)
    → RunsOneText {U = U} known known (show_outcome file) (Err (in_run run.Read failure))
unfolding show_outcome
show_not_read U failure known file h =
    not_read U failure known (fault_of file) (Ok (listing (bank_in file) (counts_in file))) h

pub details_not_read : (U : Type 0) (failure : Failure ReadFault) (known : Option (List ℕ)) (details : Details)
    (file : List ℕ)
    → Fails failure (fault_of file)
    → RunsOneText {U = U} known known (show_details_outcome details file) (Err (in_run run.Read failure))
unfolding show_details_outcome
details_not_read U failure known details file h =
    not_read U failure known (fault_of file) (Ok (detailed_listing details (bank_in file) (counts_in file))) h

-- ---- a text that is written

pub runs_one_text : {U : Type 0} (old new : Option (List ℕ)) (outcome : Result (List ℕ) RunFault) (text : List ℕ)
    (r : Result U RunFault)
    → outcome ≡ Ok text → IsWritten Out old new text r
    → RunsOneText old new outcome r
runs_one_text old new outcome text (Ok u) e h = record { text = text; is_text = e; writes = h }
runs_one_text old new outcome text (Err (run.Write which n)) e h = record { text = text; is_text = e; writes = h }
runs_one_text old new outcome text (Err run.Memory) e h = absurd h
runs_one_text old new outcome text (Err (run.Read fault)) e h = absurd h
runs_one_text old new outcome text (Err (run.ReadFirst fault)) e h = absurd h
runs_one_text old new outcome text (Err (run.ReadSecond fault)) e h = absurd h
runs_one_text old new outcome text (Err (run.Script fault)) e h = absurd h
runs_one_text old new outcome text (Err (run.Refused number why)) e h = absurd h
runs_one_text old new outcome text (Err (run.NotNeutral number)) e h = absurd h
runs_one_text old new outcome text (Err run.OtherVersion) e h = absurd h
runs_one_text old new outcome text (Err run.PlanFailed) e h = absurd h
runs_one_text old new outcome text (Err (run.ReadFrom f)) e h = absurd h
runs_one_text old new outcome text (Err (run.Presets f)) e h = absurd h
runs_one_text old new outcome text (Err (run.Full f)) e h = absurd h
runs_one_text old new outcome text (Err (run.Recording fault)) e h = absurd h
runs_one_text old new outcome text (Err (run.Table fault)) e h = absurd h
runs_one_text old new outcome text (Err (run.InRecording i fault)) e h = absurd h
runs_one_text old new outcome text (Err (run.NoMember cause)) e h = absurd h
runs_one_text old new outcome text (Err (run.Notes fault)) e h = absurd h

-- nothing was written
pub one_text_fails : (U : Type 0) (known : Option (List ℕ)) (outcome : Result (List ℕ) RunFault) (fault : RunFault)
    → FailsBefore fault outcome → RunsOneText {U = U} known known outcome (Err fault)
one_text_fails U known outcome (run.Read fault) h = (h, Keeps-refl known)
one_text_fails U known outcome (run.ReadFirst fault) h = (h, Keeps-refl known)
one_text_fails U known outcome (run.ReadSecond fault) h = (h, Keeps-refl known)
one_text_fails U known outcome (run.Script fault) h = (h, Keeps-refl known)
one_text_fails U known outcome (run.Refused number why) h = (h, Keeps-refl known)
one_text_fails U known outcome (run.NotNeutral number) h = (h, Keeps-refl known)
one_text_fails U known outcome run.OtherVersion h = (h, Keeps-refl known)
one_text_fails U known outcome run.PlanFailed h = (h, Keeps-refl known)
one_text_fails U known outcome (run.ReadFrom f) h = (h, Keeps-refl known)
one_text_fails U known outcome (run.Presets f) h = (h, Keeps-refl known)
one_text_fails U known outcome (run.Full f) h = (h, Keeps-refl known)
one_text_fails U known outcome (run.Recording fault) h = (h, Keeps-refl known)
one_text_fails U known outcome (run.Table fault) h = (h, Keeps-refl known)
one_text_fails U known outcome (run.InRecording i fault) h = (h, Keeps-refl known)
one_text_fails U known outcome (run.NoMember cause) h = (h, Keeps-refl known)
one_text_fails U known outcome (run.Notes fault) h = (h, Keeps-refl known)
one_text_fails U known outcome run.Memory h = Keeps-refl known
one_text_fails U known outcome (run.Write which n) h = absurd h

pub canon_text : (file : List ℕ) (b : Parts) (counts : Counts) → ReadsAs file b counts
    → canon_outcome file ≡ Ok (canon b)
unfolding canon_outcome
canon_text file b counts r =
    ap (λ (o : Option ReadFault). after_reading o (Ok (canon (bank_in file)))) r.0
    ∙ ap (λ (c : Content). Ok (canon c.bank)) r.1

pub show_text : (file : List ℕ) (b : Parts) (counts : Counts) → ReadsAs file b counts
    → show_outcome file ≡ Ok (listing b counts)
unfolding show_outcome
show_text file b counts r =
    ap (λ (o : Option ReadFault). after_reading o (Ok (listing (bank_in file) (counts_in file)))) r.0
    ∙ ap (λ (c : Content). Ok (listing c.bank c.counts)) r.1

pub details_text : (details : Details) (file : List ℕ) (b : Parts) (counts : Counts) → ReadsAs file b counts
    → show_details_outcome details file ≡ Ok (detailed_listing details b counts)
unfolding show_details_outcome
details_text details file b counts r =
    ap (λ (o : Option ReadFault). after_reading o (Ok (detailed_listing details (bank_in file) (counts_in file)))) r.0
    ∙ ap (λ (c : Content). Ok (detailed_listing details c.bank c.counts)) r.1

pub details_runs : {U : Type 0} (old new : Option (List ℕ)) (details : Details) (file : List ℕ) (b : Parts)
    (counts : Counts) (r : Result U RunFault)
    → ReadsAs file b counts → IsWritten Out old new (detailed_listing details b counts) r
    → RunsOneText old new (show_details_outcome details file) r
details_runs old new details file b counts r reads h =
    runs_one_text old new (show_details_outcome details file) (detailed_listing details b counts) r
    (details_text details file b counts reads) h

pub canon_runs : {U : Type 0} (old new : Option (List ℕ)) (file : List ℕ) (b : Parts) (counts : Counts)
    (r : Result U RunFault)
    → ReadsAs file b counts → IsWritten Out old new (canon b) r
    → RunsOneText old new (canon_outcome file) r
canon_runs old new file b counts r reads h =
    runs_one_text old new (canon_outcome file) (canon b) r (canon_text file b counts reads) h

pub show_runs : {U : Type 0} (old new : Option (List ℕ)) (file : List ℕ) (b : Parts) (counts : Counts)
    (r : Result U RunFault)
    → ReadsAs file b counts → IsWritten Out old new (listing b counts) r
    → RunsOneText old new (show_outcome file) r
show_runs old new file b counts r reads h =
    runs_one_text old new (show_outcome file) (listing b counts) r (show_text file b counts reads) h

-- ---- laws of the canonical file

-- the empty text is the empty script
no_lines : script_of [] ≡ Ok []
no_lines = printed_is_read [] tt

empty_after : (b : Parts) (o : Option ReadFault)
    → after_reading o (after_script b (Ok [])) ≡ without_undo (after_reading o (Ok (canon b)))
empty_after b None = refl
empty_after b (Some f) = refl

pub empty_edit : (file : List ℕ) → IsEmptyEdit file
unfolding outcome canon_outcome
empty_edit file =
    ap
    (λ (lines : Result (List Line) ScriptFault).
    after_reading (fault_of file) (after_script (bank_in file) lines))
    no_lines
    ∙ empty_after (bank_in file) (fault_of file)

pub fixed : (file : List ℕ) → AreBytes file → IsFixed file
unfolding canon_outcome
fixed file bytes text h =
    let b = bank_in file in
    let read = reading_done (fault_of file) (Ok (canon b)) text h in
    let again = reads-again b (read_valid file bytes read.0) (read_fits file bytes) in
    let same : canon b ≡ text = cc in
    ap canon_outcome (sym same) ∙ canon_text (canon b) b _ again ∙ ap Ok same
