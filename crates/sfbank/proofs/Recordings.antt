-- Runs that export samples as a WAVE file, and runs that bring a WAVE file into a bank.
use Rattle.std.proofs.Common.{◌≡◌, ◌≤◌, ℕ, List, length, Option, Some, None, Result, Ok, Err}
use Rattle.std.proofs.Common.{◌<◌, ◌^◌, refl, sym, ap, subst, ◌∙◌, arith}
use Rattle.std.specs.Result.{result_map_both}
use Rattle.std.specs.Prelude.{slice_get}
use Rattle.std.proofs.KnownBytes.{Keeps-refl}
use Rattle.sf_base.specs.declared.limits.TheConstants.{POINTS}
use Rattle.sf_base.specs.declared.memory.Failure.{Failure}
use Rattle.bank_parts.specs.declared.parts.Parts.{Parts}
use Rattle.bank_parts.specs.declared.parts.Sample.{Sample}
use Rattle.bank_parts.specs.Valid.{IsValid}
use Rattle.bank_parts.specs.Sound.{IsSound}
use Rattle.bank_changes.proofs.PointLaws.{among}
use Rattle.hydra_records.specs.Records.{AreBytes}
use Rattle.bank_format.specs.declared.fault.Counts.{Counts}
use Rattle.bank_format.specs.declared.fault.ReadFault.{ReadFault}
use Rattle.bank_format.specs.Canon.{canon}
use Rattle.bank_format.specs.Reading.{Content}
use Rattle.bank_format.specs.FaultChecks.{Fails}
use Rattle.bank_format.specs.ReadChecks.{fault_of, ReadsAs}
use Rattle.bank_format.proofs.ReadValid.{read_valid, read_fits}
use Rattle.edit_forms.specs.declared.edit.Edit.{Edit}
use Rattle.edit_forms.specs.declared.cause.Cause.TheVariants.{NoSuchSample}
use Rattle.edit_script.specs.Script.{script_of}
use Rattle.edit_script.specs.Printing.{texts_of, numbered, AllFit}
use Rattle.edit_script.proofs.LineLaws.{printed_is_read}
use Rattle.wave_file.specs.SampleWave.{sample_wave}
use Rattle.wave_file.specs.declared.fault.WaveFault.{WaveFault}
use Rattle.wave_file.specs.declared.recording.Recording.{Recording}
use Rattle.wave_file.specs.declared.options.ReadOptions.{ReadOptions}
use Rattle.wave_file.specs.Recordings.{FitsKey}
use Rattle.wave_file.specs.ReadChecks.{recording_in}
use Rattle.wave_file.specs.Imports.{import_edits}
use Rattle.wave_file.specs.InPlace.{with_points}
use Rattle.wave_file.proofs.FrameLaws.{import_points}
use Rattle.wave_file.proofs.FitLaws.{FitsRecording, recording_fits, imports_fit}
use Rattle.bank_edits.specs.Runs.{after_all}
use Rattle.sample_replacements.specs.declared.fault.ReplaceFault.{ReplaceFault}
use Rattle.sample_replacements.specs.Replacements.{replacement_edits, replaced}
use Rattle.sample_replacements.proofs.FitLaws.{replacements_fit}
use Rattle.sample_replacements.proofs.InPlaceLaws.{replacement_points}
use Rattle.sample_replacements.proofs.ReplacingLaws.{replacing_kept}
use Rattle.sfbank.specs.declared.recorded.Destination.{Destination}
use Rattle.sfbank.specs.declared.recorded.Destination.TheVariants.{End, Place}
use Rattle.program_reports.specs.declared.run_fault.RunFault.{RunFault}
use Rattle.program_reports.specs.declared.run_fault.RunFault.TheVariants as run
use Rattle.file_host.specs.declared.faults.Which.TheVariants.{Out}
use Rattle.program_reports.specs.RunFaults.{in_run}
use Rattle.sfbank.specs.Outcome.{Done, RefusedLine, after_script, after_reading, bank_in, both_texts, edits_of}
use Rattle.sfbank.specs.Outcome.{first_refused, outcome, unless_refused}
use Rattle.sfbank.specs.Recordings.{wave_of, wave_outcome, pair_outcome, pair_wave_of, Change, after_edits}
use Rattle.sfbank.specs.Recordings.{after_recording, appended, change_of, fault_of_replacement, put_in_place, recording_outcome}
use Rattle.sfbank.specs.Recordings.{FitsDestination, IsScripted, IsRecordingUndone, IsReplaced}
use Rattle.sfbank.specs.Written.{IsWritten, RunsOneText, FailsBefore}
use Rattle.sfbank.proofs.OneText.{not_read, runs_one_text}
use Rattle.sfbank.proofs.Restores.{restores, edits_numbered}

-- ---- a sample as a WAVE file

pub wave_not_read : (U : Type 0) (failure : Failure ReadFault) (known : Option (List ℕ)) (file : List ℕ) (number : ℕ)
    → Fails failure (fault_of file)
    → RunsOneText {U = U} known known (wave_outcome file number) (Err (in_run run.Read failure))
unfolding wave_outcome
wave_not_read U failure known file number h =
    not_read U failure known (fault_of file) (wave_of (slice_get (bank_in file).samples number)) h

-- the outcome for the bytes is the outcome for their bank
pub wave_on : (file : List ℕ) (number : ℕ) (b : Parts) (counts : Counts) → ReadsAs file b counts
    → wave_outcome file number ≡ wave_of (slice_get b.samples number)
unfolding wave_outcome
wave_on file number b counts r =
    ap (λ (o : Option ReadFault). after_reading o (wave_of (slice_get (bank_in file).samples number))) r.0
    ∙ ap (λ (c : Content). wave_of (slice_get c.bank.samples number)) r.1

pub no_sample : (U : Type 0) (known : Option (List ℕ)) (file : List ℕ) (number : ℕ) (b : Parts) (counts : Counts)
    → ReadsAs file b counts → None ≡ slice_get b.samples number
    → RunsOneText {U = U} known known (wave_outcome file number) (Err (run.NoMember NoSuchSample))
no_sample U known file number b counts r h = (wave_on file number b counts r ∙ ap wave_of (sym h), Keeps-refl known)

pub wave_runs : {U : Type 0} (old new : Option (List ℕ)) (file : List ℕ) (number : ℕ) (b : Parts) (counts : Counts)
    (s : Sample) (r : Result U RunFault)
    → ReadsAs file b counts
    → Some s ≡ slice_get b.samples number → IsWritten Out old new (sample_wave s) r
    → RunsOneText old new (wave_outcome file number) r
wave_runs old new file number b counts s r reads h is_written =
    runs_one_text old new (wave_outcome file number) (sample_wave s) r
    (wave_on file number b counts reads ∙ ap wave_of (sym h)) is_written

pub few_points : (b : Parts) (number : ℕ) (s : Sample) → IsValid b → Some s ≡ slice_get b.samples number
    → length s.points ≤ POINTS
few_points b number s v h =
    let some = among b.samples number s (sym h) in let most = v.limits.points in omega (arith, some, most)

-- ---- a pair of samples as a WAVE file

pub pair_on : (file : List ℕ) (number : ℕ) (b : Parts) (counts : Counts) → ReadsAs file b counts
    → pair_outcome file number ≡ pair_wave_of b.samples number (slice_get b.samples number)
unfolding pair_outcome
pair_on file number b counts r =
    ap (λ (o : Option ReadFault). after_reading o
    (pair_wave_of (bank_in file).samples number (slice_get (bank_in file).samples number))) r.0
    ∙ ap (λ (c : Content). pair_wave_of c.bank.samples number (slice_get c.bank.samples number)) r.1

-- there is no pair for the bank, so none for the file
pub pair_not_found : (file : List ℕ) (number : ℕ) (b : Parts) (counts : Counts) (fault : RunFault) → ReadsAs file b counts
    → FailsBefore fault (pair_wave_of b.samples number (slice_get b.samples number))
    → FailsBefore fault (pair_outcome file number)
pair_not_found file number b counts fault r h =
    subst (FailsBefore fault) (sym (pair_on file number b counts r)) h

-- ---- a recording in a bank

pub recording_on : (change : Change) (options : ReadOptions) (file wave : List ℕ) (b : Parts) (counts : Counts)
    → ReadsAs file b counts
    → recording_outcome change options file wave ≡ after_recording b change (recording_in options wave)
unfolding recording_outcome
recording_on change options file wave b counts r =
    ap (λ (o : Option ReadFault). after_reading o (after_recording (bank_in file) change (recording_in options wave))) r.0
    ∙ ap (λ (c : Content). after_recording c.bank change (recording_in options wave)) r.1

-- the WAVE file has a fault
pub no_recording : (change : Change) (options : ReadOptions) (file wave : List ℕ) (b : Parts) (counts : Counts)
    (fault : WaveFault)
    → ReadsAs file b counts → Err fault ≡ recording_in options wave
    → FailsBefore (run.Recording fault) (recording_outcome change options file wave)
no_recording change options file wave b counts fault r h =
    recording_on change options file wave b counts r ∙ ap (after_recording b change) (sym h)

-- the edits of what was read
pub recording_edited : (change : Change) (options : ReadOptions) (file wave : List ℕ) (b : Parts) (counts : Counts)
    (r : Recording)
    → ReadsAs file b counts → recording_in options wave ≡ Ok r
    → recording_outcome change options file wave ≡ after_edits b (change b r)
recording_edited change options file wave b counts r reads h =
    recording_on change options file wave b counts reads ∙ ap (after_recording b change) h

-- no edit depends on whether samples are converted
same_change : (d : Destination) (b : Parts) (r : Recording) → change_of d b r ≡ change_of d b (with_points r)
same_change (End name) b r = ap (λ (edits : List Edit). Ok edits) (import_points (length b.samples) name.now r)
same_change (Place number) b r =
    ap (result_map_both (λ (edits : List Edit). edits) fault_of_replacement) (replacement_points b number r)

points_edited : (d : Destination) (b : Parts) (due : Result Recording WaveFault) (r : Recording)
    → result_map_both with_points (λ fault. fault) due ≡ Ok (with_points r)
    → after_recording b (change_of d) due ≡ after_edits b (change_of d b r)
points_edited d b (Ok s) r h =
    let same : with_points s ≡ with_points r = cc in
    ap (after_edits b) (same_change d b s ∙ ap (change_of d b) same ∙ sym (same_change d b r))
points_edited d b (Err fault) r h = absurd cc

-- the edits of what was read in place
pub recording_edited_in_place : (d : Destination) (options : ReadOptions) (file wave : List ℕ) (b : Parts)
    (counts : Counts) (r : Recording)
    → ReadsAs file b counts
    → result_map_both with_points (λ fault. fault) (recording_in options wave) ≡ Ok (with_points r)
    → recording_outcome (change_of d) options file wave ≡ after_edits b (change_of d b r)
recording_edited_in_place d options file wave b counts r reads h =
    recording_on (change_of d) options file wave b counts reads ∙ points_edited d b (recording_in options wave) r h

-- ---- the script of the edits

-- the edits of a change are in range
abbrev pub EditsFit : Change → Type 0
EditsFit change =
    (b : Parts) (r : Recording) (edits : List Edit) → IsSound b → FitsRecording r → change b r ≡ Ok edits → AllFit edits

ok_inverse : (result : Result (List Edit) ReplaceFault) (edits : List Edit)
    → result_map_both (λ (es : List Edit). es) fault_of_replacement result ≡ Ok edits → result ≡ Ok edits
ok_inverse (Ok es) edits h = cc
ok_inverse (Err fault) edits h = absurd cc

pub appended_fits : (name : List ℕ) → AreBytes name → EditsFit (appended name)
appended_fits name bytes b r edits v f h =
    let is : import_edits (length b.samples) name r ≡ edits = cc in
    subst AllFit is (imports_fit (length b.samples) name r v.valid.limits.samples bytes f)

pub in_place_fits : (number : ℕ) → number < 2 ^ 32 → EditsFit (put_in_place number)
in_place_fits number small b r edits v f h =
    replacements_fit b number r edits small v f (ok_inverse (replacement_edits b number r) edits h)

pub destination_fits : (d : Destination) → FitsDestination d → EditsFit (change_of d)
destination_fits (End name) bytes = appended_fits name.now bytes
destination_fits (Place number) small = in_place_fits number small

edits_fit : (change : Change) (options : ReadOptions) (file wave : List ℕ) (r : Recording) (edits : List Edit)
    → EditsFit change → FitsKey options.key → AreBytes file → AreBytes wave → fault_of file ≡ None
    → recording_in options wave ≡ Ok r → change (bank_in file) r ≡ Ok edits → AllFit edits
edits_fit change options file wave r edits fit key bytes wave_bytes read h e =
    fit (bank_in file) r edits (record { valid = read_valid file bytes read; fits = read_fits file bytes })
    (recording_fits options wave r key wave_bytes h) e

pub scripted : (change : Change) (options : ReadOptions) (file wave : List ℕ) → EditsFit change → FitsKey options.key
    → AreBytes file → AreBytes wave → IsScripted change options file wave
unfolding recording_outcome outcome
scripted change options file wave fit key bytes wave_bytes r edits h e = by_what (fault_of file) refl
  where
    by_what : (o : Option ReadFault) → fault_of file ≡ o
        → after_reading o (after_recording (bank_in file) change (recording_in options wave))
        ≡ after_reading o (after_script (bank_in file) (script_of (texts_of edits)))
    by_what (Some f) is = refl
    by_what None is =
        ap (after_recording (bank_in file) change) h
        ∙ ap (after_edits (bank_in file)) e
        ∙ sym
        (ap (after_script (bank_in file))
        (printed_is_read edits (edits_fit change options file wave r edits fit key bytes wave_bytes is h e)))

-- a run that succeeds has read its file
done_read : (o : Option ReadFault) (x : Result Done RunFault) (done : Done) → after_reading o x ≡ Ok done → o ≡ None
done_read None x done h = refl
done_read (Some f) x done h = absurd cc

pub recording_read : (change : Change) (options : ReadOptions) (file wave : List ℕ) (done : Done)
    → recording_outcome change options file wave ≡ Ok done → fault_of file ≡ None
unfolding recording_outcome
recording_read change options file wave done h =
    done_read (fault_of file) (after_recording (bank_in file) change (recording_in options wave)) done h

pub recording_restores : (change : Change) (options : ReadOptions) (file wave : List ℕ) → EditsFit change
    → FitsKey options.key → AreBytes file → AreBytes wave → IsRecordingUndone change options file wave
recording_restores change options file wave fit key bytes wave_bytes done r es h recording_is e =
    let read = recording_read change options file wave done h in
    let parses =
    printed_is_read es (edits_fit change options file wave r es fit key bytes wave_bytes read recording_is e) in
    let run_it = sym (scripted change options file wave fit key bytes wave_bytes r es recording_is e) ∙ h in
    restores file (texts_of es) bytes done (numbered 1 es) run_it parses
    ∙ ap (λ (xs : List Edit). Ok (record { out = canon (bank_in file); undo = texts_of xs })) (edits_numbered 1 es)

-- ---- a replacement

-- the file of a script's edits that were all accepted
written_after : (b : Parts) (es : List Edit) (done : Done) → after_script b (Ok (numbered 1 es)) ≡ Ok done
    → done.out ≡ canon (after_all b es)
written_after b es done h = by_what (first_refused b (numbered 1 es)) h
  where
    by_what : (o : Option RefusedLine) → unless_refused o (both_texts b (edits_of (numbered 1 es))) ≡ Ok done
        → done.out ≡ canon (after_all b es)
    by_what None is =
        let same : both_texts b (edits_of (numbered 1 es)) ≡ done = cc in
        ap (λ (d : Done). d.out) (sym same) ∙ ap (λ (xs : List Edit). canon (after_all b xs)) (edits_numbered 1 es)
    by_what (Some refused) is = absurd cc

replaced_after : (b : Parts) (number : ℕ) (r : Recording) (done : Done) (result : Result (List Edit) ReplaceFault)
    → replacement_edits b number r ≡ result
    → after_edits b (result_map_both (λ (es : List Edit). es) fault_of_replacement result) ≡ Ok done
    → done.out ≡ canon (replaced b number r)
replaced_after b number r done (Ok es) is h =
    written_after b es done h ∙ ap canon (replacing_kept b number r es is)
replaced_after b number r done (Err fault) is h = absurd cc

pub replace_keeps : (options : ReadOptions) (number : ℕ) (file wave : List ℕ) → IsReplaced options number file wave
unfolding recording_outcome
replace_keeps options number file wave done r h recording_is =
    let b = bank_in file in
    let read = recording_read (put_in_place number) options file wave done h in
    let run_it : after_edits b (put_in_place number b r) ≡ Ok done =
    sym (ap (after_recording b (put_in_place number)) recording_is)
    ∙ sym (ap (λ (o : Option ReadFault). after_reading o (after_recording b (put_in_place number) (recording_in options wave))) read)
    ∙ h in
    replaced_after b number r done (replacement_edits b number r) refl run_it
