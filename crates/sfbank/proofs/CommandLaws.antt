-- The outcomes of commands for a file that is a bank, or none.
use Rattle.std.proofs.Common.{◌≡◌, ℕ, List, Some, None, Ok, Err, Bool, true, false, sym, ap, ◌∙◌}
use Rattle.std.specs.Prelude.{slice_get, ◌||◌, if◌then◌else◌}
use Rattle.bank_parts.specs.declared.parts.Parts.{Parts}
use Rattle.bank_parts.specs.declared.parts.Sample.{Sample}
use Rattle.program_commands.specs.declared.words.Drawn.{Drawn}
use Rattle.bank_format.specs.declared.fault.Counts.{Counts}
use Rattle.bank_format.specs.Canon.{canon}
use Rattle.bank_format.specs.ReadChecks.{ReadsAs}
use Rattle.edit_forms.specs.declared.cause.Cause.TheVariants.{NoSuchSample}
use Rattle.sfbank.specs.declared.script.ScriptForm.{ScriptForm}
use Rattle.script_notes.specs.Notes.{notes_of}
use Rattle.show_listing.specs.declared.listing.Details.{Details}
use Rattle.show_listing.specs.Listing.{listing}
use Rattle.show_listing.specs.Details.{detailed_listing}
use Rattle.wave_file.specs.SampleWave.{sample_wave}
use Rattle.wave_file.specs.declared.options.ReadOptions.{ReadOptions}
use Rattle.wave_file.specs.ReadChecks.{recording_in}
use Rattle.program_commands.specs.declared.words.ShowPaths.{ShowPaths}
use Rattle.program_reports.specs.declared.run_fault.RunFault.{RunFault}
use Rattle.program_reports.specs.declared.run_fault.RunFault.TheVariants as run
use Rattle.sfbank.specs.Outcome.{bank_in, counts_in, after_notes, canon_outcome, show_outcome}
use Rattle.sfbank.specs.Outcome.{show_details_outcome, play_outcome}
use Rattle.sfbank.specs.BankScripts.{form_text, script_outcome}
use Rattle.sfbank.specs.Maps.{drawing, has_drawn, if_there, map_outcome}
use Rattle.sfbank.specs.Recordings.{wave_of, wave_outcome, pair_outcome, pair_wave_of, Change, after_recording}
use Rattle.sfbank.specs.Recordings.{recording_outcome}
use Rattle.sfbank.specs.Written.{FailsBefore}
use Rattle.sfbank.specs.PlanParts.{details_of, listing_outcome}
use Rattle.sfbank.specs.Steps.{ReadsBank}
use Rattle.sfbank.proofs.OneText.{show_text, details_text}
use Rattle.sfbank.proofs.Recordings.{wave_on}
use Rattle.sfbank.proofs.OutcomeLaws.{bank_fails}

-- ---- a file that is no bank

pub canon_fails : {X : Type 0} (view : X → Parts × Counts) (fault : RunFault) (file : List ℕ)
    → ReadsBank view file (Err fault) → FailsBefore fault (canon_outcome file)
unfolding canon_outcome
canon_fails view fault file h = bank_fails view fault file (Ok (canon (bank_in file))) h

pub script_fails : {X : Type 0} (view : X → Parts × Counts) (form : ScriptForm) (fault : RunFault) (file : List ℕ)
    → ReadsBank view file (Err fault) → FailsBefore fault (script_outcome form file)
unfolding script_outcome
script_fails view form fault file h = bank_fails view fault file (Ok (form_text form (bank_in file))) h

pub show_fails : {X : Type 0} (view : X → Parts × Counts) (fault : RunFault) (file : List ℕ)
    → ReadsBank view file (Err fault) → FailsBefore fault (show_outcome file)
unfolding show_outcome
show_fails view fault file h = bank_fails view fault file (Ok (listing (bank_in file) (counts_in file))) h

pub details_fail : {X : Type 0} (view : X → Parts × Counts) (details : Details) (fault : RunFault) (file : List ℕ)
    → ReadsBank view file (Err fault) → FailsBefore fault (show_details_outcome details file)
unfolding show_details_outcome
details_fail view details fault file h =
    bank_fails view fault file (Ok (detailed_listing details (bank_in file) (counts_in file))) h

pub play_fails : {X : Type 0} (view : X → Parts × Counts) (fault : RunFault) (file notes : List ℕ)
    → ReadsBank view file (Err fault) → FailsBefore fault (play_outcome file notes)
unfolding play_outcome
play_fails view fault file notes h = bank_fails view fault file (after_notes (bank_in file) (notes_of notes)) h

pub map_fails : {X : Type 0} (view : X → Parts × Counts) (fault : RunFault) (file : List ℕ) (d : Drawn)
    → ReadsBank view file (Err fault) → FailsBefore fault (map_outcome file d)
unfolding map_outcome
map_fails view fault file d h =
    bank_fails view fault file (if_there (has_drawn (bank_in file) d) d (drawing (bank_in file) d)) h

pub wave_fails : {X : Type 0} (view : X → Parts × Counts) (fault : RunFault) (file : List ℕ) (number : ℕ)
    → ReadsBank view file (Err fault) → FailsBefore fault (wave_outcome file number)
unfolding wave_outcome
wave_fails view fault file number h = bank_fails view fault file (wave_of (slice_get (bank_in file).samples number)) h

pub pair_fails : {X : Type 0} (view : X → Parts × Counts) (fault : RunFault) (file : List ℕ) (number : ℕ)
    → ReadsBank view file (Err fault) → FailsBefore fault (pair_outcome file number)
unfolding pair_outcome
pair_fails view fault file number h =
    bank_fails view fault file
    (pair_wave_of (bank_in file).samples number (slice_get (bank_in file).samples number)) h

pub recording_fails : {X : Type 0} (view : X → Parts × Counts) (change : Change) (options : ReadOptions) (fault : RunFault)
    (file wave : List ℕ)
    → ReadsBank view file (Err fault) → FailsBefore fault (recording_outcome change options file wave)
unfolding recording_outcome
recording_fails view change options fault file wave h =
    bank_fails view fault file (after_recording (bank_in file) change (recording_in options wave)) h

-- ---- a bank

-- a sample that a bank has, or not
pub wave_text : (file : List ℕ) (number : ℕ) (b : Parts) (counts : Counts) (s : Sample) → ReadsAs file b counts
    → Some s ≡ slice_get b.samples number → wave_outcome file number ≡ Ok (sample_wave s)
wave_text file number b counts s r h = wave_on file number b counts r ∙ ap wave_of (sym h)

pub no_wave : (file : List ℕ) (number : ℕ) (b : Parts) (counts : Counts) → ReadsAs file b counts
    → None ≡ slice_get b.samples number → FailsBefore (run.NoMember NoSuchSample) (wave_outcome file number)
no_wave file number b counts r h = wave_on file number b counts r ∙ ap wave_of (sym h)

-- ---- a listing

fails_either : {X : Type 0} (view : X → Parts × Counts) (details : Details) (fault : RunFault) (file : List ℕ) (b : Bool)
    → ReadsBank view file (Err fault)
    → FailsBefore fault (if b then show_details_outcome details file else show_outcome file)
fails_either view details fault file true h = details_fail view details fault file h
fails_either view details fault file false h = show_fails view fault file h

pub listing_fails : {X : Type 0} (view : X → Parts × Counts) (paths : ShowPaths) (fault : RunFault) (file : List ℕ)
    → ReadsBank view file (Err fault) → FailsBefore fault (listing_outcome paths file)
listing_fails view paths fault file h =
    fails_either view (details_of paths) fault file (paths.zones || paths.uses) h

pub listing_is_detailed : (paths : ShowPaths) (file : List ℕ) (b : Parts) (counts : Counts) → ReadsAs file b counts
    → (paths.zones || paths.uses) ≡ true
    → listing_outcome paths file ≡ Ok (detailed_listing (details_of paths) b counts)
listing_is_detailed paths file b counts r e =
    ap (λ (x : Bool). if x then show_details_outcome (details_of paths) file else show_outcome file) e
    ∙ details_text (details_of paths) file b counts r

pub listing_is_plain : (paths : ShowPaths) (file : List ℕ) (b : Parts) (counts : Counts) → ReadsAs file b counts
    → (paths.zones || paths.uses) ≡ false → listing_outcome paths file ≡ Ok (listing b counts)
listing_is_plain paths file b counts r e =
    ap (λ (x : Bool). if x then show_details_outcome (details_of paths) file else show_outcome file) e
    ∙ show_text file b counts r
