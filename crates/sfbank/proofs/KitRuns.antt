-- Runs that bring several recordings into a bank, with an instrument of them and a preset.
use Rattle.std.proofs.Common.{◌≡◌, ◌∙◌, ◌+◌, ◌++◌, ℕ, List, [], ◌∷◌, map, length, Bool, false, Option, Some, None}
use Rattle.std.proofs.Common.{Result, Ok, Err, ap, refl, subst, sym, nat_le, if◌then◌else◌, suc}
use Rattle.std.specs.List.{AllByRecursion}
use Rattle.std.proofs.lemmas.List.{map-append, append_assoc, append-nil}
use Rattle.std.specs.Option.{option_map_or}
use Rattle.std.specs.Result.{result_map_both}
use Rattle.sf_base.specs.declared.limits.TheConstants.{SAMPLES}
use Rattle.bank_parts.specs.declared.parts.Parts.{Parts}
use Rattle.hydra_records.specs.Records.{AreBytes}
use Rattle.bank_format.specs.declared.fault.Counts.{Counts}
use Rattle.bank_format.specs.declared.fault.ReadFault.{ReadFault}
use Rattle.bank_format.specs.Canon.{canon}
use Rattle.bank_format.specs.Reading.{Content}
use Rattle.bank_format.specs.ReadChecks.{fault_of, ReadsAs}
use Rattle.bank_format.proofs.ReadValid.{read_valid}
use Rattle.edit_forms.specs.declared.edit.Edit.{Edit}
use Rattle.edit_script.specs.Script.{script_of}
use Rattle.edit_script.specs.Printing.{texts_of, numbered, AllFit}
use Rattle.edit_script.proofs.LineLaws.{printed_is_read}
use Rattle.kit_tables.specs.declared.zone.KitZone.{KitZone}
use Rattle.kit_edits.specs.declared.kit.KitMembers.{KitMembers}
use Rattle.kit_edits.specs.declared.kit.KitRecording.{KitRecording}
use Rattle.kit_edits.proofs.FitLaws.{FitsKitRecording, kits_fit}
use Rattle.kit_edits.specs.Appending.{AreSplit, no_names}
use Rattle.kit_edits.specs.Kits.{IsKitFailure, all_edits, kit_edits}
use Rattle.sf_base.specs.declared.memory.Failure.{Failure}
use Rattle.sf_base.specs.declared.memory.Failure.TheVariants.{Fault, OutOfMemory}
use Rattle.kit_edits.specs.Members.{member_edits, numbers_in_use}
use Rattle.kit_edits.specs.Numbers.{all_numbered, have_room, name_of, numbered as numbered_as, sample_count, sample_edits, used_after}
use Rattle.plan_presets.specs.declared.fault.PresetFault.{PresetFault}
use Rattle.plan_presets.specs.declared.fault.PresetFault.TheVariants.{InUse}
use Rattle.plan_presets.specs.declared.numbers.PresetNumbers.{PresetNumbers}
use Rattle.wave_file.specs.declared.fault.WaveFault.{WaveFault}
use Rattle.wave_file.specs.declared.options.ReadOptions.{ReadOptions}
use Rattle.wave_file.specs.declared.recording.Recording.{Recording}
use Rattle.wave_file.specs.Recordings.{FitsKey}
use Rattle.wave_file.specs.ReadChecks.{recording_in}
use Rattle.wave_file.proofs.FitLaws.{recording_fits}
use Rattle.wave_file.specs.Imports.{BothSides, import_edits}
use Rattle.sfbank.specs.KitSteps.{sides_in}
use Rattle.program_reports.specs.declared.run_fault.RunFault.{RunFault}
use Rattle.program_reports.specs.declared.run_fault.RunFault.TheVariants as run
use Rattle.program_reports.specs.RunFaults.{in_run}
use Rattle.sfbank.specs.Outcome.{Done, after_script, after_reading, bank_in, outcome}
use Rattle.sfbank.specs.Recordings.{after_edits}
use Rattle.sfbank.specs.declared.kits.KitWave.{KitWave}
use Rattle.sfbank.specs.Kits.{Design, Source, after_recordings, and_recordings, bare, kit_change, kit_outcome, placeless}
use Rattle.sfbank.specs.Kits.{FitSources, FitsDesign, recordings_from, recordings_in, source_of}
use Rattle.sfbank.specs.Kits.{IsKitScripted, IsKitUndone}
use Rattle.sfbank.specs.Steps.{ReadsBank}
use Rattle.sfbank.specs.Written.{FailsBefore}
use Rattle.sfbank.proofs.Endings.{fails_through}
use Rattle.sfbank.proofs.OutcomeLaws.{bank_fails}
use Rattle.sfbank.proofs.Restores.{restores, edits_numbered, reading_done}

-- ---- where the bytes of a stem are changes no kit

numbered_bare : (n : ℕ) (rs : List KitRecording) → all_numbered n (map bare rs) ≡ all_numbered n rs
numbered_bare n [] = refl
numbered_bare n (r ∷ rs) = ap (λ xs. numbered_as n r ∷ xs) (numbered_bare (n + sample_count r) rs)

room_bare : (n : ℕ) (rs : List KitRecording) → have_room n (map bare rs) ≡ have_room n rs
room_bare n [] = refl
room_bare n (r ∷ rs) =
    ap (λ (x : Bool). if nat_le (n + sample_count r) SAMPLES then x else false) (room_bare (n + sample_count r) rs)

samples_bare : (n : ℕ) (used : List ℕ → Bool) (rs : List KitRecording)
    → sample_edits n used (map bare rs) ≡ sample_edits n used rs
samples_bare n used [] = refl
samples_bare n used (r ∷ rs) =
    ap (λ (xs : List Edit). import_edits n (name_of used r) r.recording
    ++ (if nat_le (n + sample_count r) SAMPLES then xs else [])) (samples_bare (n + sample_count r) (used_after used r) rs)

all_bare : (b : Parts) (rs : List KitRecording) (rows : List (ℕ × KitZone)) (members : KitMembers)
    → all_edits b (map bare rs) rows members ≡ all_edits b rs rows members
all_bare b rs rows members =
    let n = length b.samples in
    λ i. samples_bare n no_names rs i
    ++ (if room_bare n rs i then member_edits b (numbered_bare n rs i) rows members else [])

pub kit_bare : (b : Parts) (rs : List KitRecording) (rows : List (ℕ × KitZone)) (members : KitMembers)
    → kit_edits b (map bare rs) rows members ≡ kit_edits b rs rows members
unfolding kit_edits
kit_bare b rs rows members =
    ap (λ (es : List Edit). option_map_or (λ (k : PresetNumbers). Err (InUse k)) (numbers_in_use b members) (Ok es))
    (all_bare b rs rows members)

-- ---- a file that reads as a bank

pub kit_on : (design : Design) (options : ReadOptions) (sources : List Source) (file : List ℕ) (b : Parts) (counts : Counts)
    → ReadsAs file b counts
    → kit_outcome design options sources file ≡ after_recordings design b (recordings_in options sources)
unfolding kit_outcome
kit_on design options sources file b counts r =
    ap (λ (o : Option ReadFault). after_reading o (after_recordings design (bank_in file) (recordings_in options sources))) r.0
    ∙ ap (λ (c : Content). after_recordings design c.bank (recordings_in options sources)) r.1

-- a file that is no bank
pub kit_not_read : {X : Type 0} (view : X → Parts × Counts) (design : Design) (options : ReadOptions)
    (sources : List Source) (fault : RunFault) (file : List ℕ)
    → ReadsBank view file (Err fault) → FailsBefore fault (kit_outcome design options sources file)
unfolding kit_outcome
kit_not_read view design options sources fault file h =
    bank_fails view fault file (after_recordings design (bank_in file) (recordings_in options sources)) h

-- a WAVE file has a fault
pub no_kit : (design : Design) (options : ReadOptions) (sources : List Source) (file : List ℕ) (b : Parts)
    (counts : Counts) (fault : RunFault)
    → ReadsAs file b counts → FailsBefore fault (recordings_in options sources)
    → FailsBefore fault (kit_outcome design options sources file)
no_kit design options sources file b counts fault r h =
    subst (FailsBefore fault) (sym (kit_on design options sources file b counts r))
    (fails_through (after_recordings design b) (λ f. refl) fault (recordings_in options sources) h)

-- the edits of what was read
pub kit_edited : (design : Design) (options : ReadOptions) (sources : List Source) (file : List ℕ) (b : Parts)
    (counts : Counts) (rs : List KitRecording)
    → ReadsAs file b counts → recordings_in options sources ≡ Ok rs
    → kit_outcome design options sources file ≡ after_recordings design b (Ok rs)
kit_edited design options sources file b counts rs r h =
    kit_on design options sources file b counts r ∙ ap (after_recordings design b) h

-- the preset's numbers are in use
pub kit_refused : (design : Design) (b : Parts) (rs : List KitRecording) (fault : PresetFault)
    → kit_edits b rs design.zones design.members ≡ Err fault
    → FailsBefore (run.Presets fault) (after_recordings design b (Ok (map bare rs)))
kit_refused design b rs fault h =
    ap (λ (x : Result (List Edit) PresetFault). after_edits b (result_map_both (λ (es : List Edit). es) run.Presets x))
    (kit_bare b rs design.zones design.members ∙ h)

pub kit_failed : (design : Design) (b : Parts) (rs : List KitRecording) (failure : Failure PresetFault)
    → IsKitFailure (kit_edits b rs design.zones design.members) failure
    → FailsBefore (in_run run.Presets failure) (after_recordings design b (Ok (map bare rs)))
kit_failed design b rs (Fault fault) h = kit_refused design b rs fault h
kit_failed design b rs OutOfMemory h = tt

-- the points of all recordings are split
pub all_split : (rs : List KitRecording) (sides : List BothSides) → sides ≡ map sides_in rs → AreSplit rs sides
all_split [] [] h = tt
all_split [] (s ∷ sides) h = absurd cc
all_split (r ∷ rs) [] h = absurd cc
all_split (r ∷ rs) (s ∷ sides) h =
    let first : s ≡ sides_in r = cc in let others : sides ≡ map sides_in rs = cc in (first, all_split rs sides others)

-- ---- the recordings of WAVE files

-- recordings before others, or their fault
abbrev pub joined : {X : Type 0} → List X → Result (List X) RunFault → Result (List X) RunFault
joined rs (Ok more) = Ok (rs ++ more)
joined rs (Err fault) = Err fault

pub joined_twice : {X : Type 0} (rs more : List X) (r : Result (List X) RunFault)
    → joined rs (joined more r) ≡ joined (rs ++ more) r
joined_twice rs more (Ok last) = ap Ok (sym (append_assoc rs more last))
joined_twice rs more (Err fault) = refl

one_joined : (i : ℕ) (stem : List ℕ) (r : Recording) (others : Result (List KitRecording) RunFault)
    → and_recordings i stem (Ok r) others ≡ joined (record { stem = placeless stem; recording = r } ∷ []) others
one_joined i stem r (Ok rs) = refl
one_joined i stem r (Err fault) = refl

-- one more recording is read
pub one_read : (due : Result (List KitRecording) RunFault) (options : ReadOptions) (w : KitWave) (waves : List KitWave)
    (n : ℕ) (rs new : List KitRecording) (r : Recording)
    → recording_in options w.wave.now ≡ Ok r → new ≡ rs ++ record { stem = w.stem; recording = r } ∷ []
    → due ≡ joined (map bare rs) (recordings_from n options (map source_of (w ∷ waves)))
    → due ≡ joined (map bare new) (recordings_from (suc n) options (map source_of waves))
one_read due options w waves n rs new r is pushed h =
    let others = recordings_from (suc n) options (map source_of waves) in
    let one : KitRecording = record { stem = placeless w.stem.now; recording = r } in
    h
    ∙ ap (λ (x : Result Recording WaveFault). joined (map bare rs) (and_recordings n w.stem.now x others)) is
    ∙ ap (joined (map bare rs)) (one_joined n w.stem.now r others)
    ∙ joined_twice (map bare rs) (one ∷ []) others
    ∙ ap (λ (xs : List KitRecording). joined xs others)
    (sym (map-append bare rs (record { stem = w.stem; recording = r } ∷ [])) ∙ ap (map bare) (sym pushed))

-- a WAVE file has a fault
pub none_read : (due : Result (List KitRecording) RunFault) (options : ReadOptions) (w : KitWave) (waves : List KitWave)
    (n : ℕ) (rs : List KitRecording) (fault : WaveFault)
    → recording_in options w.wave.now ≡ Err fault
    → due ≡ joined (map bare rs) (recordings_from n options (map source_of (w ∷ waves)))
    → due ≡ Err (run.InRecording n fault)
none_read due options w waves n rs fault is h =
    let others = recordings_from (suc n) options (map source_of waves) in
    h ∙ ap (λ (x : Result Recording WaveFault). joined (map bare rs) (and_recordings n w.stem.now x others)) is

-- all are read
pub all_read : (due : Result (List KitRecording) RunFault) (options : ReadOptions) (n : ℕ) (rs : List KitRecording)
    → due ≡ joined (map bare rs) (recordings_from n options (map source_of [])) → due ≡ Ok (map bare rs)
all_read due options n rs h = h ∙ ap Ok (append-nil (map bare rs))

-- ---- the script of the edits

presets_inverse : (result : Result (List Edit) PresetFault) (edits : List Edit)
    → result_map_both (λ (es : List Edit). es) run.Presets result ≡ Ok edits → result ≡ Ok edits
presets_inverse (Ok es) edits h = cc
presets_inverse (Err fault) edits h = absurd cc

recordings_fit : (options : ReadOptions) (n : ℕ) (sources : List Source) (rs : List KitRecording)
    → FitsKey options.key → FitSources sources → recordings_from n options sources ≡ Ok rs
    → AllByRecursion FitsKitRecording rs
recordings_fit options n [] rs key fits h = let is : [] ≡ rs = cc in subst (AllByRecursion FitsKitRecording) is tt
recordings_fit options n (s ∷ ss) rs key fits h =
    by_parts (recording_in options s.wave) (recordings_from (suc n) options ss) refl refl h
    (λ others g. recordings_fit options (suc n) ss others key fits.1 g)
  where
    by_parts : (x : Result Recording WaveFault) (y : Result (List KitRecording) RunFault)
        → recording_in options s.wave ≡ x → recordings_from (suc n) options ss ≡ y
        → and_recordings n s.stem x y ≡ Ok rs
        → ((others : List KitRecording) → recordings_from (suc n) options ss ≡ Ok others
        → AllByRecursion FitsKitRecording others)
        → AllByRecursion FitsKitRecording rs
    by_parts (Err f) y e g i rest = absurd cc
    by_parts (Ok r) (Err f) e g i rest = absurd cc
    by_parts (Ok r) (Ok others) e g i rest =
        let is : record { stem = placeless s.stem; recording = r } ∷ others ≡ rs = cc in
        subst (AllByRecursion FitsKitRecording) is (
          record { stem = fits.0.stem; recording = recording_fits options s.wave r key fits.0.wave e },
          rest others g,
        )

pub kit_fits : (design : Design) (options : ReadOptions) (sources : List Source) (file : List ℕ) (rs : List KitRecording)
    (edits : List Edit)
    → FitsKey options.key → FitsDesign design → FitSources sources → AreBytes file → fault_of file ≡ None
    → recordings_in options sources ≡ Ok rs → kit_change design (bank_in file) rs ≡ Ok edits → AllFit edits
kit_fits design options sources file rs edits key designed fits bytes read h e =
    kits_fit (bank_in file) rs design.zones design.members edits (read_valid file bytes read)
    (recordings_fit options 1 sources rs key fits h) designed.zones designed.members
    (presets_inverse (kit_edits (bank_in file) rs design.zones design.members) edits e)

pub kit_scripted : (design : Design) (options : ReadOptions) (sources : List Source) (file : List ℕ)
    → FitsKey options.key → FitsDesign design → FitSources sources → AreBytes file → IsKitScripted design options sources file
unfolding kit_outcome outcome
kit_scripted design options sources file key designed fits bytes rs edits h e = by_what (fault_of file) refl
  where
    by_what : (o : Option ReadFault) → fault_of file ≡ o
        → after_reading o (after_recordings design (bank_in file) (recordings_in options sources))
        ≡ after_reading o (after_script (bank_in file) (script_of (texts_of edits)))
    by_what (Some f) is = refl
    by_what None is =
        ap (after_recordings design (bank_in file)) h
        ∙ ap (after_edits (bank_in file)) e
        ∙ sym
        (ap (after_script (bank_in file))
        (printed_is_read edits (kit_fits design options sources file rs edits key designed fits bytes is h e)))

pub kit_read : (design : Design) (options : ReadOptions) (sources : List Source) (file : List ℕ) (done : Done)
    → kit_outcome design options sources file ≡ Ok done → fault_of file ≡ None
unfolding kit_outcome
kit_read design options sources file done h =
    (reading_done (fault_of file) (after_recordings design (bank_in file) (recordings_in options sources)) done h).0

pub kit_restores : (design : Design) (options : ReadOptions) (sources : List Source) (file : List ℕ)
    → FitsKey options.key → FitsDesign design → FitSources sources → AreBytes file → IsKitUndone design options sources file
kit_restores design options sources file key designed fits bytes done rs es h recordings_are e =
    let read = kit_read design options sources file done h in
    let parses = printed_is_read es (kit_fits design options sources file rs es key designed fits bytes read recordings_are e) in
    let run_it = sym (kit_scripted design options sources file key designed fits bytes rs es recordings_are e) ∙ h in
    restores file (texts_of es) bytes done (numbered 1 es) run_it parses
    ∙ ap (λ (xs : List Edit). Ok (record { out = canon (bank_in file); undo = texts_of xs })) (edits_numbered 1 es)

-- a kit that was added has edits
pub record AddsKit (design : Design) (options : ReadOptions) (sources : List Source) (file : List ℕ) : Type 0 where
  pub recordings : List KitRecording
  pub edits : List Edit
  pub read : recordings_in options sources ≡ Ok recordings
  pub changes : kit_change design (bank_in file) recordings ≡ Ok edits

kit_added : (design : Design) (b : Parts) (due : Result (List KitRecording) RunFault) (done : Done)
    → after_recordings design b due ≡ Ok done
    → (rs : List KitRecording) × (due ≡ Ok rs) × (after_edits b (kit_change design b rs) ≡ Ok done)
kit_added design b (Ok rs) done h = (rs, refl, h)
kit_added design b (Err fault) done h = absurd cc

kit_changed : (b : Parts) (due : Result (List Edit) RunFault) (done : Done) → after_edits b due ≡ Ok done
    → (edits : List Edit) × (due ≡ Ok edits)
kit_changed b (Ok edits) done h = (edits, refl)
kit_changed b (Err fault) done h = absurd cc

pub kit_adds : (design : Design) (options : ReadOptions) (sources : List Source) (file : List ℕ) (done : Done)
    → kit_outcome design options sources file ≡ Ok done → AddsKit design options sources file
unfolding kit_outcome
kit_adds design options sources file done h =
    let b = bank_in file in
    let after = reading_done (fault_of file) (after_recordings design b (recordings_in options sources)) done h in
    let added = kit_added design b (recordings_in options sources) done after.1 in
    let changed = kit_changed b (kit_change design b added.0) done added.2 in
    record { recordings = added.0; edits = changed.0; read = added.1; changes = changed.1 }
