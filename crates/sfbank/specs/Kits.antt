-- Brings several recordings into a bank, with an instrument of them and a preset.
use Rattle.std.specs.Prelude.{◌≡◌, ℕ, suc, List, [], ◌∷◌, Result, Ok, Err}
use Rattle.std.specs.Borrow.{Bor}
use Rattle.std.specs.Result.{result_map_both}
use Rattle.std.specs.List.{AllByRecursion}
use Rattle.bank_parts.specs.declared.parts.Parts.{Parts}
use Rattle.hydra_records.specs.Records.{AreBytes}
use Rattle.bank_format.specs.Canon.{canon}
use Rattle.bank_format.specs.ReadChecks.{fault_of}
use Rattle.edit_forms.specs.declared.edit.Edit.{Edit}
use Rattle.edit_script.specs.Printing.{texts_of}
use Rattle.kit_tables.specs.declared.zone.KitZone.{KitZone}
use Rattle.kit_edits.specs.declared.kit.KitMembers.{KitMembers}
use Rattle.kit_edits.specs.declared.kit.KitRecording.{KitRecording}
use Rattle.kit_edits.specs.Fits.{FitsKitZone, FitMembers}
use Rattle.kit_edits.specs.Kits.{kit_edits}
use Rattle.plan_presets.specs.declared.fault.PresetFault.{PresetFault}
use Rattle.wave_file.specs.declared.fault.WaveFault.{WaveFault}
use Rattle.wave_file.specs.declared.options.ReadOptions.{ReadOptions}
use Rattle.wave_file.specs.declared.recording.Recording.{Recording}
use Rattle.wave_file.specs.ReadChecks.{recording_in}
use Rattle.program_reports.specs.declared.run_fault.RunFault.{RunFault}
use Rattle.program_reports.specs.declared.run_fault.RunFault.TheVariants as run
use Rattle.sfbank.specs.declared.kits.KitWave.{KitWave}
use Rattle.sfbank.specs.Outcome.{Done, after_reading, bank_in, outcome}
use Rattle.sfbank.specs.Recordings.{after_edits}

-- ---- what is imported

-- a WAVE file, and what its sample is named after
pub record Source : Type 0 where
  pub stem : List ℕ
  pub wave : List ℕ

abbrev pub source_of : KitWave → Source
source_of w = record { stem = w.stem.now; wave = w.wave.now }

-- what is made of the recordings: the zones of the instrument, each with the number of its recording, the instrument and
-- the preset
pub record Design : Type 0 where
  pub zones : List (ℕ × KitZone)
  pub members : KitMembers

-- ---- the recordings

-- bytes at no address
abbrev pub placeless : List ℕ → Bor (List ℕ)
placeless bytes = record { ref_ptr = (0, 0); now = bytes }

-- a recording whose stem is at no address: where its bytes are changes no kit
abbrev pub bare : KitRecording → KitRecording
bare r = record { stem = placeless r.stem.now; recording = r.recording }

-- a recording with its stem before others, or its fault with its number, which comes first
abbrev pub and_recordings : ℕ → List ℕ → Result Recording WaveFault → Result (List KitRecording) RunFault
    → Result (List KitRecording) RunFault
and_recordings n stem (Err fault) others = Err (run.InRecording n fault)
and_recordings n stem (Ok r) (Err fault) = Err fault
and_recordings n stem (Ok r) (Ok rs) = Ok (record { stem = placeless stem; recording = r } ∷ rs)

-- the recordings of WAVE files, of which the first has the number n, or the fault of the first that has one
abbrev pub recordings_from : ℕ → ReadOptions → List Source → Result (List KitRecording) RunFault
recordings_from n options [] = Ok []
recordings_from n options (s ∷ ss) =
    and_recordings n s.stem (recording_in options s.wave) (recordings_from (suc n) options ss)

-- the same, numbered from 1
abbrev pub recordings_in : ReadOptions → List Source → Result (List KitRecording) RunFault
recordings_in options sources = recordings_from 1 options sources

-- ---- the edits

-- the edits that add a kit to a bank, or why they can't
abbrev pub kit_change : Design → Parts → List KitRecording → Result (List Edit) RunFault
kit_change design b rs = result_map_both (λ edits. edits) run.Presets (kit_edits b rs design.zones design.members)

abbrev pub after_recordings : Design → Parts → Result (List KitRecording) RunFault → Result Done RunFault
after_recordings design b (Ok rs) = after_edits b (kit_change design b rs)
after_recordings design b (Err fault) = Err fault

-- The first failed check of the file, else of the first faulty WAVE file, else why the preset can't be added, else the
-- first refused edit by its line, else both texts.
unfoldable pub kit_outcome : Design → ReadOptions → List Source → List ℕ → Result Done RunFault
kit_outcome design options sources file =
    after_reading (fault_of file) (after_recordings design (bank_in file) (recordings_in options sources))

-- stems and WAVE files of bytes
pub record FitsSource (s : Source) : Type 0 where
  pub stem : AreBytes s.stem
  pub wave : AreBytes s.wave

abbrev pub FitSources : List Source → Type 0
FitSources sources = AllByRecursion FitsSource sources

-- zones and members in the ranges of their types
pub record FitsDesign (design : Design) : Type 0 where
  pub zones : AllByRecursion (λ (zone : ℕ × KitZone). FitsKitZone zone.1) design.zones
  pub members : FitMembers design.members

pub record FitsKit (design : Design) (sources : List Source) : Type 0 where
  pub designed : FitsDesign design
  pub given : FitSources sources

-- ---- what holds of an outcome

-- The outcome is that of the script of the edits.
abbrev pub IsKitScripted : Design → ReadOptions → List Source → List ℕ → Type 0
IsKitScripted design options sources file =
    (rs : List KitRecording) (edits : List Edit) → recordings_in options sources ≡ Ok rs
    → kit_change design (bank_in file) rs ≡ Ok edits
    → kit_outcome design options sources file ≡ outcome file (texts_of edits)

-- If it succeeds, its undo text, run on the written file, succeeds too: it writes the canonical file of the first bank,
-- and its own undo text is the edits.
abbrev pub IsKitUndone : Design → ReadOptions → List Source → List ℕ → Type 0
IsKitUndone design options sources file =
    (done : Done) (rs : List KitRecording) (edits : List Edit) → kit_outcome design options sources file ≡ Ok done
    → recordings_in options sources ≡ Ok rs → kit_change design (bank_in file) rs ≡ Ok edits
    → outcome done.out done.undo ≡ Ok (record { out = canon (bank_in file); undo = texts_of edits })
