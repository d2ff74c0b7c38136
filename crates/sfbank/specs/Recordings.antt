-- Exports samples as a WAVE file, and brings a WAVE file into a bank.
use Rattle.std.specs.Prelude.{◌≡◌, ◌<◌, ◌^◌, ◌==◌, if◌then◌else◌, ◌&&◌, ℕ, List, length, slice_get, Option, Some, None}
use Rattle.std.specs.Prelude.{Result, Ok, Err, Bool}
use Rattle.std.specs.Result.{result_map_both}
use Rattle.bank_parts.specs.declared.parts.Parts.{Parts}
use Rattle.bank_parts.specs.declared.parts.Sample.{Sample}
use Rattle.hydra_records.specs.Records.{AreBytes}
use Rattle.bank_format.specs.Canon.{canon}
use Rattle.bank_format.specs.ReadChecks.{fault_of}
use Rattle.edit_forms.specs.declared.edit.Edit.{Edit}
use Rattle.edit_forms.specs.declared.cause.Cause.TheVariants.{NoSuchSample}
use Rattle.edit_script.specs.Printing.{texts_of, numbered}
use Rattle.wave_file.specs.SampleWave.{sample_wave}
use Rattle.wave_file.specs.declared.fault.WaveFault.{WaveFault}
use Rattle.wave_file.specs.declared.fault.WaveFault.TheVariants.{TwoChannels, NotAPair, SidesDiffer}
use Rattle.wave_file.specs.declared.options.ReadOptions.{ReadOptions}
use Rattle.wave_file.specs.declared.recording.Recording.{Recording}
use Rattle.wave_file.specs.ReadChecks.{recording_in}
use Rattle.wave_file.specs.Imports.{import_edits}
use Rattle.pair_waves.specs.PairWave.{pair_wave}
use Rattle.sample_replacements.specs.declared.fault.ReplaceFault.{ReplaceFault}
use Rattle.sample_replacements.specs.declared.fault.ReplaceFault.TheVariants as replacing
use Rattle.sample_replacements.specs.Pairs.{pair_in}
use Rattle.sample_replacements.specs.Replacements.{replacement_edits, replaced}
use Rattle.program_reports.specs.declared.run_fault.RunFault.{RunFault}
use Rattle.program_reports.specs.declared.run_fault.RunFault.TheVariants as run
use Rattle.sfbank.specs.declared.recorded.Destination.{Destination}
use Rattle.sfbank.specs.declared.recorded.Destination.TheVariants.{End, Place}
use Rattle.sfbank.specs.Outcome.{Done, after_script, after_reading, bank_in, outcome}

-- ---- a sample as a WAVE file

abbrev pub wave_of : Option Sample → Result (List ℕ) RunFault
wave_of (Some s) = Ok (sample_wave s)
wave_of None = Err (run.NoMember NoSuchSample)

-- The first failed check of the file, else `NoSuchSample` if its bank has no sample of this number, else the sample's
-- WAVE file.
unfoldable pub wave_outcome : List ℕ → ℕ → Result (List ℕ) RunFault
wave_outcome file number = after_reading (fault_of file) (wave_of (slice_get (bank_in file).samples number))

-- ---- a pair of samples as a WAVE file

-- two samples have the same number of points, and one rate
abbrev pub are_alike : Sample → Sample → Bool
are_alike left right = length left.points == length right.points && left.rate == right.rate

abbrev pub wave_of_both : Option Sample → Option Sample → Result (List ℕ) RunFault
wave_of_both (Some left) (Some right) =
    if are_alike left right then Ok (pair_wave left right) else Err (run.Recording SidesDiffer)
wave_of_both left right = Err (run.Recording NotAPair)

abbrev pub wave_of_pair : List Sample → Option (ℕ × ℕ) → Result (List ℕ) RunFault
wave_of_pair samples (Some pair) = wave_of_both (slice_get samples pair.0) (slice_get samples pair.1)
wave_of_pair samples None = Err (run.Recording NotAPair)

-- the pair of which a sample is one, where there is that sample
abbrev pub pair_wave_of : List Sample → ℕ → Option Sample → Result (List ℕ) RunFault
pair_wave_of samples number (Some s) = wave_of_pair samples (pair_in samples number)
pair_wave_of samples number None = Err (run.NoMember NoSuchSample)

-- The first failed check of the file, else `NoSuchSample` if its bank has no sample of this number, else `NotAPair` if
-- it is not one of a pair, else `SidesDiffer` if the two are not alike, else the WAVE file of both.
unfoldable pub pair_outcome : List ℕ → ℕ → Result (List ℕ) RunFault
pair_outcome file number =
    after_reading (fault_of file)
    (pair_wave_of (bank_in file).samples number (slice_get (bank_in file).samples number))

-- ---- a WAVE file in a bank

-- the edits by which a recording changes a bank, or why it can't
abbrev pub Change : Type 0
Change = Parts → Recording → Result (List Edit) RunFault

-- it is appended to the samples, with this name
abbrev pub appended : List ℕ → Change
appended name b r = Ok (import_edits (length b.samples) name r)

abbrev pub fault_of_replacement : ReplaceFault → RunFault
fault_of_replacement replacing.NoSuchSample = run.NoMember NoSuchSample
fault_of_replacement replacing.TwoChannels = run.Recording TwoChannels
fault_of_replacement replacing.OutOfMemory = run.Memory

-- it is put in the place of a sample
abbrev pub put_in_place : ℕ → Change
put_in_place number b r = result_map_both (λ edits. edits) fault_of_replacement (replacement_edits b number r)

-- a name of bytes, or a number of a sample in range
abbrev pub FitsDestination : Destination → Type 0
FitsDestination (End name) = AreBytes name.now
FitsDestination (Place number) = number < 2 ^ 32

-- the change for a destination
abbrev pub change_of : Destination → Change
change_of (End name) = appended name.now
change_of (Place number) = put_in_place number

-- the outcome of edits that are the lines of a script
abbrev pub after_edits : Parts → Result (List Edit) RunFault → Result Done RunFault
after_edits b (Ok edits) = after_script b (Ok (numbered 1 edits))
after_edits b (Err fault) = Err fault

abbrev pub after_recording : Parts → Change → Result Recording WaveFault → Result Done RunFault
after_recording b change (Ok r) = after_edits b (change b r)
after_recording b change (Err f) = Err (run.Recording f)

-- The first failed check of the file, else of the WAVE file, else why the recording can't change the bank, else the
-- first refused edit by its line, else both texts.
unfoldable pub recording_outcome : Change → ReadOptions → List ℕ → List ℕ → Result Done RunFault
recording_outcome change options file wave =
    after_reading (fault_of file) (after_recording (bank_in file) change (recording_in options wave))

abbrev pub import_outcome : ReadOptions → List ℕ → List ℕ → List ℕ → Result Done RunFault
import_outcome options name file wave = recording_outcome (appended name) options file wave

abbrev pub replace_outcome : ReadOptions → ℕ → List ℕ → List ℕ → Result Done RunFault
replace_outcome options number file wave = recording_outcome (put_in_place number) options file wave

-- The outcome is that of the script of the edits.
abbrev pub IsScripted : Change → ReadOptions → List ℕ → List ℕ → Type 0
IsScripted change options file wave =
    (r : Recording) (edits : List Edit) → recording_in options wave ≡ Ok r → change (bank_in file) r ≡ Ok edits
    → recording_outcome change options file wave ≡ outcome file (texts_of edits)

-- If it succeeds, its undo text, run on the written file, succeeds too: it writes the canonical file of the first bank,
-- and its own undo text is the edits.
abbrev pub IsRecordingUndone : Change → ReadOptions → List ℕ → List ℕ → Type 0
IsRecordingUndone change options file wave =
    (done : Done) (r : Recording) (edits : List Edit) → recording_outcome change options file wave ≡ Ok done
    → recording_in options wave ≡ Ok r → change (bank_in file) r ≡ Ok edits
    → outcome done.out done.undo ≡ Ok (record { out = canon (bank_in file); undo = texts_of edits })

-- If it succeeds, the written file is that of the bank with the recording in the place of the sample: all other samples,
-- its name and its link, and all zones are as they were.
abbrev pub IsReplaced : ReadOptions → ℕ → List ℕ → List ℕ → Type 0
IsReplaced options number file wave =
    (done : Done) (r : Recording) → replace_outcome options number file wave ≡ Ok done → recording_in options wave ≡ Ok r
    → done.out ≡ canon (replaced (bank_in file) number r)
