-- The map of a preset's or an instrument's zones, or the waveform of a sample, or why there is none.
use Rattle.std.specs.Prelude.{ℕ, Bool, true, false, List, nat_lt, length, Result, Ok, Err}
use Rattle.bank_parts.specs.declared.parts.Parts.{Parts}
use Rattle.bank_changes.specs.declared.members.Owner.TheVariants.{Preset, Inst}
use Rattle.bank_format.specs.ReadChecks.{fault_of}
use Rattle.edit_forms.specs.declared.cause.Cause.{Cause}
use Rattle.edit_forms.specs.declared.cause.Cause.TheVariants.{NoSuchPreset, NoSuchInstrument, NoSuchSample}
use Rattle.show_sample.specs.Picture.{sample_picture}
use Rattle.show_zone_map.specs.Picture.{picture}
use Rattle.program_commands.specs.declared.words.Drawn.{Drawn}
use Rattle.program_commands.specs.declared.words.Drawn.TheVariants.{Ranges, Waveform}
use Rattle.program_reports.specs.declared.run_fault.RunFault.{RunFault}
use Rattle.program_reports.specs.declared.run_fault.RunFault.TheVariants as run
use Rattle.sfbank.specs.Outcome.{after_reading, bank_in}

-- the bank has what is drawn
abbrev pub has_drawn : Parts → Drawn → Bool
has_drawn b (Ranges (Preset p)) = nat_lt p (length b.presets)
has_drawn b (Ranges (Inst i)) = nat_lt i (length b.instruments)
has_drawn b (Waveform s) = nat_lt s (length b.samples)

-- the cause for what the bank does not have
abbrev pub cause_of_missing : Drawn → Cause
cause_of_missing (Ranges (Preset p)) = NoSuchPreset
cause_of_missing (Ranges (Inst i)) = NoSuchInstrument
cause_of_missing (Waveform s) = NoSuchSample

-- the drawing
abbrev pub drawing : Parts → Drawn → List ℕ
drawing b (Ranges o) = picture b o
drawing b (Waveform s) = sample_picture b s

abbrev pub if_there : Bool → Drawn → List ℕ → Result (List ℕ) RunFault
if_there true d text = Ok text
if_there false d text = Err (run.NoMember (cause_of_missing d))

-- The first failed check of the file, else the cause for what is missing, else the drawing.
unfoldable pub map_outcome : List ℕ → Drawn → Result (List ℕ) RunFault
map_outcome file d = after_reading (fault_of file) (if_there (has_drawn (bank_in file) d) d (drawing (bank_in file) d))
