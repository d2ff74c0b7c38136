-- Undo restores the bank, for every step.
use Rattle.bank_parts.specs.declared.parts.Parts.{Parts}
use Rattle.bank_parts.specs.Sound.{IsSound}
use Rattle.edit_forms.specs.declared.step.Step.{Step}
use Rattle.edit_forms.specs.declared.step.Step.TheVariants.{Preset, Instrument, Sample, Points, Zone, Setting, Text}
use Rattle.bank_edits.proofs.UndoneBy.{IsAccepted, IsUndone}
use Rattle.bank_edits.proofs.PresetLaws.{undone_preset}
use Rattle.bank_edits.proofs.InstrumentLaws.{undone_instrument}
use Rattle.bank_edits.proofs.SampleLaws.{undone_sample}
use Rattle.bank_edits.proofs.PointLaws.{undone_points}
use Rattle.bank_edits.proofs.ZoneLaws.{undone_zone}
use Rattle.bank_edits.proofs.SettingLaws.{undone_setting}
use Rattle.bank_edits.proofs.TextLaws.{undone_text}

pub undone_step : (b : Parts) (s : Step) → IsSound b → IsAccepted b s → IsUndone b s
undone_step b (Preset s) = undone_preset b s
undone_step b (Instrument s) = undone_instrument b s
undone_step b (Sample s) = undone_sample b s
undone_step b (Points i s) = undone_points b i s
undone_step b (Zone o s) = undone_zone b o s
undone_step b (Setting o at s) = undone_setting b o at s
undone_step b (Text s) = undone_text b s
