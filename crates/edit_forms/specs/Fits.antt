-- Edits whose numbers, names and texts are in the ranges of their fields.
use Rattle.std.specs.Prelude.{◌<◌, ◌^◌}
use Rattle.std.specs.List.{AllByRecursion}
use Rattle.bank_changes.specs.declared.members.Owner.{Owner}
use Rattle.bank_changes.specs.declared.members.Owner.TheVariants as owner
use Rattle.bank_changes.specs.declared.members.Place.{Place}
use Rattle.bank_changes.specs.declared.members.Place.TheVariants as place
use Rattle.edit_forms.specs.declared.step.Step.{Step}
use Rattle.edit_forms.specs.declared.step.Step.TheVariants.{Preset, Instrument, Sample, Points, Zone, Setting, Text}
use Rattle.edit_forms.specs.declared.edit.Edit.{Edit}
use Rattle.edit_forms.specs.declared.edit.Edit.TheVariants.{One, Group}
use Rattle.edit_forms.specs.Presets as presets
use Rattle.edit_forms.specs.Instruments as instruments
use Rattle.edit_forms.specs.Samples as samples
use Rattle.edit_forms.specs.Points as points
use Rattle.edit_forms.specs.Zones as zones
use Rattle.edit_forms.specs.Settings as settings
use Rattle.edit_forms.specs.Texts as texts

-- the number of an owner has 32 bits
abbrev pub FitsOwnerNumber : Owner → Type 0
FitsOwnerNumber (owner.Preset p) = p < 2 ^ 32
FitsOwnerNumber (owner.Inst i) = i < 2 ^ 32

abbrev pub FitsPlace : Place → Type 0
FitsPlace place.Global = Unit {0}
FitsPlace (place.Zone k) = k < 2 ^ 32

-- each number, name and text is in the range of its field
abbrev pub FitsStep : Step → Type 0
FitsStep (Preset s) = presets.Fits s
FitsStep (Instrument s) = instruments.Fits s
FitsStep (Sample s) = samples.Fits s
FitsStep (Points i s) = (i < 2 ^ 32) × points.Fits s
FitsStep (Zone o s) = FitsOwnerNumber o × zones.Fits s
FitsStep (Setting o at s) = FitsOwnerNumber o × FitsPlace at × settings.Fits s
FitsStep (Text s) = texts.Fits s

abbrev pub FitsEdit : Edit → Type 0
FitsEdit (One step) = FitsStep step
FitsEdit (Group steps) = AllByRecursion FitsStep steps
