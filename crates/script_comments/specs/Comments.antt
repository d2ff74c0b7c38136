-- The comment of an edit: what the numbers of its line mean, in names.
use Rattle.std.specs.Prelude.{ℕ, List, [], ◌∷◌, ◌++◌, ◌-◌, ◌==◌, nat_lt, Bool, true, false, if◌then◌else◌}
use Rattle.std.specs.List.{flat_map}
use Rattle.generators.specs.declared.level.Level.TheVariants as level
use Rattle.bank_parts.specs.declared.parts.Kind.{Kind}
use Rattle.bank_parts.specs.declared.parts.Kind.TheVariants.{Mono, Right, Left, Linked}
use Rattle.bank_parts.specs.declared.parts.Parts.{Parts}
use Rattle.bank_changes.specs.Members.{level_of}
use Rattle.bank_changes.specs.declared.members.Owner.{Owner}
use Rattle.bank_changes.specs.declared.members.Owner.TheVariants as owner
use Rattle.edit_forms.specs.declared.presets.PresetStep.{PresetStep}
use Rattle.edit_forms.specs.declared.presets.PresetStep.TheVariants.{AddPreset, RemovePreset, MovePreset, SetHead}
use Rattle.edit_forms.specs.declared.instruments.InstrumentStep.{InstrumentStep}
use Rattle.edit_forms.specs.declared.instruments.InstrumentStep.TheVariants.{AddInstrument, RemoveInstrument}
use Rattle.edit_forms.specs.declared.instruments.InstrumentStep.TheVariants.{RenameInstrument, MoveInstrument}
use Rattle.edit_forms.specs.declared.samples.SampleStep.{SampleStep}
use Rattle.edit_forms.specs.declared.samples.SampleStep.TheVariants.{RenameSample, AddSample, RemoveSample, MoveSample}
use Rattle.edit_forms.specs.declared.points.PointStep.{PointStep}
use Rattle.edit_forms.specs.declared.points.PointStep.TheVariants.{Trim, Extend, SetLoop, SetKind, SetTune}
use Rattle.edit_forms.specs.declared.zones.ZoneStep.{ZoneStep}
use Rattle.edit_forms.specs.declared.zones.ZoneStep.TheVariants.{AddZone, RemoveZone, MoveZone, SplitZone, JoinZone}
use Rattle.edit_forms.specs.declared.zones.ZoneStep.TheVariants.{SetTarget}
use Rattle.edit_forms.specs.declared.settings.SettingStep.{SettingStep}
use Rattle.edit_forms.specs.declared.settings.SettingStep.TheVariants.{SetGen, ClearGen, AddMod, RemoveMod, SetMod}
use Rattle.edit_forms.specs.declared.step.Step.{Step}
use Rattle.edit_forms.specs.declared.step.Step.TheVariants as steps
use Rattle.edit_forms.specs.declared.edit.Edit.{Edit}
use Rattle.edit_forms.specs.declared.edit.Edit.TheVariants.{One, Group}
use Rattle.script_tokens.specs.declared.printing.Piece.{Piece}
use Rattle.script_comments.specs.declared.names.Member.{Member}
use Rattle.script_comments.specs.declared.names.Member.TheVariants as member
use Rattle.script_comments.specs.Items.{comment_text}
use Rattle.script_comments.specs.Names.{target_of, named, numbered, named_operator}
use Rattle.script_comments.specs.Zones.{zone_has, zones_have, target_items, operator_items}

-- ---- members that a line names by number, without the targets of zones that it lists

-- the linked sample
abbrev pub link_of : Kind → List Member
link_of Mono = []
link_of (Right n) = member.Sample n ∷ []
link_of (Left n) = member.Sample n ∷ []
link_of (Linked n) = member.Sample n ∷ []

-- the sample that has number n after another is inserted as number `at`; none if it is the inserted one
abbrev pub before_insertion : ℕ → ℕ → List Member
before_insertion at n =
    if nat_lt n at then member.Sample n ∷ [] else if n == at then [] else member.Sample (n - 1) ∷ []

-- the linked sample of one that is inserted: its link is a number after the insertion
abbrev pub inserted_link : ℕ → Kind → List Member
inserted_link at Mono = []
inserted_link at (Right n) = before_insertion at n
inserted_link at (Left n) = before_insertion at n
inserted_link at (Linked n) = before_insertion at n

-- a preset or an instrument
abbrev pub owner_member : Owner → Member
owner_member (owner.Preset p) = member.Preset p
owner_member (owner.Inst i) = member.Instrument i

abbrev pub preset_members : PresetStep → List Member
preset_members (AddPreset at preset) = []
preset_members (RemovePreset p) = member.Preset p ∷ []
preset_members (MovePreset from to) = member.Preset from ∷ []
preset_members (SetHead p name number bank) = member.Preset p ∷ []

abbrev pub instrument_members : InstrumentStep → List Member
instrument_members (AddInstrument at instrument) = []
instrument_members (RemoveInstrument i) = member.Instrument i ∷ []
instrument_members (RenameInstrument i name) = member.Instrument i ∷ []
instrument_members (MoveInstrument from to) = member.Instrument from ∷ []

abbrev pub sample_members : SampleStep → List Member
sample_members (RenameSample s name) = member.Sample s ∷ []
sample_members (AddSample at sample) = inserted_link at sample.kind
sample_members (RemoveSample s) = member.Sample s ∷ []
sample_members (MoveSample from to) = member.Sample from ∷ []

abbrev pub point_members : PointStep → List Member
point_members (Trim front back) = []
point_members (Extend front back) = []
point_members (SetLoop looped) = []
point_members (SetKind kind) = link_of kind
point_members (SetTune rate key correction) = []

abbrev pub zone_members : Owner → ZoneStep → List Member
zone_members o (AddZone at zone) = []
zone_members o (RemoveZone zone) = []
zone_members o (MoveZone from to) = []
zone_members o (SplitZone zone axis at) = []
zone_members o (JoinZone zone axis kept) = []
zone_members o (SetTarget zone target) = target_of (level_of o) target ∷ []

-- those of a step, in the order of its line. A number at which a member is put is not one of them.
abbrev pub members : Step → List Member
members (steps.Preset s) = preset_members s
members (steps.Instrument s) = instrument_members s
members (steps.Sample s) = sample_members s
members (steps.Points n s) = member.Sample n ∷ point_members s
members (steps.Zone o s) = owner_member o ∷ zone_members o s
members (steps.Setting o at s) = owner_member o ∷ []
members (steps.Text s) = []

-- ---- the targets of zones that a line lists

abbrev pub preset_targets : Parts → PresetStep → List (List Piece)
preset_targets b (AddPreset at preset) = target_items b level.Preset preset.zones
preset_targets b (RemovePreset p) = []
preset_targets b (MovePreset from to) = []
preset_targets b (SetHead p name number bank) = []

abbrev pub instrument_targets : Parts → InstrumentStep → List (List Piece)
instrument_targets b (AddInstrument at instrument) = target_items b level.Inst instrument.zones
instrument_targets b (RemoveInstrument i) = []
instrument_targets b (RenameInstrument i name) = []
instrument_targets b (MoveInstrument from to) = []

abbrev pub zone_targets : Parts → Owner → ZoneStep → List (List Piece)
zone_targets b o (AddZone at zone) = numbered b (target_of (level_of o) zone.target)
zone_targets b o (RemoveZone zone) = []
zone_targets b o (MoveZone from to) = []
zone_targets b o (SplitZone zone axis at) = []
zone_targets b o (JoinZone zone axis kept) = []
zone_targets b o (SetTarget zone target) = []

abbrev pub targets : Parts → Step → List (List Piece)
targets b (steps.Preset s) = preset_targets b s
targets b (steps.Instrument s) = instrument_targets b s
targets b (steps.Sample s) = []
targets b (steps.Points n s) = []
targets b (steps.Zone o s) = zone_targets b o s
targets b (steps.Setting o at s) = []
targets b (steps.Text s) = []

-- ---- operators

abbrev pub preset_operators : PresetStep → List (List Piece)
preset_operators (AddPreset at preset) = operator_items (zones_have preset.global preset.zones)
preset_operators (RemovePreset p) = []
preset_operators (MovePreset from to) = []
preset_operators (SetHead p name number bank) = []

abbrev pub instrument_operators : InstrumentStep → List (List Piece)
instrument_operators (AddInstrument at instrument) = operator_items (zones_have instrument.global instrument.zones)
instrument_operators (RemoveInstrument i) = []
instrument_operators (RenameInstrument i name) = []
instrument_operators (MoveInstrument from to) = []

abbrev pub zone_operators : ZoneStep → List (List Piece)
zone_operators (AddZone at zone) = operator_items (λ op. zone_has op zone)
zone_operators (RemoveZone zone) = []
zone_operators (MoveZone from to) = []
zone_operators (SplitZone zone axis at) = []
zone_operators (JoinZone zone axis kept) = []
zone_operators (SetTarget zone target) = []

-- the operator of a generator, or the destination of a modulator
abbrev pub setting_operators : SettingStep → List (List Piece)
setting_operators (SetGen op amount) = named_operator op
setting_operators (ClearGen op) = named_operator op
setting_operators (AddMod index modulator) = named_operator modulator.dest
setting_operators (RemoveMod index) = []
setting_operators (SetMod index modulator) = named_operator modulator.dest

abbrev pub operators : Step → List (List Piece)
operators (steps.Preset s) = preset_operators s
operators (steps.Instrument s) = instrument_operators s
operators (steps.Sample s) = []
operators (steps.Points n s) = []
operators (steps.Zone o s) = zone_operators s
operators (steps.Setting o at s) = setting_operators s
operators (steps.Text s) = []

-- ---- the comment

-- the names of members, which are those of the bank before the step
abbrev pub member_items : Parts → Step → List (List Piece)
member_items b s = flat_map (named b) (members s) ++ targets b s

-- All of a step. Of a group the operators of all steps, but members only of the first, as later steps may use numbers
-- that earlier steps change.
abbrev pub items_of : Parts → Edit → List (List Piece)
items_of b (One s) = member_items b s ++ operators s
items_of b (Group []) = []
items_of b (Group (s ∷ group)) = member_items b s ++ flat_map operators (s ∷ group)

-- whether a line lists zones
abbrev pub lists_zones : Step → Bool
lists_zones (steps.Preset (AddPreset at preset)) = true
lists_zones (steps.Instrument (AddInstrument at instrument)) = true
lists_zones (steps.Zone o (AddZone at zone)) = true
lists_zones s = false

-- groups and lines that list zones have commas between their items
abbrev pub has_commas : Edit → Bool
has_commas (One s) = lists_zones s
has_commas (Group group) = true

-- the comment of an edit, with names of the bank before it; empty if no number has a name
unfoldable pub comment_of : Parts → Edit → List ℕ
comment_of b e = comment_text (has_commas e) (items_of b e)
