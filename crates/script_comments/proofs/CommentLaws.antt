-- The comment of each edit is a comment.
use Rattle.std.proofs.Common.{◌≡◌, ℕ, true, false, List, [], ◌∷◌, ◌++◌, slice_get, Option, Some, None, subst}
use Rattle.std.specs.List.{flat_map}
use Rattle.base_outputs.specs.declared.output.Output.{Output}
use Rattle.base_outputs.specs.Output.{Puts}
use Rattle.base_outputs.proofs.OutputLaws.{puts_nothing}
use Rattle.generators.specs.declared.level.Level.TheVariants as level
use Rattle.bank_parts.specs.declared.parts.Parts.{Parts}
use Rattle.bank_parts.specs.Sound.{IsSound}
use Rattle.bank_changes.specs.Members.{level_of}
use Rattle.bank_changes.specs.declared.members.Owner.{Owner}
use Rattle.edit_forms.specs.declared.presets.PresetStep.{PresetStep}
use Rattle.edit_forms.specs.declared.presets.PresetStep.TheVariants.{AddPreset, RemovePreset, MovePreset, SetHead}
use Rattle.edit_forms.specs.declared.instruments.InstrumentStep.{InstrumentStep}
use Rattle.edit_forms.specs.declared.instruments.InstrumentStep.TheVariants.{AddInstrument, RemoveInstrument}
use Rattle.edit_forms.specs.declared.instruments.InstrumentStep.TheVariants.{RenameInstrument, MoveInstrument}
use Rattle.edit_forms.specs.declared.zones.ZoneStep.{ZoneStep}
use Rattle.edit_forms.specs.declared.zones.ZoneStep.TheVariants.{AddZone, RemoveZone, MoveZone, SplitZone, JoinZone}
use Rattle.edit_forms.specs.declared.zones.ZoneStep.TheVariants.{SetTarget}
use Rattle.edit_forms.specs.declared.settings.SettingStep.{SettingStep}
use Rattle.edit_forms.specs.declared.settings.SettingStep.TheVariants.{SetGen, ClearGen, AddMod, RemoveMod, SetMod}
use Rattle.edit_forms.specs.declared.step.Step.{Step}
use Rattle.edit_forms.specs.declared.step.Step.TheVariants as steps
use Rattle.edit_forms.specs.declared.edit.Edit.{Edit}
use Rattle.edit_forms.specs.declared.edit.Edit.TheVariants.{One, Group}
use Rattle.script_comments.specs.declared.lead.Lead.{Lead}
use Rattle.script_comments.specs.Putting.{PutsItems}
use Rattle.script_comments.specs.Names.{target_of, named}
use Rattle.script_comments.specs.Zones.{zone_has, zones_have}
use Rattle.script_comments.specs.Comments.{members, targets, operators, member_items, items_of, has_commas, comment_of}
use Rattle.script_comments.specs.Comments.{preset_targets, instrument_targets, zone_targets, preset_operators}
use Rattle.script_comments.specs.Comments.{instrument_operators, zone_operators, setting_operators}
use Rattle.script_comments.specs.Lines.{CommentsAreComments}
use Rattle.script_comments.proofs.SkipLaws.{ArePrintable, items_comment, printable_all, printable_both}
use Rattle.script_comments.proofs.NameLaws.{named_printable, numbered_printable, targets_printable}
use Rattle.script_comments.proofs.NameLaws.{operator_name_printable, operators_printable}

preset_targets_are : (b : Parts) (s : PresetStep) → IsSound b → ArePrintable (preset_targets b s)
preset_targets_are b (AddPreset at preset) h = targets_printable b level.Preset preset.zones h
preset_targets_are b (RemovePreset p) h = tt
preset_targets_are b (MovePreset from to) h = tt
preset_targets_are b (SetHead p name number bank) h = tt

instrument_targets_are : (b : Parts) (s : InstrumentStep) → IsSound b → ArePrintable (instrument_targets b s)
instrument_targets_are b (AddInstrument at instrument) h = targets_printable b level.Inst instrument.zones h
instrument_targets_are b (RemoveInstrument i) h = tt
instrument_targets_are b (RenameInstrument i name) h = tt
instrument_targets_are b (MoveInstrument from to) h = tt

zone_targets_are : (b : Parts) (o : Owner) (s : ZoneStep) → IsSound b → ArePrintable (zone_targets b o s)
zone_targets_are b o (AddZone at zone) h = numbered_printable b (target_of (level_of o) zone.target) h
zone_targets_are b o (RemoveZone zone) h = tt
zone_targets_are b o (MoveZone from to) h = tt
zone_targets_are b o (SplitZone zone axis at) h = tt
zone_targets_are b o (JoinZone zone axis kept) h = tt
zone_targets_are b o (SetTarget zone target) h = tt

targets_are : (b : Parts) (s : Step) → IsSound b → ArePrintable (targets b s)
targets_are b (steps.Preset s) h = preset_targets_are b s h
targets_are b (steps.Instrument s) h = instrument_targets_are b s h
targets_are b (steps.Sample s) h = tt
targets_are b (steps.Points n s) h = tt
targets_are b (steps.Zone o s) h = zone_targets_are b o s h
targets_are b (steps.Setting o at s) h = tt
targets_are b (steps.Text s) h = tt

preset_operators_are : (s : PresetStep) → ArePrintable (preset_operators s)
preset_operators_are (AddPreset at preset) = operators_printable (zones_have preset.global preset.zones)
preset_operators_are (RemovePreset p) = tt
preset_operators_are (MovePreset from to) = tt
preset_operators_are (SetHead p name number bank) = tt

instrument_operators_are : (s : InstrumentStep) → ArePrintable (instrument_operators s)
instrument_operators_are (AddInstrument at instrument) =
    operators_printable (zones_have instrument.global instrument.zones)
instrument_operators_are (RemoveInstrument i) = tt
instrument_operators_are (RenameInstrument i name) = tt
instrument_operators_are (MoveInstrument from to) = tt

zone_operators_are : (s : ZoneStep) → ArePrintable (zone_operators s)
zone_operators_are (AddZone at zone) = operators_printable (λ op. zone_has op zone)
zone_operators_are (RemoveZone zone) = tt
zone_operators_are (MoveZone from to) = tt
zone_operators_are (SplitZone zone axis at) = tt
zone_operators_are (JoinZone zone axis kept) = tt
zone_operators_are (SetTarget zone target) = tt

setting_operators_are : (s : SettingStep) → ArePrintable (setting_operators s)
setting_operators_are (SetGen op amount) = operator_name_printable op
setting_operators_are (ClearGen op) = operator_name_printable op
setting_operators_are (AddMod index modulator) = operator_name_printable modulator.dest
setting_operators_are (RemoveMod index) = tt
setting_operators_are (SetMod index modulator) = operator_name_printable modulator.dest

operators_are : (s : Step) → ArePrintable (operators s)
operators_are (steps.Preset s) = preset_operators_are s
operators_are (steps.Instrument s) = instrument_operators_are s
operators_are (steps.Sample s) = tt
operators_are (steps.Points n s) = tt
operators_are (steps.Zone o s) = zone_operators_are s
operators_are (steps.Setting o at s) = setting_operators_are s
operators_are (steps.Text s) = tt

members_are : (b : Parts) (s : Step) → IsSound b → ArePrintable (member_items b s)
members_are b s h =
    printable_both (flat_map (named b) (members s)) (targets b s)
    (printable_all (named b) (λ m. named_printable b m h) (members s)) (targets_are b s h)

items_are : (b : Parts) (e : Edit) → IsSound b → ArePrintable (items_of b e)
items_are b (One s) h = printable_both (member_items b s) (operators s) (members_are b s h) (operators_are s)
items_are b (Group []) h = tt
items_are b (Group (s ∷ group)) h =
    printable_both (member_items b s) (flat_map operators (s ∷ group)) (members_are b s h)
    (printable_all operators operators_are (s ∷ group))

pub are_comments : CommentsAreComments
unfolding comment_of
are_comments b e h = items_comment (has_commas e) (items_of b e) (items_are b e h)

-- ---- a group, by its first step

module _ {W : Type 0} {c : W → Option (List ℕ)} where
  pub puts_group : {o p : Output W} {last : Lead} (b : Parts) (s : Step) (group : List Step)
      → slice_get group 0 ≡ Some s
      → PutsItems c o p (record { is_begun = false; has_commas = true }) last
      (member_items b s ++ flat_map operators group)
      → Puts c o p (comment_of b (Group group))
  unfolding comment_of
  puts_group b s [] is h = cc
  puts_group {o} {p} {last} b s (x ∷ group) is h =
      let same : s ≡ x = cc is in
      (subst (λ (y : Step). PutsItems c o p (record { is_begun = false; has_commas = true }) last
      (member_items b y ++ flat_map operators (x ∷ group))) same h).puts

  pub puts_no_group : (o : Output W) (b : Parts) (group : List Step) → slice_get group 0 ≡ None
      → Puts c o o (comment_of b (Group group))
  unfolding comment_of
  puts_no_group o b [] is = puts_nothing o
  puts_no_group o b (x ∷ group) is = cc
