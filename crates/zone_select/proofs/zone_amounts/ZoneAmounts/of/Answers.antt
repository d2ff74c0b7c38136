use Rattle.std.proofs.Common.{length, sym, ap, subst, ◌∙◌, List, ℕ}
use Rattle.std.specs.List.{AllByRecursion}
use Rattle.generators.specs.declared.level.Level.TheVariants as level
use Rattle.bank_parts.specs.declared.parts.Head.{Head}
use Rattle.bank_parts.specs.declared.parts.ZoneOwner.{ZoneOwner}
use Rattle.bank_parts.specs.Valid.{IsPreset, IsInstrument}
use Rattle.bank_changes.specs.declared.members.Owner.{Owner}
use Rattle.zone_select.specs.At.{zone_settings_in, zone_settings_at}
use Rattle.zone_select.proofs.AmountLaws.{settings_are}
use Rattle.zone_select.proofs.zone_amounts.ZoneAmounts.of.Goals as goal

pub returns-in-Preset : goal.returns-in-Preset
returns-in-Preset c =
    let same = c.presets.ensures.value in
    let instruments = length c.args.bank.now.instruments in
    settings_are (λ (h : Head). h.name) level.Preset instruments c.presets.result.now
    (subst (AllByRecursion (IsPreset instruments)) (sym same) c.presets.ensures.valid.presets)
    c.in-Preset.number c.args.zone c.zone_amounts.result c.zone_amounts.ensures.amounts c.zone_amounts.ensures.mods
    c.zone_amounts.ensures.inherited
    ∙ ap (λ (owners : List (ZoneOwner Head)). zone_settings_in owners c.in-Preset.number c.args.zone) same
    ∙ ap (λ (o : Owner). zone_settings_at c.args.bank.now o c.args.zone) (sym c.in-Preset.is)

pub returns-in-Inst : goal.returns-in-Inst
returns-in-Inst c =
    let same = c.instruments.ensures.value in
    let samples = length c.args.bank.now.samples in
    settings_are (λ (name : List ℕ). name) level.Inst samples c.instruments.result.now
    (subst (AllByRecursion (IsInstrument samples)) (sym same) c.instruments.ensures.valid.instruments)
    c.in-Inst.number c.args.zone c.zone_amounts-in-Inst.result c.zone_amounts-in-Inst.ensures.amounts
    c.zone_amounts-in-Inst.ensures.mods c.zone_amounts-in-Inst.ensures.inherited
    ∙ ap (λ (owners : List (ZoneOwner (List ℕ))). zone_settings_in owners c.in-Inst.number c.args.zone) same
    ∙ ap (λ (o : Owner). zone_settings_at c.args.bank.now o c.args.zone) (sym c.in-Inst.is)
