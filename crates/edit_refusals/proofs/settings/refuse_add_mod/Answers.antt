use Rattle.std.proofs.Common.{sym}
use Rattle.edit_forms.specs.declared.settings.SettingStep.TheVariants.{AddMod}
use Rattle.edit_forms.specs.declared.step.Step.TheVariants as steps
use Rattle.edit_refusals.proofs.Accepted.{by_limit}
use Rattle.edit_refusals.proofs.PlaceLaws.{there_found}
use Rattle.edit_refusals.proofs.settings.refuse_add_mod.Goals as goal

pub broken_with_mod-requires : goal.broken_with_mod-requires
broken_with_mod-requires c = there_found c.args.bank.now c.args.owner c.args.place c.requires.owner c.requires.zone

pub returns : goal.returns
returns c =
    let b = c.args.bank.now in
    let place = rw c.mods_there.ensures at c.in_ok-bad_insert_index.ensures in
    by_limit b (steps.Setting c.args.owner c.args.place (AddMod c.args.index c.args.modulator))
    c.broken_with_mod.result c.full.result
    (c.requires.owner, (c.requires.zone, (place, (c.in_ok-linked_modulator.ensures, tt))))
    (sym (c.broken_with_mod.ensures c.args.index c.args.modulator)) c.full.ensures
