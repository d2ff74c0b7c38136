use Rattle.std.proofs.Common.{sym}
use Rattle.edit_forms.specs.declared.settings.SettingStep.TheVariants.{SetGen}
use Rattle.edit_forms.specs.declared.step.Step.TheVariants as steps
use Rattle.edit_refusals.proofs.Accepted.{by_limit}
use Rattle.edit_refusals.proofs.PlaceLaws.{there_found}
use Rattle.edit_refusals.proofs.settings.refuse_set_gen.Goals as goal

pub broken_with_gen-requires : goal.broken_with_gen-requires
broken_with_gen-requires c = there_found c.args.bank.now c.args.owner c.args.place c.requires.owner c.requires.zone

pub returns : goal.returns
returns c =
    let b = c.args.bank.now in
    let own = rw c.level.ensures at c.in_ok-foreign_operator.ensures in
    by_limit b (steps.Setting c.args.owner c.args.place (SetGen c.args.operator c.args.amount))
    c.broken_with_gen.result c.full.result
    (c.requires.owner, (c.requires.zone, (own, (c.in_ok-bad_amount.ensures, tt))))
    (sym (c.broken_with_gen.ensures c.args.amount)) c.full.ensures
