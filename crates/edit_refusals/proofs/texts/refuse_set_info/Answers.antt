use Rattle.std.proofs.Common.{[]}
use Rattle.bank_validity.specs.Limits.{broken_limit}
use Rattle.edit_forms.specs.declared.texts.TextStep.TheVariants.{SetInfo}
use Rattle.edit_forms.specs.declared.step.Step.TheVariants as steps
use Rattle.edit_forms.specs.Causes.{bad_text}
use Rattle.edit_forms.specs.Steps.{raw}
use Rattle.edit_refusals.proofs.Accepted.{by_last}
use Rattle.edit_refusals.proofs.TextLaws.{within_set_info}
use Rattle.edit_refusals.proofs.texts.refuse_set_info.Goals as goal

pub returns : goal.returns
returns c =
    let b = c.args.bank.now in
    by_last [] (bad_text c.args.id c.args.text.now)
    (broken_limit (raw b (steps.Text (SetInfo c.args.id c.args.text.now)))) c.bad_text.result tt
    c.bad_text.ensures
    (λ h. within_set_info b c.args.id c.args.text.now c.requires.valid)
