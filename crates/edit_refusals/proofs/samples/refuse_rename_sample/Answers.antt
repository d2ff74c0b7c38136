use Rattle.std.proofs.Common.{[]}
use Rattle.bank_validity.specs.Limits.{broken_limit}
use Rattle.edit_forms.specs.declared.samples.SampleStep.TheVariants.{RenameSample}
use Rattle.edit_forms.specs.declared.step.Step.TheVariants as steps
use Rattle.edit_forms.specs.Causes.{no_such_sample}
use Rattle.edit_forms.specs.Steps.{raw}
use Rattle.edit_refusals.proofs.Accepted.{by_last}
use Rattle.edit_refusals.proofs.SampleLaws.{within_rename}
use Rattle.edit_refusals.proofs.samples.refuse_rename_sample.Goals as goal

pub returns : goal.returns
returns c = λ name.
    let b = c.args.bank.now in
    by_last [] (no_such_sample b c.args.sample)
    (broken_limit (raw b (steps.Sample (RenameSample c.args.sample name)))) c.no_such_sample.result tt
    c.no_such_sample.ensures
    (λ h. within_rename b c.args.sample name c.requires.valid)
