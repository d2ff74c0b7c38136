use Rattle.std.proofs.Common.{[], ◌∷◌}
use Rattle.bank_validity.specs.Limits.{broken_limit}
use Rattle.edit_forms.specs.declared.samples.SampleStep.TheVariants.{RemoveSample}
use Rattle.edit_forms.specs.declared.step.Step.TheVariants as steps
use Rattle.edit_forms.specs.Causes.{no_such_sample, used_sample}
use Rattle.edit_forms.specs.Steps.{raw}
use Rattle.edit_refusals.proofs.Accepted.{by_last, below}
use Rattle.edit_refusals.proofs.SampleLaws.{within_remove}
use Rattle.edit_refusals.proofs.samples.refuse_remove_sample.Goals as goal

pub returns : goal.returns
returns c =
    let b = c.args.bank.now in
    let i = c.args.sample in
    let there = c.in_ok-no_such_sample.ensures in
    by_last (no_such_sample b i ∷ []) (used_sample b i) (broken_limit (raw b (steps.Sample (RemoveSample i))))
    c.used_sample.result (there, tt) c.used_sample.ensures
    (λ free. within_remove b i c.requires (below _ i there) free)
