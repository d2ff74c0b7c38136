use Rattle.std.proofs.Common.{[], ◌∷◌, length}
use Rattle.bank_validity.specs.Limits.{broken_limit}
use Rattle.edit_forms.specs.declared.samples.SampleStep.TheVariants.{MoveSample}
use Rattle.edit_forms.specs.declared.step.Step.TheVariants as steps
use Rattle.edit_forms.specs.Causes.{no_such_sample, bad_member_index}
use Rattle.edit_forms.specs.Steps.{raw}
use Rattle.edit_refusals.proofs.Accepted.{by_last, below}
use Rattle.edit_refusals.proofs.SampleLaws.{within_move_sample}
use Rattle.edit_refusals.proofs.samples.refuse_move_sample.Goals as goal

pub returns : goal.returns
returns c =
    let b = c.args.bank.now in
    let i = c.args.from in
    let j = c.args.to in
    let there = c.in_ok-no_such_sample.ensures in
    by_last (no_such_sample b i ∷ []) (bad_member_index (length b.samples) j)
    (broken_limit (raw b (steps.Sample (MoveSample i j)))) c.bad_member_index.result (there, tt)
    (rw c.count.ensures at c.bad_member_index.ensures)
    (λ place. within_move_sample b i j c.requires.valid (below _ i there) (below _ j place))
