use Rattle.std.proofs.Common.{[], ◌∷◌, refl}
use Rattle.bank_validity.specs.Limits.{broken_limit}
use Rattle.bank_changes.specs.Points.{with_loop}
use Rattle.edit_forms.specs.declared.points.PointStep.TheVariants.{SetLoop}
use Rattle.edit_forms.specs.declared.step.Step.TheVariants as steps
use Rattle.edit_forms.specs.Causes.{no_such_sample, bad_loop_of}
use Rattle.edit_forms.specs.Steps.{raw}
use Rattle.edit_refusals.proofs.Accepted.{by_last, below}
use Rattle.edit_refusals.proofs.PointLaws.{within_change}
use Rattle.edit_refusals.proofs.points.refuse_set_loop.Goals as goal

pub returns : goal.returns
returns c =
    let b = c.args.bank.now in
    let i = c.args.sample in
    let looped = c.args.looped in
    let there = c.requires.there in
    by_last (no_such_sample b i ∷ []) (bad_loop_of b i looped)
    (broken_limit (raw b (steps.Points i (SetLoop looped)))) c.bad_loop_of.result (there, tt)
    c.bad_loop_of.ensures
    (λ h. within_change b i (with_loop looped) c.requires.sound (below _ i there) (λ s. refl))
