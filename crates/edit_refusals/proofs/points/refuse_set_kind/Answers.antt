use Rattle.std.proofs.Common.{[], ◌∷◌, refl}
use Rattle.bank_validity.specs.Limits.{broken_limit}
use Rattle.bank_changes.specs.Points.{with_kind}
use Rattle.edit_forms.specs.declared.points.PointStep.TheVariants.{SetKind}
use Rattle.edit_forms.specs.declared.step.Step.TheVariants as steps
use Rattle.edit_forms.specs.Causes.{no_such_sample, no_such_link_among}
use Rattle.edit_forms.specs.Steps.{raw}
use Rattle.edit_refusals.proofs.Accepted.{by_last, below}
use Rattle.edit_refusals.proofs.PointLaws.{within_change}
use Rattle.edit_refusals.proofs.points.refuse_set_kind.Goals as goal

pub returns : goal.returns
returns c =
    let b = c.args.bank.now in
    let i = c.args.sample in
    let kind = c.args.kind in
    let there = c.requires.there in
    by_last (no_such_sample b i ∷ []) (no_such_link_among b kind)
    (broken_limit (raw b (steps.Points i (SetKind kind)))) c.no_such_link_among.result (there, tt)
    c.no_such_link_among.ensures
    (λ h. within_change b i (with_kind kind) c.requires.sound (below _ i there) (λ s. refl))
