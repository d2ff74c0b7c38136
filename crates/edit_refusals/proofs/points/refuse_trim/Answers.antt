use Rattle.std.proofs.Common.{[], ◌∷◌}
use Rattle.bank_validity.specs.Limits.{broken_limit}
use Rattle.edit_forms.specs.declared.points.PointStep.TheVariants.{Trim}
use Rattle.edit_forms.specs.declared.step.Step.TheVariants as steps
use Rattle.edit_forms.specs.Causes.{no_such_sample, too_short, loop_cut}
use Rattle.edit_forms.specs.Steps.{raw}
use Rattle.edit_refusals.proofs.Accepted.{by_last, below, up_to}
use Rattle.edit_refusals.proofs.PointLaws.{within_trim}
use Rattle.edit_refusals.proofs.points.refuse_trim.Goals as goal

pub returns : goal.returns
returns c =
    let b = c.args.bank.now in
    let i = c.args.sample in
    let front = c.args.front in
    let back = c.args.back in
    let there = c.requires.there in
    let inside = c.in_ok-too_short.ensures in
    by_last (no_such_sample b i ∷ too_short b i front back ∷ []) (loop_cut b i front back)
    (broken_limit (raw b (steps.Points i (Trim front back)))) c.loop_cut.result (there, (inside, tt))
    c.loop_cut.ensures
    (λ h. within_trim b i front back c.requires.sound (below _ i there) (up_to _ _ inside))
