use Rattle.std.proofs.Common.{◌≡◌, ◌+◌, length, sym, arith}
use Rattle.bank_parts.specs.Counts.{counted}
use Rattle.edit_forms.specs.declared.points.PointStep.TheVariants.{Extend}
use Rattle.edit_forms.specs.declared.step.Step.TheVariants as steps
use Rattle.edit_refusals.proofs.Accepted.{by_limit, below}
use Rattle.edit_refusals.proofs.points.refuse_extend.Goals as goal

pub returns : goal.returns
returns c =
    let b = c.args.bank.now in
    let i = c.args.sample in
    let front = c.args.front.now in
    let back = c.args.back.now in
    let there = c.requires.there in
    let many : c.saturating_add-more.result ≡ counted (length front + length back) =
    omega (arith, c.len.ensures.value, c.len-2.ensures.value, c.saturating_add-more.ensures) in
    by_limit b (steps.Points i (Extend front back)) c.broken_with_points.result c.full.result (there, tt)
    (sym (c.broken_with_points.ensures i front back (below _ i there) many)) c.full.ensures
