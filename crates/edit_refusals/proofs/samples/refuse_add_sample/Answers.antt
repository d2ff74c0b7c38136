use Rattle.std.proofs.Common.{ℕ, ◌∙◌, sym, ap}
use Rattle.bank_validity.specs.declared.totals.Totals.{Totals}
use Rattle.bank_validity.specs.Limits.{totals_of, broken, with_sample}
use Rattle.bank_validity.proofs.LimitLaws.{no_limit_of}
use Rattle.edit_forms.specs.declared.samples.SampleStep.TheVariants.{AddSample}
use Rattle.edit_forms.specs.declared.step.Step.TheVariants as steps
use Rattle.edit_refusals.proofs.Accepted.{by_limit, up_to}
use Rattle.edit_refusals.proofs.SampleLaws.{limit_add}
use Rattle.edit_refusals.proofs.samples.refuse_add_sample.Goals as goal

pub broken_with_sample-requires : goal.broken_with_sample-requires
broken_with_sample-requires c = ap broken c.totals.ensures.value ∙ no_limit_of c.args.bank.now c.requires.valid.limits

pub returns : goal.returns
returns c =
    let b = c.args.bank.now in
    let at = c.args.at in
    let s = c.args.sample.now in
    let place = rw c.samples.ensures.value at c.in_ok-bad_insert_index.ensures in
    let sums =
    ap (λ (t : Totals). broken (with_sample t c.len.result)) c.totals.ensures.value
    ∙ ap (λ (n : ℕ). broken (with_sample (totals_of b) n)) c.len.ensures.value in
    by_limit b (steps.Sample (AddSample at s)) c.broken_with_sample.result c.full.result
    (c.in_ok-no_such_link.ensures, (place, (c.in_ok-bad_loop.ensures, tt)))
    (limit_add b at s (up_to _ at place) ∙ sym (c.broken_with_sample.ensures ∙ sums)) c.full.ensures
