use Rattle.std.proofs.Common.{◌++◌, [], length, ap, ◌∙◌, arith}
use Rattle.std.specs.Prelude.{slice_get}
use Rattle.std.specs.List.{cons_option}
use Rattle.std.specs.Option.{option_and_then}
use Rattle.show_findings.specs.Samples.{sample_finding}
use Rattle.show_findings.proofs.GatherLaws.{options_start, options_more, options_all}
use Rattle.show_findings.proofs.samples.push_in_samples.Goals as goal

pub loop-number-init : goal.loop-number-init
loop-number-init c =
    let b = c.args.bank.now in
    options_start (λ n. option_and_then (sample_finding c.args.check b n) (slice_get b.samples n)) (length b.samples)
    c.args.found.now.items

pub loop-number-preserved : goal.loop-number-preserved
loop-number-preserved c =
    let b = c.args.bank.now in
    let test = c.loop-number-test.true in
    let end = c.count_in-number-end.ensures in
    options_more (λ n. option_and_then (sample_finding c.args.check b n) (slice_get b.samples n)) (length b.samples)
    c.args.found.now.items c.loop-number.found.items _ c.loop-number.number (omega (arith, test, end))
    (c.in_ok-push_option.ensures ∙ ap (λ o. c.loop-number.found.items ++ cons_option o []) c.finding_at.ensures)
    c.loop-number.invariant

pub returns : goal.returns
returns c =
    let b = c.args.bank.now in
    let test = c.loop-number-test.false in
    let end = c.count_in-number-end.ensures in
    options_all (λ n. option_and_then (sample_finding c.args.check b n) (slice_get b.samples n)) (length b.samples)
    c.args.found.now.items c.loop-number.found.items c.loop-number.number (omega (arith, test, end))
    c.loop-number.invariant
