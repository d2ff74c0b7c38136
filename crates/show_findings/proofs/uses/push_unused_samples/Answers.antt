use Rattle.std.proofs.Common.{◌≡◌, ◌<◌, ◌++◌, List, [], length, get_or, Bool, false, cond, Some, None, ap, ◌∙◌, arith}
use Rattle.show_findings.specs.declared.finding.Finding.TheVariants.{UnusedSample}
use Rattle.std.specs.List.{cons_option}
use Rattle.show_findings.specs.Uses.{unused_sample, unused_samples}
use Rattle.show_findings.proofs.GatherLaws.{options_start, options_more, options_all}
use Rattle.show_findings.proofs.uses.push_unused_samples.Goals as goal

pub loop-sample-init : goal.loop-sample-init
loop-sample-init c = options_start (unused_sample c.args.bank.now) (length c.args.bank.now.samples) c.args.found.now.items

pub loop-sample-preserved : goal.loop-sample-preserved
loop-sample-preserved c =
    let b = c.args.bank.now in
    let i = c.loop-sample.sample in
    let test = c.loop-sample-test.true in
    let end = c.count_in-sample-end.ensures in
    let lt : i < length b.samples = omega (arith, test, end) in
    let made : c.unused_sample.result ≡ unused_sample b i =
    c.unused_sample.ensures
    ∙ ap (λ (t : Bool). cond t None (Some (UnusedSample i)))
    (ap (λ (us : List Bool). get_or us i false) c.as_slice.ensures.value ∙ c.in_ok-used.ensures i lt) in
    options_more (unused_sample b) (length b.samples) c.args.found.now.items c.loop-sample.found.items _ i lt
    (c.in_ok-push_option.ensures ∙ ap (λ o. c.loop-sample.found.items ++ cons_option o []) made) c.loop-sample.invariant

pub returns : goal.returns
unfolding unused_samples
returns c =
    let test = c.loop-sample-test.false in
    let end = c.count_in-sample-end.ensures in
    options_all (unused_sample c.args.bank.now) (length c.args.bank.now.samples) c.args.found.now.items
    c.loop-sample.found.items c.loop-sample.sample (omega (arith, test, end)) c.loop-sample.invariant
