use Rattle.std.proofs.Common.{◌++◌, [], length, ap, ◌∙◌, arith}
use Rattle.std.specs.List.{cons_option}
use Rattle.show_findings.specs.Uses.{other_link}
use Rattle.show_findings.proofs.GatherLaws.{options_more}
use Rattle.show_findings.proofs.uses.links_of.Goals as goal

pub loop-sample-preserved : goal.loop-sample-preserved
loop-sample-preserved c =
    let test = c.loop-sample-test.true in
    let end = c.count_in-sample-end.ensures in
    options_more (other_link c.args.bank.now) (length c.args.bank.now.samples) _ c.loop-sample.found.items _
    c.loop-sample.sample (omega (arith, test, end))
    (c.in_ok-push_option.ensures ∙ ap (λ o. c.loop-sample.found.items ++ cons_option o []) c.other_link.ensures)
    c.loop-sample.invariant
