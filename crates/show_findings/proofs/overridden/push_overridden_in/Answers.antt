use Rattle.std.proofs.Common.{◌++◌, [], ap, ◌∙◌}
use Rattle.std.specs.List.{cons_option}
use Rattle.show_findings.specs.Overridden.{overridden_generator}
use Rattle.show_findings.proofs.GatherLaws.{found_more, found_all}
use Rattle.show_findings.proofs.overridden.push_overridden_in.Goals as goal

pub loop-entry-preserved : goal.loop-entry-preserved
loop-entry-preserved c =
    found_more (overridden_generator c.args.bank.now c.args.owner) c.args.entries.now c.args.found.now.items
    c.loop-entry.found.items c.push_option.new.found.items c.loop-entry.entry-index _ c.loop-entry-test.true
    (c.in_ok-push_option.ensures
    ∙ ap (λ o. c.loop-entry.found.items ++ cons_option o []) c.overridden_generator.ensures)
    c.loop-entry.invariant

pub returns : goal.returns
returns c =
    found_all (overridden_generator c.args.bank.now c.args.owner) c.args.entries.now c.args.found.now.items
    c.loop-entry.found.items c.loop-entry.entry-index c.loop-entry-test.false c.loop-entry.invariant
