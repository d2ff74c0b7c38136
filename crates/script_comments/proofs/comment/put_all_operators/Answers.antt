use Rattle.std.specs.List.{flat_map}
use Rattle.script_comments.specs.Comments.{operators}
use Rattle.script_comments.proofs.ItemLaws.{listing_start, listing_item, listing_over}
use Rattle.script_comments.proofs.comment.put_all_operators.Goals as goal

pub loop-step-init : goal.loop-step-init
loop-step-init g c = listing_start (flat_map operators c.args.steps.now)

pub loop-step-preserved : goal.loop-step-preserved
loop-step-preserved g c =
    listing_item operators c.args.steps.now c.step-item.result c.loop-step.step-index c.loop-step.invariant
    c.loop-step-test.true c.step-item.is c.put_operators-next.ensures

pub returns : goal.returns
returns g c = listing_over operators c.args.steps.now c.loop-step.step-index c.loop-step.invariant c.loop-step-test.false
