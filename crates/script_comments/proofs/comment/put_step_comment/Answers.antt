use Rattle.script_comments.specs.Comments.{member_items, operators, comment_of}
use Rattle.script_comments.proofs.ItemLaws.{items_then}
use Rattle.script_comments.proofs.comment.put_step_comment.Goals as goal

pub returns : goal.returns
unfolding comment_of
returns g c =
    (items_then (member_items c.args.bank.now c.args.step.now) (operators c.args.step.now)
    (rw (c.first.ensures, c.lists_zones.ensures) at c.put_member_items-lead.ensures) c.put_operators.ensures).puts
