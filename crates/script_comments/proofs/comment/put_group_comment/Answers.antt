use Rattle.std.proofs.Common.{sym}
use Rattle.std.specs.List.{flat_map}
use Rattle.script_comments.specs.Comments.{member_items, operators}
use Rattle.script_comments.proofs.CommentLaws.{puts_group, puts_no_group}
use Rattle.script_comments.proofs.ItemLaws.{items_then}
use Rattle.script_comments.proofs.comment.put_group_comment.Goals as goal

pub returns-in-Some : goal.returns-in-Some
returns-in-Some g c =
    puts_group c.args.bank.now c.in-Some.step.now c.args.steps.now (sym c.in-Some.ensures.value)
    (items_then (member_items c.args.bank.now c.in-Some.step.now) (flat_map operators c.args.steps.now)
    (rw c.first-in-Some.ensures at c.put_member_items-lead.ensures) c.put_all_operators.ensures)

pub returns-in_default : goal.returns-in_default
returns-in_default g c = puts_no_group _ c.args.bank.now c.args.steps.now (sym c.in_default.ensures.value)
