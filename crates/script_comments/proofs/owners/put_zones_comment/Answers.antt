use Rattle.script_comments.proofs.OwnerLaws.{puts_comment}
use Rattle.script_comments.proofs.owners.put_zones_comment.Goals as goal

pub returns : goal.returns
returns g c =
    puts_comment c.args.owners.now c.args.i _ _ _ _ _ _ c.args.bank.now g.H.OwnerHead.LEVEL c.requires
    (rw c.first.ensures at c.put_targets_of-lead.ensures) c.put_operators_of_owner.ensures
