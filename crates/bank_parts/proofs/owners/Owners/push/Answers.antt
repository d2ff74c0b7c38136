use Rattle.std.proofs.Common.{insert, ◌∙◌, ap, subst, sym}
use Rattle.bank_parts.specs.Room.{AreStorable}
use Rattle.bank_parts.proofs.ListLaws.{insert-last}
use Rattle.bank_parts.proofs.owners.Owners.push.Goals as goal

pub insert-requires-clause-storable : goal.insert-requires-clause-storable
insert-requires-clause-storable g c =
    subst (AreStorable g.H.OwnerHead.LEVEL)
    (sym
    (ap (λ n. insert c.args.self.now n c.args.owner) c.len-last.ensures ∙ insert-last c.args.self.now c.args.owner))
    c.requires

pub returns-clause-ok : goal.returns-clause-ok
returns-clause-ok g c =
    c.in-Ok.ensures.ok
    ∙
    (ap (λ n. insert c.args.self.now n c.args.owner) c.len-last.ensures
    ∙ insert-last c.args.self.now c.args.owner)
