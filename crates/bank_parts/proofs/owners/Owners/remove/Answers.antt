use Rattle.std.proofs.Common.{arith}
use Rattle.bank_parts.proofs.ReadLaws.{read, are_read, held}
use Rattle.bank_parts.proofs.MemberLaws.{heads_size, bags_size, member_removed}
use Rattle.bank_parts.proofs.owners.Owners.remove.Goals as goal

pub remove-requires : goal.remove-requires
remove-requires g c =
    let size = heads_size (held c.self.invariant c.self.view_is) in let within = c.requires in omega arith

pub cut_owner-requires : goal.cut_owner-requires
cut_owner-requires g c =
    let size = bags_size (held c.self.invariant c.self.view_is) in let within = c.requires in omega arith

pub invariant_of-self : goal.invariant_of-self
invariant_of-self g c =
    are_read
    (member_removed (held c.self.invariant c.self.view_is) c.args.i c.remove.new.self c.cut_owner.new.self.owners
    c.remove.ensures.list c.cut_owner.ensures)

pub returns-clause-change : goal.returns-clause-change
returns-clause-change g c =
    read
    (member_removed (held c.self.invariant c.self.view_is) c.args.i c.remove.new.self c.cut_owner.new.self.owners
    c.remove.ensures.list c.cut_owner.ensures)
