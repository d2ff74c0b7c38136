use Rattle.std.proofs.Common.{arith}
use Rattle.bank_parts.proofs.ReadLaws.{read, are_read, held}
use Rattle.bank_parts.proofs.MemberLaws.{heads_size, bags_size, member_moved}
use Rattle.bank_parts.proofs.owners.Owners.move_member.Goals as goal

pub move_member-requires-clause-from : goal.move_member-requires-clause-from
move_member-requires-clause-from g c =
    let size = heads_size (held c.self.invariant c.self.view_is) in let within = c.requires.from in omega arith

pub move_member-requires-clause-to : goal.move_member-requires-clause-to
move_member-requires-clause-to g c =
    let size = heads_size (held c.self.invariant c.self.view_is) in let within = c.requires.to in omega arith

pub move_owner-requires-clause-from : goal.move_owner-requires-clause-from
move_owner-requires-clause-from g c =
    let size = bags_size (held c.self.invariant c.self.view_is) in let within = c.requires.from in omega arith

pub move_owner-requires-clause-to : goal.move_owner-requires-clause-to
move_owner-requires-clause-to g c =
    let size = bags_size (held c.self.invariant c.self.view_is) in let within = c.requires.to in omega arith

pub invariant_of-self : goal.invariant_of-self
invariant_of-self g c =
    are_read
    (member_moved (held c.self.invariant c.self.view_is) c.args.from c.args.to c.move_member.new.self
    c.move_owner.new.self.owners c.requires.from c.move_member.ensures c.move_owner.ensures.owners)

pub returns : goal.returns
returns g c =
    read
    (member_moved (held c.self.invariant c.self.view_is) c.args.from c.args.to c.move_member.new.self
    c.move_owner.new.self.owners c.requires.from c.move_member.ensures c.move_owner.ensures.owners)
