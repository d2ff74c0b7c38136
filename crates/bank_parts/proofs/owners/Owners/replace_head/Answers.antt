use Rattle.std.proofs.Common.{◌∙◌, arith}
use Rattle.bank_parts.proofs.ReadLaws.{read, are_read, held}
use Rattle.bank_parts.proofs.MemberLaws.{heads_size, heads_at, head_replaced}
use Rattle.bank_parts.proofs.owners.Owners.replace_head.Goals as goal

pub replace-requires : goal.replace-requires
replace-requires g c =
    let size = heads_size (held c.self.invariant c.self.view_is) in let within = c.requires in omega arith

pub invariant_of-self : goal.invariant_of-self
invariant_of-self g c =
    are_read
    (head_replaced (held c.self.invariant c.self.view_is) c.args.i c.args.head c.replace.new.self c.requires
    c.replace.ensures.list)

pub returns-clause-value : goal.returns-clause-value
returns-clause-value g c = heads_at (held c.self.invariant c.self.view_is) c.args.i ∙ c.replace.ensures.value

pub returns-clause-change : goal.returns-clause-change
returns-clause-change g c =
    read
    (head_replaced (held c.self.invariant c.self.view_is) c.args.i c.args.head c.replace.new.self c.requires
    c.replace.ensures.list)
