use Rattle.std.proofs.Common.{◌∙◌, arith}
use Rattle.bank_parts.proofs.ReadLaws.{held}
use Rattle.bank_parts.proofs.MemberLaws.{heads_size, heads_at}
use Rattle.bank_parts.proofs.owners.Owners.head.Goals as goal

pub member-requires : goal.member-requires
member-requires g c =
    let size = heads_size (held c.self.invariant c.self.view_is) in let within = c.requires in omega arith

pub returns : goal.returns
returns g c = heads_at (held c.self.invariant c.self.view_is) c.args.i ∙ c.member.ensures
