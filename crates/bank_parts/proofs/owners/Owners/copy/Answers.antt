use Rattle.std.proofs.Common.{◌∙◌}
use Rattle.bank_parts.proofs.ReadLaws.{read, are_read, held}
use Rattle.bank_parts.proofs.MemberLaws.{same_held}
use Rattle.bank_parts.proofs.owners.Owners.copy.Goals as goal

pub invariant_of-result : goal.invariant_of-result
invariant_of-result g c =
    are_read
    (same_held (held c.self.invariant c.self.view_is) c.from_vec.result c.in_ok-bags.bags.owners
    (c.from_vec.ensures ∙ (c.in_ok-heads.ensures.items ∙ c.as_slice.ensures)) c.in_ok-bags.ensures)

pub returns : goal.returns
returns g c =
    read
    (same_held (held c.self.invariant c.self.view_is) c.from_vec.result c.in_ok-bags.bags.owners
    (c.from_vec.ensures ∙ (c.in_ok-heads.ensures.items ∙ c.as_slice.ensures)) c.in_ok-bags.ensures)
