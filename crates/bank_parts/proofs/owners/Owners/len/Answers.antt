use Rattle.std.proofs.Common.{◌∙◌}
use Rattle.bank_parts.proofs.ReadLaws.{held}
use Rattle.bank_parts.proofs.MemberLaws.{heads_size}
use Rattle.bank_parts.proofs.owners.Owners.len.Goals as goal

pub returns : goal.returns
returns g c = c.len.ensures ∙ heads_size (held c.self.invariant c.self.view_is)
