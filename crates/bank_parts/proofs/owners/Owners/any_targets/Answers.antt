use Rattle.std.proofs.Common.{◌∙◌}
use Rattle.std.specs.List.{list_any}
use Rattle.bank_parts.specs.Records.{is_target}
use Rattle.bank_parts.proofs.ReadLaws.{held}
use Rattle.bank_parts.proofs.RecordLaws.{any_target}
use Rattle.bank_parts.proofs.owners.Owners.any_targets.Goals as goal

pub returns : goal.returns
returns g c =
    c.any_is_target.ensures
    ∙ ((λ t. list_any (is_target (c.operator.ensures t) c.args.number) (c.gen_records.ensures t))
    ∙ any_target g.H.OwnerHead.LEVEL c.args.number (held c.self.invariant c.self.view_is))
