use Rattle.show_findings.specs.Zones.{unselectable_zones}
use Rattle.show_findings.proofs.zones.push_unselectable_zones.Goals as goal

pub returns : goal.returns
unfolding unselectable_zones
returns c = rw (c.as_slice-2.ensures.value, c.in_ok-owners.ensures) at c.push_of_owners.ensures
