use Rattle.show_findings.specs.Overridden.{overridden_generators}
use Rattle.show_findings.proofs.overridden.push_overridden_generators.Goals as goal

pub returns : goal.returns
unfolding overridden_generators
returns c = rw (c.as_slice.ensures.value, c.in_ok-owners.ensures) at c.push_overridden_of_owners.ensures
