use Rattle.std.proofs.Common.{◌∙◌, ap}
use Rattle.flat_records.specs.Bags.{Tables}
use Rattle.flat_records.proofs.TableLaws.{held}
use Rattle.flat_records.proofs.bags.Bags.mod_records.Goals as goal

pub returns : goal.returns
returns c = c.deref.ensures.value ∙ ap (λ (t : Tables). t.mods) (held c.self.invariant c.self.view_is).same
