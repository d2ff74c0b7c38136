use Rattle.std.proofs.Common.{ap}
use Rattle.flat_records.specs.Stored.{Stored}
use Rattle.flat_records.proofs.TableLaws.{are_read, bags_read}
use Rattle.flat_records.proofs.RenumberLaws.{records_renumbered}
use Rattle.flat_records.proofs.bags.Bags.renumber.Goals as goal

pub invariant_of-self : goal.invariant_of-self
invariant_of-self c =
    are_read
    (records_renumbered c.args.operator c.args.by c.deref.ensures.value c.as_mut_slice.ensures.value
    c.as_slice-mods.ensures.value c.self.inside.gens.ok.0 c.renumber_last_of_each.auto.gens
    c.renumber_last_of_each.ensures (ap (λ (s : Stored). s.bags) c.self.view_is))

pub returns-clause-bags : goal.returns-clause-bags
returns-clause-bags c =
    bags_read
    (records_renumbered c.args.operator c.args.by c.deref.ensures.value c.as_mut_slice.ensures.value
    c.as_slice-mods.ensures.value c.self.inside.gens.ok.0 c.renumber_last_of_each.auto.gens
    c.renumber_last_of_each.ensures (ap (λ (s : Stored). s.bags) c.self.view_is))
