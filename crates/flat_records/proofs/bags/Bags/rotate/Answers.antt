use Rattle.std.proofs.Common.{length, get_or, ◌∙◌, ap, arith}
use Rattle.flat_records.proofs.TableLaws.{bags_read, are_read, held, index_there}
use Rattle.flat_records.proofs.BagRotations.{BagRotation, turn, bags_turned}
use Rattle.flat_records.proofs.bags.Bags.rotate.Goals.{After-index-stop}
use Rattle.flat_records.proofs.bags.Bags.rotate.Goals as goal

-- The bags at the three indexes.
turned : (c : After-index-stop)
    → BagRotation
    (record { bags = c.self.inside.bags.items; gens = c.self.inside.gens.items; mods = c.self.inside.mods.items })
    c.args.self.now.bags c.args.a c.args.b c.args.c c.index-start.result c.index-middle.result
    c.index-stop.result
turned c =
    turn (held c.self.invariant c.self.view_is) c.requires.first c.requires.second c.requires.last
    (c.index-start.ensures.index ∙ ap (λ bags. get_or bags c.args.a c.index-start.result) c.deref.ensures.value)
    (c.index-middle.ensures.index ∙ ap (λ bags. get_or bags c.args.b c.index-middle.result) c.deref-2.ensures.value)
    (c.index-stop.ensures.index ∙ ap (λ bags. get_or bags c.args.c c.index-stop.result) c.deref-3.ensures.value)

pub index-start-requires : goal.index-start-requires
index-start-requires c =
    index_there (held c.self.invariant c.self.view_is) (omega arith) (ap length c.deref.ensures.value)

pub index-middle-requires : goal.index-middle-requires
index-middle-requires c =
    index_there (held c.self.invariant c.self.view_is) (omega arith) (ap length c.deref-2.ensures.value)

pub index-stop-requires : goal.index-stop-requires
index-stop-requires c =
    index_there (held c.self.invariant c.self.view_is) c.requires.last (ap length c.deref-3.ensures.value)

pub exchange_within-requires : goal.exchange_within-requires
exchange_within-requires c = (turned (goal.at.exchange_within-requires c).After-index-stop).gens

pub exchange_within-requires-2 : goal.exchange_within-requires-2
exchange_within-requires-2 c = (turned (goal.at.exchange_within-requires-2 c).After-index-stop).mods

pub overflow_sub-down : goal.overflow_sub-down
overflow_sub-down c = (turned (goal.at.overflow_sub-down c).After-index-stop).gens_rise.0

pub overflow_sub-down-2 : goal.overflow_sub-down-2
overflow_sub-down-2 c = (turned (goal.at.overflow_sub-down-2 c).After-index-stop).mods_rise.0

pub overflow_sub-up : goal.overflow_sub-up
overflow_sub-up c = (turned (goal.at.overflow_sub-up c).After-index-stop).gens_rise.1

pub overflow_sub-up-2 : goal.overflow_sub-up-2
overflow_sub-up-2 c = (turned (goal.at.overflow_sub-up-2 c).After-index-stop).mods_rise.1

pub exchange_indexes-requires : goal.exchange_indexes-requires
exchange_indexes-requires c =
    let t = turned (goal.at.exchange_indexes-requires c).After-index-stop in
    let fits = c.index-stop.ensures.fits in
    record { places = t.windows; lower = t.lower; raise = t.raise fits.0 fits.1 }

pub invariant_of-self : goal.invariant_of-self
invariant_of-self c =
    are_read
    (bags_turned (turned (goal.at.invariant_of-self c).After-index-stop) c.exchange_indexes.ensures.list
    c.exchange_within.ensures.list c.exchange_within-2.ensures.list)

pub returns-clause-bags : goal.returns-clause-bags
returns-clause-bags c =
    bags_read
    (bags_turned (turned (goal.at.returns-clause-bags c).After-index-stop) c.exchange_indexes.ensures.list
    c.exchange_within.ensures.list c.exchange_within-2.ensures.list)
