use Rattle.std.proofs.Common.{arith}
use Rattle.flat_records.proofs.Owners.{read, are_read, held, begin_there}
use Rattle.flat_records.proofs.OwnerRotations.{OwnerRotation, turn, owners_turned}
use Rattle.flat_records.proofs.owned.OwnerBags.rotate.Goals.{After-index-stop}
use Rattle.flat_records.proofs.owned.OwnerBags.rotate.Goals as goal

-- The owners at the three indexes.
turned : (c : After-index-stop)
    → OwnerRotation (record { begins = c.self.inside.begins.items; bags = c.self.inside.bags.bags }) c.args.self.now.owners
    c.args.a c.args.b c.args.c c.index-start.result.now c.index-middle.result.now c.index-stop.result.now
turned c =
    turn (held c.self.invariant c.self.view_is) c.requires.first c.requires.second c.requires.last
    c.index-start.ensures c.index-middle.ensures c.index-stop.ensures

pub index-start-requires : goal.index-start-requires
index-start-requires c = begin_there (held c.self.invariant c.self.view_is) (omega arith) c.self.inside.begins.ok.0

pub index-middle-requires : goal.index-middle-requires
index-middle-requires c = begin_there (held c.self.invariant c.self.view_is) (omega arith) c.self.inside.begins.ok.0

pub index-stop-requires : goal.index-stop-requires
index-stop-requires c = begin_there (held c.self.invariant c.self.view_is) (omega arith) c.self.inside.begins.ok.0

pub rotate-requires : goal.rotate-requires
rotate-requires c =
    let t = turned (goal.at.rotate-requires c).After-index-stop in
    record { first = t.rise.0; second = t.rise.1; last = t.inside }

pub overflow_sub-middle : goal.overflow_sub-middle
overflow_sub-middle c = (turned (goal.at.overflow_sub-middle c).After-index-stop).rise.0

pub overflow_sub-stop : goal.overflow_sub-stop
overflow_sub-stop c = (turned (goal.at.overflow_sub-stop c).After-index-stop).rise.1

pub exchange_indexes-requires : goal.exchange_indexes-requires
exchange_indexes-requires c =
    let t = turned (goal.at.exchange_indexes-requires c).After-index-stop in
    record { places = t.windows; lower = t.lower; raise = t.raise (omega arith) }

pub invariant_of-self : goal.invariant_of-self
invariant_of-self c =
    are_read
    (owners_turned (turned (goal.at.invariant_of-self c).After-index-stop) c.exchange_indexes.ensures.list
    c.rotate.ensures.bags)

pub returns-clause-owners : goal.returns-clause-owners
returns-clause-owners c =
    read
    (owners_turned (turned (goal.at.returns-clause-owners c).After-index-stop) c.exchange_indexes.ensures.list
    c.rotate.ensures.bags)
