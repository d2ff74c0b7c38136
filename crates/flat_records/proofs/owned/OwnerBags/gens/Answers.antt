use Rattle.std.proofs.Common.{◌≡◌}
use Rattle.flat_records.specs.Bags.{Bag}
use Rattle.flat_records.proofs.Owners.{held}
use Rattle.flat_records.proofs.OwnerPlaces.{any_bag, place_there, bag_within, bag_value}
use Rattle.flat_records.proofs.owned.OwnerBags.gens.Goals as goal

pub place-at-requires : goal.place-at-requires
place-at-requires c =
    place_there (any_bag (held c.self.invariant c.self.view_is) c.args.i c.args.k c.requires).gap
    c.deref.ensures.value

pub gens-requires : goal.gens-requires
gens-requires c =
    bag_within (any_bag (held c.self.invariant c.self.view_is) c.args.i c.args.k c.requires) c.deref.ensures.value
    c.place-at.ensures

pub returns : goal.returns
returns c =
    bag_value (any_bag (held c.self.invariant c.self.view_is) c.args.i c.args.k c.requires) c.deref.ensures.value
    c.place-at.ensures (λ (b : Bag). c.gens.result.now ≡ b.gens) c.gens.ensures
