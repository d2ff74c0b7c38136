use Rattle.std.proofs.Common.{◌≡◌}
use Rattle.flat_records.specs.Bags.{Bag}
use Rattle.flat_records.proofs.Owners.{held}
use Rattle.flat_records.proofs.OwnerPlaces.{any_bag, place_there, bag_within, bag_value}
use Rattle.flat_records.proofs.owned.OwnerBags.mods.Goals as goal

pub place-at-requires : goal.place-at-requires
place-at-requires c =
    place_there (any_bag (held c.self.invariant c.self.view_is) c.args.i c.args.k c.requires).gap
    c.deref.ensures.value

pub mods-requires : goal.mods-requires
mods-requires c =
    bag_within (any_bag (held c.self.invariant c.self.view_is) c.args.i c.args.k c.requires) c.deref.ensures.value
    c.place-at.ensures

pub returns : goal.returns
returns c =
    bag_value (any_bag (held c.self.invariant c.self.view_is) c.args.i c.args.k c.requires) c.deref.ensures.value
    c.place-at.ensures (λ (b : Bag). c.mods.result.now ≡ b.mods) c.mods.ensures
