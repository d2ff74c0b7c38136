use Rattle.std.proofs.Common.{◌≤◌, ◌+◌, length, refl, arith}
use Rattle.flat_records.specs.Bags.{Bag}
use Rattle.flat_records.proofs.TableLaws.{bags_read, are_read, held, shrunk}
use Rattle.flat_records.proofs.WholeBags.{length-emptied}
use Rattle.flat_records.proofs.BagPositions.{Windows, spot, inside, place_read, gens_part, mods_part, later_lowered}
use Rattle.flat_records.proofs.bags.Bags.remove_records.Goals.{After-index-at}
use Rattle.flat_records.proofs.bags.Bags.remove_records.Goals as goal

-- Both ranges are within the lists.
within : (c : After-index-at)
    → (c.index-at.result.now.0 + c.args.j + c.args.n ≤ length c.self.inside.gens.items)
    × (c.index-at.result.now.1 + c.args.i + c.args.m ≤ length c.self.inside.mods.items)
within c =
    let s =
    spot (held c.self.invariant c.self.view_is) c.args.k (Windows c.args.j c.args.n c.args.i c.args.m)
    c.requires.place in
    let gens = inside (gens_part s c.index-at.ensures) in
    let mods = inside (mods_part s c.index-at.ensures) in let place = s.holds in
    (omega arith, omega arith)

pub index-at-requires : goal.index-at-requires
index-at-requires c =
    let more =
    (spot (held c.self.invariant c.self.view_is) c.args.k (Windows c.args.j c.args.n c.args.i c.args.m)
    c.requires.place).begin.more
    in
    let ok = c.self.inside.bags.ok in
    omega (arith, ok.0)

pub overflow_add-at : goal.overflow_add-at
overflow_add-at c =
    let fits = within (goal.at.overflow_add-at c).After-index-at in let ok = c.self.inside.gens.ok in
    omega (arith, ok.0, ok.1)

pub cut_within-requires : goal.cut_within-requires
cut_within-requires c = (within (goal.at.cut_within-requires c).After-index-at).0

pub overflow_add-at-2 : goal.overflow_add-at-2
overflow_add-at-2 c =
    let fits = within (goal.at.overflow_add-at-2 c).After-index-at in let ok = c.self.inside.mods.ok in
    omega (arith, ok.0, ok.1)

pub cut_within-requires-2 : goal.cut_within-requires-2
cut_within-requires-2 c = (within (goal.at.cut_within-requires-2 c).After-index-at).1

pub overflow_add-k : goal.overflow_add-k
overflow_add-k c =
    let more =
    (spot (held c.self.invariant c.self.view_is) c.args.k (Windows c.args.j c.args.n c.args.i c.args.m)
    c.requires.place).begin.more
    in
    let ok = c.self.inside.bags.ok in
    omega (arith, ok.0, ok.1)

pub overflow_cast-n : goal.overflow_cast-n
overflow_cast-n c =
    let s =
    spot (held c.self.invariant c.self.view_is) c.args.k (Windows c.args.j c.args.n c.args.i c.args.m)
    c.requires.place in
    let size = length-emptied (λ (b : Bag). b.gens) c.args.self.now.bags c.args.k s.bag refl s.there in
    let within = s.holds in let fits = c.records_fit.ensures.gens in
    omega arith

pub overflow_cast-m : goal.overflow_cast-m
overflow_cast-m c =
    let s =
    spot (held c.self.invariant c.self.view_is) c.args.k (Windows c.args.j c.args.n c.args.i c.args.m)
    c.requires.place in
    let size = length-emptied (λ (b : Bag). b.mods) c.args.self.now.bags c.args.k s.bag refl s.there in
    let within = s.holds in let fits = c.records_fit.ensures.mods in
    omega arith

pub lower_from-requires : goal.lower_from-requires
lower_from-requires c =
    let s =
    spot (held c.self.invariant c.self.view_is) c.args.k (Windows c.args.j c.args.n c.args.i c.args.m)
    c.requires.place in
    later_lowered s c.args.n c.args.m (omega arith) (omega arith)

pub invariant_of-self : goal.invariant_of-self
invariant_of-self c =
    let s =
    spot (held c.self.invariant c.self.view_is) c.args.k (Windows c.args.j c.args.n c.args.i c.args.m)
    c.requires.place in
    are_read
    (shrunk s.begin (place_read s c.index-at.ensures) c.args.j c.args.n c.args.i c.args.m s.holds.0 s.holds.1
    c.lower_from.ensures.list c.cut_within.ensures.list c.cut_within-2.ensures.list)

pub returns-clause-bags : goal.returns-clause-bags
returns-clause-bags c =
    let s =
    spot (held c.self.invariant c.self.view_is) c.args.k (Windows c.args.j c.args.n c.args.i c.args.m)
    c.requires.place in
    bags_read
    (shrunk s.begin (place_read s c.index-at.ensures) c.args.j c.args.n c.args.i c.args.m s.holds.0 s.holds.1
    c.lower_from.ensures.list c.cut_within.ensures.list c.cut_within-2.ensures.list)
