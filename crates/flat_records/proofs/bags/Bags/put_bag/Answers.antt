use Rattle.std.proofs.Common.{◌++◌, length, insert, refl, ◌∙◌, ap, append-nil, arith}
use Rattle.flat_records.specs.Runs.{put}
use Rattle.flat_records.specs.Bags.{Bag, no_bag}
use Rattle.flat_records.proofs.WholeBags.{changed_inserted, flat-inserted}
use Rattle.flat_records.proofs.bags.Bags.put_bag.Goals as goal

pub insert_records-requires-clause-gens_limit : goal.insert_records-requires-clause-gens_limit
insert_records-requires-clause-gens_limit c =
    λ some.
    let same =
    ap length
    (flat-inserted (λ (b : Bag). b.gens) c.args.self.now.bags c.insert_empty_bag.new.self.bags c.args.k no_bag
    c.insert_empty_bag.ensures.bags refl)
    in
    let limit = c.requires.gens_limit in
    omega arith

pub insert_records-requires-clause-mods_limit : goal.insert_records-requires-clause-mods_limit
insert_records-requires-clause-mods_limit c =
    λ some.
    let same =
    ap length
    (flat-inserted (λ (b : Bag). b.mods) c.args.self.now.bags c.insert_empty_bag.new.self.bags c.args.k no_bag
    c.insert_empty_bag.ensures.bags refl)
    in
    let limit = c.requires.mods_limit in
    omega arith

pub returns-clause-bags : goal.returns-clause-bags
returns-clause-bags c =
    c.insert_records.ensures.bags
    ∙ (changed_inserted c.args.self.now.bags c.insert_empty_bag.new.self.bags c.args.k no_bag
    (λ (b : Bag). record { gens = put b.gens 0 (c.args.gens.now ++ c.args.last.now); mods = put b.mods 0 c.args.mods.now })
    c.insert_empty_bag.ensures.bags c.requires.place
    ∙ (λ i. insert c.args.self.now.bags c.args.k
    (record { gens = append-nil (c.args.gens.now ++ c.args.last.now) i; mods = append-nil c.args.mods.now i })))
