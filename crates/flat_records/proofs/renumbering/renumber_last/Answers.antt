use Rattle.std.proofs.Common.{rules}
use Rattle.flat_records.specs.Bags.{Tables}
use Rattle.flat_records.proofs.RenumberLaws.{index_there, last_there, last_can_be, last_renumbered, none_renumbered}
use Rattle.flat_records.proofs.renumbering.renumber_last.Goals as goal

pub offset_bounds-bags-k : goal.offset_bounds-bags-k
offset_bounds-bags-k c =
    let more = index_there c.args.operator c.args.by (let t : Tables = record { bags = c.args.bags.now; gens = c.args.gens.now; mods = c.args._mods.now } in t) c.requires.records c.args.k c.requires.there in
    search rules

pub bounds-bags-k : goal.bounds-bags-k
bounds-bags-k c =
    let more = index_there c.args.operator c.args.by (let t : Tables = record { bags = c.args.bags.now; gens = c.args.gens.now; mods = c.args._mods.now } in t) c.requires.records c.args.k c.requires.there in
    search rules

pub overflow_add-end : goal.overflow_add-end
overflow_add-end c =
    let more = index_there c.args.operator c.args.by (let t : Tables = record { bags = c.args.bags.now; gens = c.args.gens.now; mods = c.args._mods.now } in t) c.requires.records c.args.k c.requires.there in
    search rules

pub offset_bounds-bags-k-2 : goal.offset_bounds-bags-k-2
offset_bounds-bags-k-2 c =
    let more = index_there c.args.operator c.args.by (let t : Tables = record { bags = c.args.bags.now; gens = c.args.gens.now; mods = c.args._mods.now } in t) c.requires.records c.args.k c.requires.there in
    search rules

pub bounds-bags-k-2 : goal.bounds-bags-k-2
bounds-bags-k-2 c =
    let more = index_there c.args.operator c.args.by (let t : Tables = record { bags = c.args.bags.now; gens = c.args.gens.now; mods = c.args._mods.now } in t) c.requires.records c.args.k c.requires.there in
    search rules

pub bounds-gens-end : goal.bounds-gens-end
bounds-gens-end c =
    last_there c.args.operator c.args.by (let t : Tables = record { bags = c.args.bags.now; gens = c.args.gens.now; mods = c.args._mods.now } in t) c.requires.records c.args.k c.requires.there c.if-start-end.true

pub renumber_generator-requires : goal.renumber_generator-requires
renumber_generator-requires c =
    last_can_be c.args.operator c.args.by (let t : Tables = record { bags = c.args.bags.now; gens = c.args.gens.now; mods = c.args._mods.now } in t) c.requires.records c.args.k c.requires.there c.if-start-end.true

pub returns-then-start-end : goal.returns-then-start-end
returns-then-start-end c =
    last_renumbered c.args.operator c.args.by (let t : Tables = record { bags = c.args.bags.now; gens = c.args.gens.now; mods = c.args._mods.now } in t) c.requires.records c.args.k c.requires.there c.if-start-end.true c.renumber_generator.new.generator c.renumber_generator.ensures

pub returns-else-start-end : goal.returns-else-start-end
returns-else-start-end c =
    none_renumbered c.args.operator c.args.by (let t : Tables = record { bags = c.args.bags.now; gens = c.args.gens.now; mods = c.args._mods.now } in t) c.requires.records c.args.k c.requires.there c.if-start-end.false
