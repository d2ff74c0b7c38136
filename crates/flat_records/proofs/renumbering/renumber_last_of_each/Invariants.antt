use Rattle.std.proofs.Common.{◌≡◌, ◌++◌, map, take, drop}
use Rattle.flat_records.specs.Bags.{Tables, bags_of_records, tables_of}
use Rattle.flat_records.specs.Renumbered.{bag_renumbered}
use Rattle.flat_records.proofs.renumbering.renumber_last_of_each.Given as goal

abbrev pub invariant-loop-k : goal.invariant-loop-k
invariant-loop-k l =
    let own = bags_of_records l.bags l.initial.gens l._mods in
    (let t : Tables = record { bags = l.bags; gens = l.gens; mods = l._mods } in t)
    ≡ tables_of (map (bag_renumbered l.operator l.by) (take l.k own) ++ drop l.k own)
