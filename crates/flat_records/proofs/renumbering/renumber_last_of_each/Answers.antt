use Rattle.std.proofs.Common.{◌∙◌, ap, arith}
use Rattle.base_numbered_lists.proofs.Changing.{next_done, all_done}
use Rattle.flat_records.specs.Bags.{tables_of, bags_of_records}
use Rattle.flat_records.specs.Renumbered.{bag_renumbered}
use Rattle.flat_records.proofs.TableLaws.{are_read, bags_read, bags_size}
use Rattle.flat_records.proofs.RenumberLaws.{next_can}
use Rattle.flat_records.proofs.renumbering.renumber_last_of_each.Goals as goal

pub renumber_last-requires-clause-records : goal.renumber_last-requires-clause-records
renumber_last-requires-clause-records c = are_read (record { same = c.loop-k.invariant })

pub renumber_last-requires-clause-there : goal.renumber_last-requires-clause-there
renumber_last-requires-clause-there c =
    let own = bags_of_records c.args.bags.now c.args.gens.now c.args._mods.now in
    let now = bags_of_records c.args.bags.now c.loop-k.gens c.args._mods.now in
    let size = bags_size (record { same = c.requires.records }) in
    next_can c.args.operator c.args.by own now c.loop-k.k (bags_read (record { same = c.loop-k.invariant }))
    c.requires.numbers c.requires.last
    (let h = c.loop-k-test.true in omega (arith, size, h))

pub loop-k-preserved : goal.loop-k-preserved
loop-k-preserved c =
    let own = bags_of_records c.args.bags.now c.args.gens.now c.args._mods.now in
    let now = bags_of_records c.args.bags.now c.loop-k.gens c.args._mods.now in
    let size = bags_size (record { same = c.requires.records }) in
    c.renumber_last.ensures
    ∙ ap tables_of
    (next_done (bag_renumbered c.args.operator c.args.by) own now c.loop-k.k
    (bags_read (record { same = c.loop-k.invariant }))
    (let h = c.loop-k-test.true in omega (arith, size, h)))

pub returns : goal.returns
returns c =
    let own = bags_of_records c.args.bags.now c.args.gens.now c.args._mods.now in
    let size = bags_size (record { same = c.requires.records }) in
    c.loop-k.invariant
    ∙ ap tables_of
    (all_done (bag_renumbered c.args.operator c.args.by) own c.loop-k.k
    (let h = c.loop-k-test.false in omega (arith, size, h)))
