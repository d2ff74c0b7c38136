use Rattle.std.proofs.Common.{◌≡◌, ◌∙◌, ap, arith, rules}
use Rattle.std.proofs.lemmas.Grind.{common_steps}
use Rattle.sf_reader.specs.Entries.{map_from}
use Rattle.sf_reader.specs.Gens.{is_out_of_order, one_if}
use Rattle.sf_reader.proofs.RangeRepairs.{second_range}
use Rattle.sf_reader.proofs.bag.repair_ranges.Goals as goal

pub returns-clause-count : goal.returns-clause-count
returns-clause-count c =
    let gens = map_from c.args.start c.args.gens.now.items in
    let first : c.from.result ≡ one_if c.repair_from-keys.result = grind (arith, common_steps) in
    let keys : c.from.result ≡ one_if (is_out_of_order 43 gens) = first ∙ ap one_if c.repair_from-keys.ensures.changed in
    let last : c.from-2.result ≡ one_if c.repair_from-velocities.result = grind (arith, common_steps) in
    let second : c.repair_from-velocities.result ≡ is_out_of_order 44 gens = search (rules, second_range) in
    let velocities : c.from-2.result ≡ one_if (is_out_of_order 44 gens) = last ∙ ap one_if second in
    omega (arith, keys, velocities)
