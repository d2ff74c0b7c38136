use Rattle.std.proofs.Common.{◌≡◌, ◌-◌, ◌+◌, ◌∙◌, ap, arith, length, is_some}
use Rattle.std.proofs.lemmas.Grind.{common_steps}
use Rattle.std.specs.FinMap.{len}
use Rattle.generators.specs.Gens.{Gens, no_gens, set_in_order}
use Rattle.bank_format.specs.Zones.{gens_read}
use Rattle.sf_reader.specs.Entries.{map_from}
use Rattle.sf_reader.specs.Gens.{entries_in, one_if}
use Rattle.sf_reader.proofs.EntryLaws.{ends_in_none, none_from, map_len, entries_after}
use Rattle.sf_reader.proofs.Reading.{used_fits, gens_are, all_read}
use Rattle.sf_reader.proofs.bag.read_gens.Goals as goal

pub set_gens-requires : goal.set_gens-requires
set_gens-requires c = ends_in_none c.args.gens.now.items c.len-start.result (c.len-start.ensures ∙ c.args.gens.now.ok.0)

pub overflow_sub-dropped : goal.overflow_sub-dropped
overflow_sub-dropped c =
    let start = c.len-start.result in
    let target = c.in_ok-target.target in
    let raw : map_from start c.set_gens.new.gens.items
    ≡ set_in_order no_gens (entries_in c.args.level c.args.records.now) =
    c.in_ok-target.ensures.set
    ∙ ap (λ (m : Gens). set_in_order m (entries_in c.args.level c.args.records.now))
    (none_from c.args.gens.now.items start (c.len-start.ensures ∙ c.args.gens.now.ok.0)) in
    let one : c.from.result ≡ one_if c.is_some.result = grind (arith, common_steps) in
    let count : c.len.result - start ≡ len (map_from start c.set_gens.new.gens.items) =
    omega (
      arith,
      map_len c.set_gens.new.gens.items start c.in_ok-target.ensures.map,
      c.len.ensures,
      c.set_gens.new.gens.ok.0,
    )
    in
    let used : c.len.result - start + c.from.result
    ≡ len (map_from start c.set_gens.new.gens.items) + one_if (is_some target) =
    omega (arith, count, one ∙ ap one_if c.is_some.ensures) in
    omega (
      arith,
      used,
      c.len-2.ensures,
      used_fits c.args.level c.args.records.now (map_from start c.set_gens.new.gens.items) target raw
          c.in_ok-target.ensures.target,
    )

pub returns-clause-all : goal.returns-clause-all
returns-clause-all c =
    let start = c.len-start.result in
    let target = c.in_ok-target.target in
    let raw : map_from start c.set_gens.new.gens.items
    ≡ set_in_order no_gens (entries_in c.args.level c.args.records.now) =
    c.in_ok-target.ensures.set
    ∙ ap (λ (m : Gens). set_in_order m (entries_in c.args.level c.args.records.now))
    (none_from c.args.gens.now.items start (c.len-start.ensures ∙ c.args.gens.now.ok.0)) in
    let one : c.from.result ≡ one_if c.is_some.result = grind (arith, common_steps) in
    let count : c.len.result - start ≡ len (map_from start c.set_gens.new.gens.items) =
    omega (
      arith,
      map_len c.set_gens.new.gens.items start c.in_ok-target.ensures.map,
      c.len.ensures,
      c.set_gens.new.gens.ok.0,
    )
    in
    let remaining : c.len-2.result - (c.len.result - start + c.from.result)
    ≡ length c.args.records.now - (len (map_from start c.set_gens.new.gens.items) + one_if (is_some target)) =
    omega (arith, count, one ∙ ap one_if c.is_some.ensures, c.len-2.ensures) in
    all_read c.args.level c.args.records.now (map_from start c.set_gens.new.gens.items) target raw
    c.in_ok-target.ensures.target _ c.repair_ranges-ranges.result remaining c.repair_ranges-ranges.ensures.count

pub returns-clause-gens : goal.returns-clause-gens
returns-clause-gens c =
    let start = c.len-start.result in
    let target = c.in_ok-target.target in
    let from = c.len-start.ensures ∙ c.args.gens.now.ok.0 in
    let raw : map_from start c.set_gens.new.gens.items
    ≡ set_in_order no_gens (entries_in c.args.level c.args.records.now) =
    c.in_ok-target.ensures.set
    ∙ ap (λ (m : Gens). set_in_order m (entries_in c.args.level c.args.records.now))
    (none_from c.args.gens.now.items start from) in
    entries_after c.args.gens.now.items c.repair_ranges-ranges.new.gens.items start
    (gens_read c.args.level c.args.records.now) from
    (c.repair_ranges-ranges.ensures.front ∙ c.in_ok-target.ensures.front) c.repair_ranges-ranges.ensures.map
    (gens_are c.args.level c.args.records.now (map_from start c.set_gens.new.gens.items) target raw
    c.in_ok-target.ensures.target (map_from start c.repair_ranges-ranges.new.gens.items)
    c.repair_ranges-ranges.ensures.repaired)
