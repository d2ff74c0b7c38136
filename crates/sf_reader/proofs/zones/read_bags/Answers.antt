use Rattle.std.proofs.Common.{◌≡◌, ◌∙◌, ◌∷◌, [], List, ap, sym, refl}
use Rattle.bank_format.specs.Reading.{bagged, bags_in}
use Rattle.hydra_records.specs.declared.zone.Bag.{Bag}
use Rattle.sf_reader.specs.Bags.{checks_of_bags}
use Rattle.sf_reader.proofs.CheckLaws.{given_by}
use Rattle.sf_reader.proofs.BagSequences.{bags_in-none, bags_in-one, next_bag, none_counted, none_put, first_left}
use Rattle.sf_reader.proofs.BagSequences.{first_fails, later_left, later_fails, few_so_far, few_in_all, all_counted}
use Rattle.sf_reader.proofs.BagSequences.{all_hold, all_put}
use Rattle.sf_reader.proofs.zones.read_bags.Goals as goal

pub returns-in_default : goal.returns-in_default
returns-in_default c =
    let gens = c.args.generators.now in
    let mods = c.args.modulators.now in
    let none : c.args.bags.now ≡ [] = sym c.iter-rest.ensures ∙ c.in_default.ensures.steps.0 in
    let all : bags_in c.args.bags.now gens mods ≡ [] =
    ap (λ (bs : List Bag). bags_in bs gens mods) none ∙ bags_in-none gens mods in
    record {
      passes =
          none_counted c.args.level c.args.targets.count c.args.targets.missing (bags_in c.args.bags.now gens mods)
          all _ refl;
      records =
          none_put c.args.level c.args.targets.count c.args.targets.missing (bags_in c.args.bags.now gens mods) all
          c.args.records.now;
    }

pub returns-in_default-next : goal.returns-in_default-next
returns-in_default-next c =
    let gens = c.args.generators.now in
    let mods = c.args.modulators.now in
    let one : c.args.bags.now ≡ c.in-Some.first ∷ [] =
    sym c.iter-rest.ensures ∙ c.in-Some.ensures.steps
    ∙ ap (λ (bs : List Bag). c.in-Some.first ∷ bs) c.in_default-next.ensures.steps.0 in
    let all : bags_in c.args.bags.now gens mods ≡ [] =
    ap (λ (bs : List Bag). bags_in bs gens mods) one ∙ bags_in-one gens mods c.in-Some.first in
    record {
      passes =
          none_counted c.args.level c.args.targets.count c.args.targets.missing (bags_in c.args.bags.now gens mods)
          all _ refl;
      records =
          none_put c.args.level c.args.targets.count c.args.targets.missing (bags_in c.args.bags.now gens mods) all
          c.args.records.now;
    }

pub returns-in_err-counts-clause-passes : goal.returns-in_err-counts-clause-passes
returns-in_err-counts-clause-passes c =
    let gens = c.args.generators.now in
    let mods = c.args.modulators.now in
    let bag = c.bag_between-gens.result in
    let bags = sym c.iter-rest.ensures ∙ c.in-Some.ensures.steps in
    let all =
    ap (λ (bs : List Bag). bags_in bs gens mods) bags
    ∙ next_bag gens mods c.in-Some.first c.in-Some-next.second _ _ bag.0 bag.1 c.in-Some-next.ensures.steps
    c.bag_between-gens.ensures.gens c.bag_between-gens.ensures.mods in
    let e = c.in_err-counts.field-0.0 in
    given_by (λ c. c) _ c.from_residual.result e
    (checks_of_bags c.args.level c.args.targets.count c.args.targets.missing (bags_in c.args.bags.now gens mods))
    c.from_residual.ensures.1
    (first_fails c.args.level c.args.targets.count c.args.targets.missing e (bagged bag.0 bag.1) _
    (bags_in c.args.bags.now gens mods) all c.in_err-counts.ensures.passes)

pub loop-end-init : goal.loop-end-init
loop-end-init c =
    let gens = c.args.generators.now in
    let mods = c.args.modulators.now in
    let bag = c.bag_between-gens.result in
    let bags : c.args.bags.now ≡ c.in-Some.first ∷ c.in-Some-next.second ∷ c.into_iter-end-iterator.result =
    sym c.iter-rest.ensures ∙ c.in-Some.ensures.steps
    ∙ ap (λ (bs : List Bag). c.in-Some.first ∷ bs) c.in-Some-next.ensures.steps
    ∙ ap (λ (bs : List Bag). c.in-Some.first ∷ c.in-Some-next.second ∷ bs)
    (sym c.into_iter-end-iterator.ensures.into_iter_gives) in
    let all =
    ap (λ (bs : List Bag). bags_in bs gens mods) bags
    ∙ next_bag gens mods c.in-Some.first c.in-Some-next.second _ c.into_iter-end-iterator.result bag.0 bag.1
    refl c.bag_between-gens.ensures.gens c.bag_between-gens.ensures.mods in (
      tt,
      tt,
      first_left c.args.level c.args.targets.count c.args.targets.missing c.args.records.now c.read_first.new.records
          c.in_ok-counts.counts (bagged bag.0 bag.1) _ _ all
          c.in_ok-counts.ensures.passes.0 c.in_ok-counts.ensures.passes.1 c.in_ok-counts.ensures.records,
    )

pub read_later-requires-clause-few : goal.read_later-requires-clause-few
read_later-requires-clause-few c =
    let gens = c.args.generators.now in
    let mods = c.args.modulators.now in
    let remaining = c.loop-end.invariant.2 in
    few_so_far c.args.level c.loop-end.counts (bags_in (c.loop-end.start ∷ c.loop-end.end-iterator) gens mods)
    (bags_in c.args.bags.now gens mods) remaining.counts_are
    (few_in_all c.args.level c.args.bags.now gens mods c.requires.bags c.requires.generators)

pub returns-in_err-counts-2-clause-passes : goal.returns-in_err-counts-2-clause-passes
returns-in_err-counts-2-clause-passes c =
    let gens = c.args.generators.now in
    let mods = c.args.modulators.now in
    let bag = c.bag_between-gens-in-loop-end.result in
    let next =
    next_bag gens mods c.loop-end.start c.in-Some-end.end c.loop-end.end-iterator _ bag.0 bag.1
    c.in-Some-end.ensures.steps c.bag_between-gens-in-loop-end.ensures.gens
    c.bag_between-gens-in-loop-end.ensures.mods in
    let e = c.in_err-counts-2.field-0.0 in
    given_by (λ c. c) _ c.from_residual-in_err-counts-2.result e
    (checks_of_bags c.args.level c.args.targets.count c.args.targets.missing (bags_in c.args.bags.now gens mods))
    c.from_residual-in_err-counts-2.ensures.1
    (later_fails c.args.level c.args.targets.count c.args.targets.missing c.args.records.now c.loop-end.records
    c.loop-end.counts (bagged bag.0 bag.1) _ _ _ next c.loop-end.invariant.2 e c.in_err-counts-2.ensures.passes)

pub loop-end-preserved : goal.loop-end-preserved
loop-end-preserved c =
    let gens = c.args.generators.now in
    let mods = c.args.modulators.now in
    let bag = c.bag_between-gens-in-loop-end.result in
    let next =
    next_bag gens mods c.loop-end.start c.in-Some-end.end c.loop-end.end-iterator _ bag.0 bag.1
    c.in-Some-end.ensures.steps c.bag_between-gens-in-loop-end.ensures.gens
    c.bag_between-gens-in-loop-end.ensures.mods in (
      tt,
      tt,
      later_left c.args.level c.args.targets.count c.args.targets.missing c.args.records.now c.loop-end.records
          c.loop-end.counts (bagged bag.0 bag.1) _ _ _ next c.loop-end.invariant.2
          c.read_later.new.records c.in_ok-counts-2.counts c.in_ok-counts-2.ensures.passes.0
          c.in_ok-counts-2.ensures.passes.1 c.in_ok-counts-2.ensures.records,
    )

pub returns : goal.returns
returns c =
    let gens = c.args.generators.now in
    let mods = c.args.modulators.now in
    let remaining : bags_in (c.loop-end.start ∷ c.loop-end.end-iterator) gens mods ≡ [] =
    ap (λ (bs : List Bag). bags_in (c.loop-end.start ∷ bs) gens mods) c.in-None.ensures.steps.0
    ∙ bags_in-one gens mods c.loop-end.start in
    let so_far = c.loop-end.invariant.2 in
    let at = c.args.level in
    let n = c.args.targets.count in
    let missing = c.args.targets.missing in
    record {
      passes = (
        all_hold at n missing c.args.records.now c.loop-end.records c.loop-end.counts _ _ remaining so_far,
        all_counted at n missing c.args.records.now c.loop-end.records c.loop-end.counts _ _ remaining so_far,
      );
      records = all_put at n missing c.args.records.now c.loop-end.records c.loop-end.counts _ _ remaining so_far;
    }
