use Rattle.std.proofs.Common.{◌≤◌, length, set, refl, subst, ◌∙◌, ap, append-nil, arith}
use Rattle.std.specs.Option.{IfSome}
use Rattle.base_numbered_lists.proofs.Lists.{slice_get-found}
use Rattle.flat_records.specs.Runs.{put}
use Rattle.flat_records.specs.Bags.{Bag, gens_in, mods_in}
use Rattle.flat_records.specs.Stored.{Frees}
use Rattle.flat_records.proofs.WholeBags.{length-emptied, changed_emptied}
use Rattle.flat_records.proofs.bags.Bags.set_bag.Goals as goal

pub insert_records-requires-clause-gens_limit : goal.insert_records-requires-clause-gens_limit
insert_records-requires-clause-gens_limit c some =
    let (b, there) = slice_get-found c.args.self.now.bags c.args.k c.requires.place in
    let fewer : length c.args.gens.now ≤ length b.gens =
    subst (λ o. IfSome o (λ (b : Bag). length c.args.gens.now ≤ length b.gens)) there c.requires.gens in
    let emptied = length-emptied (λ (b : Bag). b.gens) c.args.self.now.bags c.args.k b refl there in
    let few = c.records_fit.ensures.gens in
    let left = ap (λ bags. length (gens_in bags)) c.clear_bag.ensures.bags in
    omega arith

pub insert_records-requires-clause-mods_limit : goal.insert_records-requires-clause-mods_limit
insert_records-requires-clause-mods_limit c some =
    let (b, there) = slice_get-found c.args.self.now.bags c.args.k c.requires.place in
    let fewer : length c.args.mods.now ≤ length b.mods =
    subst (λ o. IfSome o (λ (b : Bag). length c.args.mods.now ≤ length b.mods)) there c.requires.mods in
    let emptied = length-emptied (λ (b : Bag). b.mods) c.args.self.now.bags c.args.k b refl there in
    let few = c.records_fit.ensures.mods in
    let left = ap (λ bags. length (mods_in bags)) c.clear_bag.ensures.bags in
    omega arith

pub returns-clause-bags : goal.returns-clause-bags
returns-clause-bags c =
    c.insert_records.ensures.bags
    ∙ (changed_emptied c.args.self.now.bags c.clear_bag.new.self.bags c.args.k
    (λ (b : Bag). record { gens = put b.gens 0 c.args.gens.now; mods = put b.mods 0 c.args.mods.now })
    c.clear_bag.ensures.bags c.requires.place
    ∙ (λ i. set c.args.self.now.bags c.args.k
    (record { gens = append-nil c.args.gens.now i; mods = append-nil c.args.mods.now i })))

pub returns-clause-spare : goal.returns-clause-spare
returns-clause-spare c =
    let (b, there) = slice_get-found c.args.self.now.bags c.args.k c.requires.place in
    let gens : length c.args.gens.now ≤ length b.gens =
    subst (λ o. IfSome o (λ (b : Bag). length c.args.gens.now ≤ length b.gens)) there c.requires.gens in
    let mods : length c.args.mods.now ≤ length b.mods =
    subst (λ o. IfSome o (λ (b : Bag). length c.args.mods.now ≤ length b.mods)) there c.requires.mods in
    let freed : Frees c.args.self.now.spare c.clear_bag.new.self.spare
    (record { bags = 0; gens = length b.gens; mods = length b.mods }) =
    subst
    (λ o.
    IfSome o
    (λ (b : Bag).
    Frees c.args.self.now.spare c.clear_bag.new.self.spare
    (record { bags = 0; gens = length b.gens; mods = length b.mods })))
    there c.clear_bag.ensures.spare in
    let used = c.insert_records.ensures.spare in
    record {
      bags = (let f = freed.bags in let u = used.bags in omega arith);
      gens = (let f = freed.gens in let u = used.gens in omega arith);
      mods = (let f = freed.mods in let u = used.mods in omega arith);
    }
