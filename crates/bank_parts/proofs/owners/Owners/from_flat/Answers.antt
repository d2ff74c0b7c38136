use Rattle.std.proofs.Common.{◌≡◌, length, true≢false, refl, sym, subst, ◌∙◌, ap, arith}
use Rattle.std.proofs.lemmas.List.{length-map}
use Rattle.generators.specs.Levels.{target_operator}
use Rattle.flat_records.specs.Bags.{Tables}
use Rattle.bank_parts.specs.Bagged.{bags_of}
use Rattle.bank_parts.specs.Flat.{owners_in, AreRead}
use Rattle.bank_parts.specs.FlatLists.{AreFlat}
use Rattle.bank_parts.specs.OwnBags.{AreAllBags}
use Rattle.bank_parts.proofs.FromFlatLaws.{owners_tested, owners_own, flat_by, bags_by}
use Rattle.bank_parts.proofs.owners.Owners.from_flat.Goals as goal

pub returns-then-len-owner_count-clause-lists : goal.returns-then-len-owner_count-clause-lists
returns-then-len-owner_count-clause-lists g c owners plain are =
    let at = g.H.OwnerHead.LEVEL in
    let t : Tables = c.args.recs in
    let bags = bags_by at c.args.heads c.args.first_bags.items t c.in-Some.bags.owners owners c.in-Some.ensures are in
    let heads : length c.args.heads ≡ length owners = ap length are.heads ∙ length-map owners (λ x. x.head) in
    let own : length c.in-Some.bags.owners ≡ length owners =
    ap length bags ∙ length-map owners (bags_of (target_operator at)) in
    let n = c.len.ensures in
    let m = c.owner_count.ensures in
    let other = c.if-len-owner_count.true in
    absurd (omega arith)

pub returns-then-not-are_all_bags-clause-lists : goal.returns-then-not-are_all_bags-clause-lists
returns-then-not-are_all_bags-clause-lists g c owners plain are =
    let at = g.H.OwnerHead.LEVEL in
    let op = target_operator at in
    let t : Tables = c.args.recs in
    let bags = bags_by at c.args.heads c.args.first_bags.items t c.in-Some.bags.owners owners c.in-Some.ensures are in
    let all = subst (AreAllBags op) (sym bags) (owners_own op owners plain) in
    true≢false
    (sym
    (c.if-not-are_all_bags.ensures.1
    (subst (λ o. AreAllBags o c.in-Some.bags.owners) (sym c.operator.ensures) all)))

pub invariant_of-result : goal.invariant_of-result
invariant_of-result g c =
    let op = target_operator g.H.OwnerHead.LEVEL in
    let bags = c.in-Some.bags.owners in
    let is : c.from_vec-heads.result ≡ c.args.heads = c.from_vec-heads.ensures ∙ c.into_vec.ensures in
    subst (λ hs. AreRead op hs bags) (sym is)
    (owners_tested op c.args.heads bags c.len.ensures c.owner_count.ensures c.if-len-owner_count.false
    c.operator.ensures (c.if-not-are_all_bags.ensures.0 refl) c.gen_records.ensures c.gens_fit.ensures)

pub returns-clause-lists : goal.returns-clause-lists
returns-clause-lists g c =
    let at = g.H.OwnerHead.LEVEL in
    let op = target_operator at in
    let bags = c.in-Some.bags.owners in
    let t : Tables = c.args.recs in
    let is : c.from_vec-heads.result ≡ c.args.heads = c.from_vec-heads.ensures ∙ c.into_vec.ensures in
    let read = subst (λ hs. AreRead op hs bags) is (invariant_of-result g c) in
    subst
    (λ hs.
    AreFlat at c.args.heads
    (record { first_bags = c.args.first_bags.items; bags = t.bags; gens = t.gens; mods = t.mods })
    (owners_in op hs bags))
    (sym is)
    (flat_by at c.args.heads c.args.first_bags.items t bags (owners_in op c.args.heads bags) c.in-Some.ensures read)

pub returns-clause-plain : goal.returns-clause-plain
returns-clause-plain g c =
    let read = invariant_of-result g c in
    read.plain
