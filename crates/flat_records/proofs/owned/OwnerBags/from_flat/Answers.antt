use Rattle.std.proofs.Common.{true≢false, refl, sym, subst}
use Rattle.flat_records.specs.Bags.{Tables}
use Rattle.flat_records.specs.Begins.{AreBegins}
use Rattle.flat_records.proofs.OwnerConverse.{begins_read, no_tables, no_begins, some_begins}
use Rattle.flat_records.proofs.owned.OwnerBags.from_flat.Goals as goal

pub returns-in_default : goal.returns-in_default
returns-in_default c =
    no_tables c.args.begins.items
    c.args.recs
    c.in_default.ensures

pub returns-then-not-are_begins : goal.returns-then-not-are_begins
returns-then-not-are_begins c =
    let t : Tables = c.args.recs in
    no_begins c.args.begins.items t c.in-Some.bags.bags c.in-Some.ensures
    (λ are.
    true≢false
    (sym
    (c.if-not-are_begins.ensures.1
    (subst (λ places. AreBegins places c.bag_count.result) (sym c.deref.ensures.value)
    (subst (AreBegins c.args.begins.items) (sym c.bag_count.ensures) are)))))

pub invariant_of-result : goal.invariant_of-result
invariant_of-result c =
    let are = c.if-not-are_begins.ensures.0 refl in
    begins_read c.args.begins.items c.in-Some.bags.bags
    (subst (AreBegins c.args.begins.items) c.bag_count.ensures
    (subst (λ places. AreBegins places c.bag_count.result) c.deref.ensures.value are))

pub returns : goal.returns
returns c =
    let are = c.if-not-are_begins.ensures.0 refl in
    let t : Tables = c.args.recs in
    some_begins c.args.begins.items t c.in-Some.bags.bags c.in-Some.ensures
    (subst (AreBegins c.args.begins.items) c.bag_count.ensures
    (subst (λ places. AreBegins places c.bag_count.result) c.deref.ensures.value are))
