use Rattle.std.proofs.Common.{◌≡◌, true≢false, refl, sym, subst, ◌∙◌}
use Rattle.flat_records.specs.Bags.{Tables, bags_in, tables_of}
use Rattle.flat_records.specs.Tables.{AreTables}
use Rattle.flat_records.proofs.Converse.{bags_tables, same_read}
use Rattle.flat_records.proofs.bags.Bags.from_recs.Goals as goal

pub returns-then-not-are_tables : goal.returns-then-not-are_tables
returns-then-not-are_tables c bags e =
    true≢false
    (sym
    (c.if-not-are_tables.ensures.1
    (subst AreTables
    (sym e
    ∙ (sym c.recs.view_is
    ∙ (λ i. record {
      bags = sym c.deref.ensures.value i;
      gens = sym c.deref-2.ensures.value i;
      mods = sym c.deref-3.ensures.value i;
    })))
    (bags_tables bags))))

pub invariant_of-result : goal.invariant_of-result
invariant_of-result c =
    same_read (c.if-not-are_tables.ensures.0 refl) c.deref.ensures.value c.deref-2.ensures.value
    c.deref-3.ensures.value

pub returns : goal.returns
returns c =
    let t : Tables =
    record { bags = c.recs.inside.bags.items; gens = c.recs.inside.gens.items; mods = c.recs.inside.mods.items } in
    let read : t ≡ tables_of (bags_in t) = invariant_of-result c in
    sym c.recs.view_is ∙ read
