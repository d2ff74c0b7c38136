use Rattle.std.proofs.Common.{◌∙◌, ◌^◌, ◌<◌, ℕ, List, drop, ap, subst, arith}
use Rattle.generators.specs.Indexes.{IsAt, IsInsertionIndex}
use Rattle.sf_reader.proofs.EntryLaws.{rest_is, set-front, set-map, out_of_order, repaired_is, none_out_of_order}
use Rattle.sf_reader.proofs.EntryLaws.{none_repaired}
use Rattle.sf_reader.proofs.entries.repair_from.Goals as goal

pub returns-in_default-clause-changed : goal.returns-in_default-clause-changed
returns-in_default-clause-changed c =
    let rest = rest_is c.args.start c.deref.result.now ∙ ap (drop c.args.start) c.deref.ensures.value in
    let absent =
    subst (λ (l : List (ℕ × ℕ)). IsInsertionIndex l c.args.operator c.in_default.field-0) rest
    c.in_default.ensures.absent in
    none_out_of_order c.args.start c.args.entries.now.items c.requires c.args.operator c.in_default.field-0 absent

pub returns-in_default-clause-repaired : goal.returns-in_default-clause-repaired
returns-in_default-clause-repaired c =
    let rest = rest_is c.args.start c.deref.result.now ∙ ap (drop c.args.start) c.deref.ensures.value in
    let absent =
    subst (λ (l : List (ℕ × ℕ)). IsInsertionIndex l c.args.operator c.in_default.field-0) rest
    c.in_default.ensures.absent in
    none_repaired c.args.start c.args.entries.now.items c.requires c.args.operator c.in_default.field-0 absent

pub returns : goal.returns
returns c =
    let start = c.args.start in
    let es = c.args.entries.now.items in
    let at = c.in-Ok.at in
    let rest = rest_is start c.deref.result.now ∙ ap (drop start) c.deref.ensures.value in
    let found = subst (λ (l : List (ℕ × ℕ)). IsAt l c.args.operator at) rest c.in-Ok.ensures.found in
    let v = c.repaired_amount-repaired.result in
    let v_is = c.repaired_amount-repaired.ensures in
    let fits : v < 2 ^ 16 = omega (arith, c.repaired_amount-repaired.type_inv) in
    record {
      front = set-front start es c.requires c.args.operator v (omega arith) fits at found;
      map = set-map start es c.requires c.args.operator v (omega arith) fits at found;
      changed = out_of_order start es c.requires c.args.operator at v c.index.result.now found c.index.ensures v_is;
      repaired =
          repaired_is start es c.requires c.args.operator at v c.index.result.now found c.index.ensures v_is
          (omega arith) fits;
    }
