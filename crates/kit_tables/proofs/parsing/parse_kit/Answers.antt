use Rattle.std.proofs.Common.{◌≡◌, ◌<◌, ◌∙◌, ◌+◌, length, map, ap, refl, sym, arith}
use Rattle.std.proofs.lemmas.Bool.Decides.{nat_tests}
use Rattle.std.proofs.lemmas.Result.{err_from_is_err_and}
use Rattle.script_tokens.proofs.GatherLaws.{step_fails, length-lines_of}
use Rattle.kit_tables.specs.Rows.{row_of}
use Rattle.kit_tables.proofs.RowLaws.{went_on, stopped, none_left, fault_of_text, no_rows, some_rows}
use Rattle.kit_tables.proofs.parsing.parse_kit.Goals as goal

pub loop-line-init : goal.loop-line-init
loop-line-init c =
    let same = c.into_iter-line-iterator.ensures.into_iter_gives ∙ c.of-line-items.ensures in
    record {
      can_next = tt;
      is_finite = tt;
      left = rw (c.new-rows.ensures.items, same) refl;
      counted = rw same (let h = length-lines_of c.args.text.now in omega (arith, h));
      few = rw c.new-rows.ensures.items (omega arith);
    }

pub loop-line-preserved : goal.loop-line-preserved
loop-line-preserved c = record {
  can_next = tt;
  is_finite = tt;
  left =
      went_on (c.loop-line.number + 1) (c.loop-line.number + 1 + 1) (map row_of c.loop-line.rows.items)
      (map row_of c.add_row.new.rows.items) c.in-Some.line.now c.next.new.self c.loop-line.line-iterator _
      (omega arith) c.in-Some.ensures.steps c.loop-line.invariant.left c.in_ok-add_row.ensures.added;
  counted = (let h = ap length c.in-Some.ensures.steps in let k = c.loop-line.invariant.counted in omega (arith, h, k));
  few = c.in_ok-add_row.ensures.few;
}

pub returns-in_err-add_row-clause-parsed : goal.returns-in_err-add_row-clause-parsed
returns-in_err-add_row-clause-parsed c =
    let p = err_from_is_err_and c.from_residual.result c.from_residual.ensures.1 in
    rw (p.1, p.2) (step_fails _ _ _ c.in_err-add_row.ensures.added
    (λ d e. fault_of_text c.args.text.now d (sym c.loop-line.invariant.left
    ∙ stopped (c.loop-line.number + 1) (map row_of c.loop-line.rows.items) c.in-Some.line.now c.next.new.self
    c.loop-line.line-iterator d c.in-Some.ensures.steps e)))

pub returns-then-is_empty-clause-parsed : goal.returns-then-is_empty-clause-parsed
returns-then-is_empty-clause-parsed c =
    let none : length c.loop-line.rows.items ≡ 0 = grind (arith, nat_tests) in
    rw c.into.ensures (no_rows c.args.text.now c.loop-line.rows.items
    (sym c.loop-line.invariant.left
    ∙ none_left (c.loop-line.number + 1) (map row_of c.loop-line.rows.items) c.loop-line.line-iterator
    c.in-None.ensures.steps.0)
    none)

pub returns-clause-parsed : goal.returns-clause-parsed
returns-clause-parsed c =
    let some : 0 < length c.loop-line.rows.items = grind (arith, nat_tests) in
    some_rows c.args.text.now c.loop-line.rows.items
    (sym c.loop-line.invariant.left
    ∙ none_left (c.loop-line.number + 1) (map row_of c.loop-line.rows.items) c.loop-line.line-iterator
    c.in-None.ensures.steps.0)
    some

pub returns-clause-few : goal.returns-clause-few
returns-clause-few c = c.loop-line.invariant.few
