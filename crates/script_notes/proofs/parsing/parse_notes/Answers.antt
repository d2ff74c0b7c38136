use Rattle.std.proofs.Common.{◌∙◌, ◌+◌, length, map, ap, arith}
use Rattle.std.proofs.lemmas.Result.{err_from_is_err_and}
use Rattle.script_tokens.specs.TokenValue.{values_in}
use Rattle.script_tokens.proofs.GatherLaws.{step_fails, lines_on, lines_stop, lines_over, length-lines_of}
use Rattle.script_notes.specs.Notes.{with_note}
use Rattle.script_notes.proofs.NoteLaws.{notes_gathered}
use Rattle.script_notes.proofs.parsing.parse_notes.Goals as goal

pub loop-line-init : goal.loop-line-init
loop-line-init c =
    let same = c.into_iter-line-iterator.ensures.into_iter_gives ∙ c.of-line-items.ensures in
    record {
      can_next = tt;
      is_finite = tt;
      left = rw (c.new-notes.ensures.items, same) (notes_gathered c.args.text.now);
      counted = rw same (let h = length-lines_of c.args.text.now in omega (arith, h));
      few = rw c.new-notes.ensures.items (omega arith);
    }

pub loop-line-preserved : goal.loop-line-preserved
loop-line-preserved c = record {
  can_next = tt;
  is_finite = tt;
  left =
      lines_on with_note (c.loop-line.number + 1) (c.loop-line.number + 1 + 1) c.loop-line.notes.items
      c.add_note.new.notes.items
      (values_in c.in-Some.line.now) (map values_in c.next.new.self) (map values_in c.loop-line.line-iterator) _
      (omega arith) (ap (map values_in) c.in-Some.ensures.steps) c.loop-line.invariant.left
      c.in_ok-add_note.ensures.added;
  counted = (let h = ap length c.in-Some.ensures.steps in let k = c.loop-line.invariant.counted in omega (arith, h, k));
  few = c.in_ok-add_note.ensures.few;
}

pub returns-in_err-add_note-clause-parsed : goal.returns-in_err-add_note-clause-parsed
returns-in_err-add_note-clause-parsed c =
    let p = err_from_is_err_and c.from_residual.result c.from_residual.ensures.1 in
    rw (p.1, p.2) (step_fails _ _ _ c.in_err-add_note.ensures.added
    (λ _ e. lines_stop with_note (c.loop-line.number + 1) c.loop-line.notes.items
    (values_in c.in-Some.line.now) (map values_in c.next.new.self) (map values_in c.loop-line.line-iterator) _ _
    (ap (map values_in) c.in-Some.ensures.steps) c.loop-line.invariant.left e))

pub returns-clause-parsed : goal.returns-clause-parsed
returns-clause-parsed c =
    lines_over with_note (c.loop-line.number + 1) c.loop-line.notes.items (map values_in c.loop-line.line-iterator) _
    (ap (map values_in) c.in-None.ensures.steps.0) c.loop-line.invariant.left
