use Rattle.std.proofs.Common.{◌∙◌}
use Rattle.std.proofs.lemmas.Result.{err_from_is_err_and}
use Rattle.sfbank.proofs.Faults.{at_script, at_these, at_other, at_line, at_done}
use Rattle.sfbank.proofs.edited_bank.apply_script.Goals as goal

pub returns-in_err-lines : goal.returns-in_err-lines
returns-in_err-lines g c =
    let p = err_from_is_err_and c.from_residual.result c.from_residual.ensures.1 in
    record {
      prepared =
          rw (p.1, p.2)
          (at_script c.args.forms c.args.bank c.args.script.now c.in_err-lines.field-0.0
          c.in_err-lines.ensures.parsed);
    }

pub returns-in_err-undo : goal.returns-in_err-undo
returns-in_err-undo g c =
    let p = err_from_is_err_and c.from_residual-in_err-undo.result c.from_residual-in_err-undo.ensures.1 in
    let same =
    at_these c.args.forms c.args.bank c.args.script.now c.in_ok-lines.lines.items _ c.in_ok-lines.ensures.parsed
    c.as_slice.ensures.value c.in_ok-all_of.ensures in
    record {
      prepared =
          rw (p.1, p.2, same)
          (at_line c.args.bank c.args.script.now c.in_ok-lines.lines.items c.in_err-undo.field-0.0
          c.in_ok-lines.ensures.parsed c.in_err-undo.ensures.applied);
    }

pub returns : goal.returns
returns g c =
    let same =
    at_these c.args.forms c.args.bank c.args.script.now c.in_ok-lines.lines.items _ c.in_ok-lines.ensures.parsed
    c.as_slice.ensures.value c.in_ok-all_of.ensures in
    record {
      prepared =
          same
          ∙ at_done c.args.bank c.apply_all.new.bank c.args.script.now c.in_ok-lines.lines.items
          c.in_ok-undo.undo.items c.in_ok-lines.ensures.parsed c.in_ok-undo.ensures.applied;
    }

pub returns-in_err-all_of : goal.returns-in_err-all_of
returns-in_err-all_of g c =
    let p = err_from_is_err_and c.from_residual-in_err-all_of.result c.from_residual-in_err-all_of.ensures.1 in
    record {
      prepared =
          rw (p.1, p.2)
          (at_other (Unit {0}) c.args.forms c.args.bank c.args.script.now c.in_ok-lines.lines.items _
          c.in_err-all_of.field-0.0 c.in_ok-lines.ensures.parsed c.as_slice.ensures.value
          c.in_err-all_of.ensures);
    }
