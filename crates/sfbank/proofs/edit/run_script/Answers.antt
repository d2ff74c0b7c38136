use Rattle.std.proofs.Common.{◌∙◌}
use Rattle.sfbank.specs.EditRuns.{outcome_of}
use Rattle.sfbank.specs.Prepared.{texts_of_bank}
use Rattle.sfbank.proofs.Endings.{ends_early, ends_with}
use Rattle.sfbank.proofs.Faults.{at_bank}
use Rattle.sfbank.proofs.edit.run_script.Goals as goal

pub apply_script-requires : goal.apply_script-requires
apply_script-requires g c = record { pool = rw c.as_slice.ensures.value c.in-Ok.ensures.1 }

pub returns-in-Ok-apply_script : goal.returns-in-Ok-apply_script
returns-in-Ok-apply_script g c =
    let file = c.args.file.now in
    let script = c.args.script.now in
    let same = at_bank c.args.forms file script c.in-Ok.bank c.in-Ok.ensures.0.0 c.in-Ok.ensures.0.1 in
    record {
      runs =
          ends_with _ (outcome_of c.args.forms file script) (texts_of_bank c.in-Ok-apply_script.edited_bank)
          c.write_edited.result (same ∙ c.in-Ok-apply_script.ensures.prepared) c.write_edited.ensures;
    }

pub returns-in-Ok : goal.returns-in-Ok
returns-in-Ok g c =
    let file = c.args.file.now in
    let script = c.args.script.now in
    let same = at_bank c.args.forms file script c.in-Ok.bank c.in-Ok.ensures.0.0 c.in-Ok.ensures.0.1 in
    record {
      runs = ends_early (Unit {0}) (g.W.Write.contents c.args.out.now) (g.V.Write.contents c.args.undo.now)
          (outcome_of c.args.forms file script) c.in-Err-apply_script.fault
          (rw same c.in-Err-apply_script.ensures.prepared);
    }

pub returns : goal.returns
returns g c =
    record {
      runs = ends_early (Unit {0}) (g.W.Write.contents c.args.out.now) (g.V.Write.contents c.args.undo.now)
          (outcome_of c.args.forms c.args.file.now c.args.script.now) c.in-Err.fault (c.in-Err.ensures c.args.forms);
    }
