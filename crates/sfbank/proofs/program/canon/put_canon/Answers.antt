use Rattle.std.proofs.Common.{refl}
use Rattle.sfbank.specs.Outcome.{canon_outcome}
use Rattle.sfbank.proofs.OneText.{canon_text}
use Rattle.sfbank.specs.PlanParts.{Text}
use Rattle.sfbank.proofs.OutcomeLaws.{text_put, text_fails}
use Rattle.sfbank.proofs.CommandLaws.{canon_fails}
use Rattle.sfbank.proofs.program.canon.put_canon.Goals as goal

pub returns-in-Ok : goal.returns-in-Ok
returns-in-Ok g c =
    text_put c.args.paths.out.now _ (canon_outcome c.args.file.now) _ _ _ c.put.result
    (canon_text c.args.file.now c.in-Ok.bank c.in-Ok._counts c.in-Ok.ensures) (c.put.ensures (Text _) refl)

pub returns-in-Err : goal.returns-in-Err
returns-in-Err g c =
    text_fails _ _ _ c.args.paths.out c.in-Err.fault (canon_outcome c.args.file.now)
    (canon_fails (λ both. both) c.in-Err.fault c.args.file.now c.in-Err.ensures)
