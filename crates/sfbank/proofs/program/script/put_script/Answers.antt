use Rattle.std.proofs.Common.{◌≡◌, ◌∙◌, Ok, ap, refl, sym}
use Rattle.sfbank.specs.BankScripts.{form_text, script_outcome}
use Rattle.sfbank.specs.Prepared.{formed_text}
use Rattle.sfbank.specs.PlanParts.{form_of}
use Rattle.sfbank.proofs.BankScripts.{script_text}
use Rattle.sfbank.specs.PlanParts.{Text}
use Rattle.sfbank.proofs.OutcomeLaws.{text_put, text_fails}
use Rattle.sfbank.proofs.CommandLaws.{script_fails}
use Rattle.sfbank.proofs.program.script.put_script.Goals as goal

pub returns-in-Ok-of : goal.returns-in-Ok-of
returns-in-Ok-of g c =
    let form = form_of c.args.paths in
    let text = formed_text c.in-Ok-of.script in
    let is : text ≡ form_text form c.in-Ok.bank = rw c.form_of.ensures at c.in-Ok-of.ensures in
    text_put c.args.paths.out.now text (script_outcome form c.args.file.now) _ _ _ c.put.result
    (script_text form c.args.file.now c.in-Ok.bank c.in-Ok._counts c.in-Ok.ensures ∙ ap Ok (sym is))
    (c.put.ensures (Text text) refl)

pub returns : goal.returns
returns g c =
    let form = form_of c.args.paths in
    text_fails _ _ _ c.args.paths.out c.in-Err.fault (script_outcome form c.args.file.now)
    (script_fails (λ both. both) form c.in-Err.fault c.args.file.now c.in-Err.ensures)
