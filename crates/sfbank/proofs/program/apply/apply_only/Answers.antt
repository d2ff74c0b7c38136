use Rattle.std.proofs.Common.{◌∷◌, [], refl}
use Rattle.program_commands.specs.declared.words.Request.TheVariants.{ApplyOnly}
use Rattle.sfbank.specs.EditRuns.{outcome_of}
use Rattle.sfbank.specs.PlanParts.{apart, with_text, without_undo}
use Rattle.sfbank.proofs.PlanLaws.{after_two, checks_fail, two_go_on, two_fail}
use Rattle.sfbank.proofs.program.apply.apply_only.Goals as goal

pub returns-in-Ok-read_two : goal.returns-in-Ok-read_two
returns-in-Ok-read_two g c =
    let p = c.args.paths in
    two_go_on (ApplyOnly p) (λ w rest. apart w p.out.now (p.script.now ∷ []) rest)
    (λ w a b. with_text w p.out.now (without_undo (outcome_of p.forms a b))) p.input.now p.script.now _
    (g.H.Host.world c.reject_same_file.new.host) _ _ _ _ c.put_edited.result tt c.in-Ok-read_two.file.items
    c.in-Ok-read_two.script.items (λ w i. refl) (λ w r s others h k. (h, k, tt)) c.in-Ok.ensures c.in-Ok-read_two.ensures
    (rw (c.as_slice.ensures.value, c.as_slice-in-Ok-read_two.ensures.value) at c.put_edited.ensures)

pub returns-in-Err-read_two : goal.returns-in-Err-read_two
returns-in-Err-read_two g c =
    let p = c.args.paths in
    two_fail (ApplyOnly p) (λ w rest. apart w p.out.now (p.script.now ∷ []) rest)
    (λ w a b. with_text w p.out.now (without_undo (outcome_of p.forms a b))) p.input.now p.script.now _
    (g.H.Host.world c.reject_same_file.new.host) _ _ _ c.in-Err-read_two.fault tt (λ w i. refl) (λ w r s others h k. (h, k, tt)) c.in-Ok.ensures
    c.in-Err-read_two.ensures

pub returns-in-Err : goal.returns-in-Err
returns-in-Err g c =
    let p = c.args.paths in
    checks_fail (ApplyOnly p) (λ w rest. apart w p.out.now (p.script.now ∷ []) rest)
    (after_two p.input.now p.script.now (λ w a b. with_text w p.out.now (without_undo (outcome_of p.forms a b)))) p.input.now p.script.now _ _ _ _
    c.in-Err.fault (λ w i. refl) (λ w r s others h k. (h, k, tt)) c.in-Err.ensures
