use Rattle.std.proofs.Common.{refl}
use Rattle.program_commands.specs.declared.words.Request.TheVariants.{Merge}
use Rattle.sfbank.specs.Purposes.{merging}
use Rattle.sfbank.specs.PlanParts.{both_apart, with_edits}
use Rattle.sfbank.proofs.PlanLaws.{after_two, checks_fail, two_go_on, two_fail}
use Rattle.sfbank.proofs.program.merge.merge.Goals as goal

pub returns-in-Ok-read_two : goal.returns-in-Ok-read_two
returns-in-Ok-read_two g c =
    let m = c.args.operands in
    let p = m.paths in
    two_go_on (Merge m) (λ w rest. both_apart w p m.from.now rest)
    (λ w file other. with_edits p file (merging file other m.shift)) p.input.now m.from.now _
    (g.H.Host.world c.reject_outputs_of_plan.new.host) _ _ _ _ c.put_merged.result tt c.in-Ok-read_two.file.items
    c.in-Ok-read_two.other.items (λ w i. refl) (λ w r s others h k. (h, k, tt)) c.in-Ok.ensures c.in-Ok-read_two.ensures
    (rw (c.as_slice.ensures.value, c.as_slice-in-Ok-read_two.ensures.value) at c.put_merged.ensures)

pub returns-in-Err-read_two : goal.returns-in-Err-read_two
returns-in-Err-read_two g c =
    let m = c.args.operands in
    let p = m.paths in
    two_fail (Merge m) (λ w rest. both_apart w p m.from.now rest)
    (λ w file other. with_edits p file (merging file other m.shift)) p.input.now m.from.now _
    (g.H.Host.world c.reject_outputs_of_plan.new.host) _ _ _ c.in-Err-read_two.fault tt (λ w i. refl) (λ w r s others h k. (h, k, tt))
    c.in-Ok.ensures c.in-Err-read_two.ensures

pub returns-in-Err : goal.returns-in-Err
returns-in-Err g c =
    let m = c.args.operands in
    let p = m.paths in
    checks_fail (Merge m) (λ w rest. both_apart w p m.from.now rest)
    (after_two p.input.now m.from.now (λ w file other. with_edits p file (merging file other m.shift)))
    p.input.now m.from.now _ _ _ _ c.in-Err.fault (λ w i. refl) (λ w r s others h k. (h, k, tt)) c.in-Err.ensures
