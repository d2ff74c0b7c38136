use Rattle.std.proofs.Common.{refl}
use Rattle.program_commands.specs.declared.words.Request.TheVariants.{Take}
use Rattle.sfbank.specs.Purposes.{taking}
use Rattle.sfbank.specs.PlanParts.{both_apart, with_edits}
use Rattle.sfbank.proofs.PlanLaws.{after_two, checks_fail, two_go_on, two_fail}
use Rattle.sfbank.proofs.program.take.take_listed.Goals as goal

pub returns-in-Ok-read_two : goal.returns-in-Ok-read_two
returns-in-Ok-read_two g c =
    let p = c.args.paths in
    let from = c.args.from in
    two_go_on (Take (record { paths = p; from = from; presets = c.args.presets })) (λ w rest. both_apart w p from.now rest)
    (λ w file other. with_edits p file (taking file other c.args.presets.items)) p.input.now from.now _
    (g.H.Host.world c.reject_outputs_of_plan.new.host) _ _ _ _ c.put_taken.result tt c.in-Ok-read_two.file.items
    c.in-Ok-read_two.other.items (λ w i. refl) (λ w r s others h k. (h, k, tt)) c.in-Ok.ensures c.in-Ok-read_two.ensures
    (rw (c.as_slice.ensures.value, c.as_slice-in-Ok-read_two.ensures.value, c.as_slice-in-Ok-read_two-2.ensures.value) at
    c.put_taken.ensures)

pub returns-in-Ok : goal.returns-in-Ok
returns-in-Ok g c =
    let p = c.args.paths in
    let from = c.args.from in
    two_fail (Take (record { paths = p; from = from; presets = c.args.presets })) (λ w rest. both_apart w p from.now rest)
    (λ w file other. with_edits p file (taking file other c.args.presets.items)) p.input.now from.now _
    (g.H.Host.world c.reject_outputs_of_plan.new.host) _ _ _ c.in-Err-read_two.fault tt (λ w i. refl) (λ w r s others h k. (h, k, tt))
    c.in-Ok.ensures c.in-Err-read_two.ensures

pub returns : goal.returns
returns g c =
    let p = c.args.paths in
    let from = c.args.from in
    checks_fail (Take (record { paths = p; from = from; presets = c.args.presets })) (λ w rest. both_apart w p from.now rest)
    (after_two p.input.now from.now (λ w file other. with_edits p file (taking file other c.args.presets.items)))
    p.input.now from.now _ _ _ _ c.in-Err.fault (λ w i. refl) (λ w r s others h k. (h, k, tt)) c.in-Err.ensures
