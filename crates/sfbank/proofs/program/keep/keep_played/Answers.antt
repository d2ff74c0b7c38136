use Rattle.std.proofs.Common.{refl}
use Rattle.program_commands.specs.declared.words.Request.TheVariants.{Keep}
use Rattle.program_commands.specs.declared.plans.Kept.TheVariants.{Notes}
use Rattle.sfbank.specs.Purposes.{keeping_played}
use Rattle.sfbank.specs.PlanParts.{both_apart, with_edits}
use Rattle.sfbank.proofs.PlanLaws.{after_two, checks_fail, two_go_on, two_fail}
use Rattle.sfbank.proofs.program.keep.keep_played.Goals as goal

pub returns-in-Ok-read_two : goal.returns-in-Ok-read_two
returns-in-Ok-read_two g c =
    let p = c.args.paths in
    let notes = c.args.notes in
    two_go_on (Keep (record { paths = p; kept = Notes notes c.args.zones })) (λ w rest. both_apart w p notes.now rest)
    (λ w file text. with_edits p file (keeping_played c.args.zones file text)) p.input.now notes.now _
    (g.H.Host.world c.reject_outputs_of_plan.new.host) _ _ _ _ c.put_played.result tt c.in-Ok-read_two.file.items
    c.in-Ok-read_two.text.items (λ w i. refl) (λ w r s others h k. (h, k, tt)) c.in-Ok.ensures c.in-Ok-read_two.ensures
    (rw (c.as_slice.ensures.value, c.as_slice-in-Ok-read_two.ensures.value) at c.put_played.ensures)

pub returns-in-Err-read_two : goal.returns-in-Err-read_two
returns-in-Err-read_two g c =
    let p = c.args.paths in
    let notes = c.args.notes in
    two_fail (Keep (record { paths = p; kept = Notes notes c.args.zones })) (λ w rest. both_apart w p notes.now rest)
    (λ w file text. with_edits p file (keeping_played c.args.zones file text)) p.input.now notes.now _
    (g.H.Host.world c.reject_outputs_of_plan.new.host) _ _ _ c.in-Err-read_two.fault tt (λ w i. refl) (λ w r s others h k. (h, k, tt))
    c.in-Ok.ensures c.in-Err-read_two.ensures

pub returns-in-Err : goal.returns-in-Err
returns-in-Err g c =
    let p = c.args.paths in
    let notes = c.args.notes in
    checks_fail (Keep (record { paths = p; kept = Notes notes c.args.zones })) (λ w rest. both_apart w p notes.now rest)
    (after_two p.input.now notes.now (λ w file text. with_edits p file (keeping_played c.args.zones file text)))
    p.input.now notes.now _ _ _ _ c.in-Err.fault (λ w i. refl) (λ w r s others h k. (h, k, tt)) c.in-Err.ensures
