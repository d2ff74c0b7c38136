use Rattle.std.proofs.Common.{refl}
use Rattle.bank_format.specs.ReadChecks.{fault_of}
use Rattle.program_commands.specs.declared.words.Request.TheVariants.{Keep}
use Rattle.program_commands.specs.declared.plans.Kept.TheVariants.{Presets}
use Rattle.sfbank.specs.Outcome.{after_reading, bank_in}
use Rattle.sfbank.specs.Purposes.{keeping_listed}
use Rattle.sfbank.specs.PlanParts.{undo_apart, with_edits}
use Rattle.sfbank.proofs.PlanLaws.{after_one, checks_fail, one_goes_on, one_fails}
use Rattle.sfbank.proofs.program.keep.keep_listed.Goals as goal

pub returns-in-Ok-read_input : goal.returns-in-Ok-read_input
returns-in-Ok-read_input g c =
    let p = c.args.paths in
    let list = c.args.presets.items in
    one_goes_on (Keep (record { paths = p; kept = Presets c.args.presets })) (λ w rest. undo_apart w p rest)
    (λ w file. with_edits p file (after_reading (fault_of file) (keeping_listed (bank_in file) list))) p.input.now _
    (g.H.Host.world c.reject_undo_of_plan.new.host) _ _ _ _ c.put_listed.result tt c.in-Ok-read_input.file.items
    (λ w i. refl) (λ w r s others h k. (h, tt, tt)) c.in-Ok.ensures c.in-Ok-read_input.ensures
    (rw (c.as_slice.ensures.value, c.as_slice-in-Ok-read_input.ensures.value) at c.put_listed.ensures)

pub returns-in-Ok : goal.returns-in-Ok
returns-in-Ok g c =
    let p = c.args.paths in
    let list = c.args.presets.items in
    one_fails (Keep (record { paths = p; kept = Presets c.args.presets })) (λ w rest. undo_apart w p rest)
    (λ w file. with_edits p file (after_reading (fault_of file) (keeping_listed (bank_in file) list))) p.input.now _
    (g.H.Host.world c.reject_undo_of_plan.new.host) _ _ _ c.in-Err-read_input.fault tt
    (λ w i. refl) (λ w r s others h k. (h, tt, tt)) c.in-Ok.ensures c.in-Err-read_input.ensures

pub returns : goal.returns
returns g c =
    let p = c.args.paths in
    let list = c.args.presets.items in
    checks_fail (Keep (record { paths = p; kept = Presets c.args.presets })) (λ w rest. undo_apart w p rest)
    (after_one p.input.now (λ w file. with_edits p file (after_reading (fault_of file) (keeping_listed (bank_in file) list))))
    p.input.now p.input.now _ _ _ _ c.in-Err.fault (λ w i. refl) (λ w r s others h k. (h, tt, tt)) c.in-Err.ensures
