use Rattle.std.proofs.Common.{refl}
use Rattle.program_commands.specs.declared.words.Request.TheVariants.{Page}
use Rattle.sfbank.specs.FolderPlans.{bank_outcome}
use Rattle.sfbank.specs.PlanParts.{no_bank, with_page}
use Rattle.sfbank.proofs.PlanLaws.{after_one, checks_fail, one_goes_on, one_fails}
use Rattle.sfbank.proofs.program.page.page.Goals as goal

pub returns-in-Ok-read_input : goal.returns-in-Ok-read_input
returns-in-Ok-read_input g c =
    let p = c.args.paths in
    let old = g.H.Host.world c.args.host.now in
    one_goes_on (Page p) (λ w rest. no_bank w p.out.now p.force rest) (λ w file. with_page w p.out.now (bank_outcome file)) p.input.now old
    (g.H.Host.world c.reject_bank.new.host) _ _ _ _ c.put_page.result tt c.in-Ok-read_input.file.items (λ w i. refl)
    (λ w r s others h k. (h, tt, tt)) c.in-Ok.ensures c.in-Ok-read_input.ensures (rw c.as_slice.ensures.value at c.put_page.ensures)

pub returns-in-Err-read_input : goal.returns-in-Err-read_input
returns-in-Err-read_input g c =
    let p = c.args.paths in
    let old = g.H.Host.world c.args.host.now in
    one_fails (Page p) (λ w rest. no_bank w p.out.now p.force rest) (λ w file. with_page w p.out.now (bank_outcome file)) p.input.now old
    (g.H.Host.world c.reject_bank.new.host) _ _ _ c.in-Err-read_input.fault tt (λ w i. refl)
    (λ w r s others h k. (h, tt, tt)) c.in-Ok.ensures c.in-Err-read_input.ensures

pub returns-in-Err : goal.returns-in-Err
returns-in-Err g c =
    let p = c.args.paths in
    checks_fail (Page p) (λ w rest. no_bank w p.out.now p.force rest)
    (after_one p.input.now (λ w file. with_page w p.out.now (bank_outcome file))) p.input.now p.input.now _ _ _ _ c.in-Err.fault
    (λ w i. refl) (λ w r s others h k. (h, tt, tt)) c.in-Err.ensures
