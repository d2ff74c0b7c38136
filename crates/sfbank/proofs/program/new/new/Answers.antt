use Rattle.std.proofs.Common.{refl}
use Rattle.program_commands.specs.declared.words.Request.TheVariants.{New}
use Rattle.sfbank.specs.NewBanks.{new_outcome}
use Rattle.sfbank.specs.PlanParts.{no_bank, with_text}
use Rattle.sfbank.proofs.PlanLaws.{checks_fail, no_inputs}
use Rattle.sfbank.proofs.program.new.new.Goals as goal

pub returns-in-Ok : goal.returns-in-Ok
returns-in-Ok g c =
    let p = c.args.bank in
    no_inputs (New p) (λ w rest. no_bank w p.out.now p.force rest) (λ w. with_text w p.out.now (new_outcome p.minor))
    _ (g.H.Host.world c.reject_bank.new.host) _ _ _ c.put_empty.result tt (λ w i. refl) (λ w i. (tt, tt, tt)) c.in-Ok.ensures
    c.put_empty.ensures

pub returns-in-Err : goal.returns-in-Err
returns-in-Err g c =
    let p = c.args.bank in
    checks_fail (New p) (λ w rest. no_bank w p.out.now p.force rest) (λ w i. with_text w p.out.now (new_outcome p.minor))
    p.out.now p.out.now _ _ _ _ c.in-Err.fault (λ w i. refl) (λ w r s others h k. (tt, tt, tt)) c.in-Err.ensures
