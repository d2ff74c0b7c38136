use Rattle.std.proofs.Common.{not, refl}
use Rattle.program_commands.specs.declared.words.Request.TheVariants.{Diff}
use Rattle.sfbank.specs.Differences.{two_banks_of}
use Rattle.sfbank.specs.PlanParts.{no_bank, with_difference}
use Rattle.sfbank.proofs.PlanLaws.{after_two, checks_fail, two_go_on, two_fail}
use Rattle.sfbank.proofs.program.diff.diff.Goals as goal

pub returns-in-Ok-read_two : goal.returns-in-Ok-read_two
returns-in-Ok-read_two g c =
    let p = c.args.paths in
    two_go_on (Diff p) (λ w rest. no_bank w p.out.now p.force rest) (λ w a b. with_difference w p.out.now (not p.no_comments) a b (two_banks_of a b)) p.first.now p.second.now _
    (g.H.Host.world c.reject_bank.new.host) _ _ _ _ c.put_difference.result tt c.in-Ok-read_two.first.items
    c.in-Ok-read_two.second.items (λ w i. refl) (λ w r s others h k. (h, k, tt)) c.in-Ok.ensures c.in-Ok-read_two.ensures
    (rw (c.as_slice.ensures.value, c.as_slice-in-Ok-read_two.ensures.value) at c.put_difference.ensures)

pub returns-in-Err-read_two : goal.returns-in-Err-read_two
returns-in-Err-read_two g c =
    let p = c.args.paths in
    two_fail (Diff p) (λ w rest. no_bank w p.out.now p.force rest) (λ w a b. with_difference w p.out.now (not p.no_comments) a b (two_banks_of a b)) p.first.now p.second.now _
    (g.H.Host.world c.reject_bank.new.host) _ _ _ c.in-Err-read_two.fault tt (λ w i. refl) (λ w r s others h k. (h, k, tt)) c.in-Ok.ensures
    c.in-Err-read_two.ensures

pub returns-in-Err : goal.returns-in-Err
returns-in-Err g c =
    let p = c.args.paths in
    checks_fail (Diff p) (λ w rest. no_bank w p.out.now p.force rest) (after_two p.first.now p.second.now (λ w a b. with_difference w p.out.now (not p.no_comments) a b (two_banks_of a b))) p.first.now p.second.now _ _ _ _
    c.in-Err.fault (λ w i. refl) (λ w r s others h k. (h, k, tt)) c.in-Err.ensures
