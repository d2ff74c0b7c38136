use Rattle.std.proofs.Common.{refl}
use Rattle.program_commands.specs.declared.words.Request.TheVariants.{Check}
use Rattle.sfbank.specs.FolderPlans.{bank_outcome}
use Rattle.sfbank.specs.PlanParts.{with_findings}
use Rattle.sfbank.proofs.PlanLaws.{no_checks, one_goes_on, one_fails}
use Rattle.sfbank.proofs.program.check.check.Goals as goal

pub returns-in-Ok : goal.returns-in-Ok
returns-in-Ok g c =
    let p = c.args.paths in
    let old = g.H.Host.world c.args.host.now in
    one_goes_on (Check p) (λ w rest. rest) (λ w file. with_findings p (bank_outcome file)) p.input.now old old _ _ _ _
    c.print_findings.result tt c.in-Ok.file.items (λ w i. refl) (λ w r s others h k. (h, tt, tt)) (no_checks old tt)
    c.in-Ok.ensures (rw c.as_slice.ensures.value at (c.print_findings.ensures (g.H.Host.world c.read_input.new.host)
    (g.H.Host.written c.read_input.new.host)))

pub returns-in-Err : goal.returns-in-Err
returns-in-Err g c =
    let p = c.args.paths in
    let old = g.H.Host.world c.args.host.now in
    one_fails (Check p) (λ w rest. rest) (λ w file. with_findings p (bank_outcome file)) p.input.now old old _ _ _
    c.in-Err.fault tt (λ w i. refl) (λ w r s others h k. (h, tt, tt)) (no_checks old tt) c.in-Err.ensures
