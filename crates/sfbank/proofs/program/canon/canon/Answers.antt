use Rattle.std.proofs.Common.{refl}
use Rattle.program_commands.specs.declared.words.Request.TheVariants.{Canon}
use Rattle.sfbank.specs.Outcome.{canon_outcome}
use Rattle.sfbank.specs.PlanParts.{with_text}
use Rattle.sfbank.proofs.PlanLaws.{no_checks, one_goes_on, one_fails}
use Rattle.sfbank.proofs.program.canon.canon.Goals as goal

pub returns-in-Ok : goal.returns-in-Ok
returns-in-Ok g c =
    let p = c.args.paths in
    let old = g.H.Host.world c.args.host.now in
    one_goes_on (Canon p) (λ w rest. rest) (λ w file. with_text w p.out.now (canon_outcome file)) p.input.now old old _ _ _ _
    c.put_canon.result tt c.in-Ok.file.items (λ w i. refl) (λ w r s others h k. (h, tt, tt)) (no_checks old tt) c.in-Ok.ensures
    (rw c.as_slice.ensures.value at c.put_canon.ensures)

pub returns-in-Err : goal.returns-in-Err
returns-in-Err g c =
    let p = c.args.paths in
    let old = g.H.Host.world c.args.host.now in
    one_fails (Canon p) (λ w rest. rest) (λ w file. with_text w p.out.now (canon_outcome file)) p.input.now old old _ _ _
    c.in-Err.fault tt (λ w i. refl) (λ w r s others h k. (h, tt, tt)) (no_checks old tt) c.in-Err.ensures
