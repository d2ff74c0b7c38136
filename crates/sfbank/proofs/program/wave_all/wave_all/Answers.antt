use Rattle.std.proofs.Common.{refl}
use Rattle.program_commands.specs.declared.words.Request.TheVariants.{WaveAll}
use Rattle.sfbank.specs.FolderPlans.{bank_outcome}
use Rattle.sfbank.specs.KitFolders.{with_samples}
use Rattle.sfbank.proofs.PlanLaws.{no_checks, one_goes_on, one_fails}
use Rattle.sfbank.proofs.program.wave_all.wave_all.Goals as goal

pub returns-in-Ok : goal.returns-in-Ok
returns-in-Ok g c printed =
    let p = c.args.paths in
    let old = g.H.Host.world c.args.host.now in
    one_goes_on (WaveAll p) (λ w rest. rest) (λ w file. with_samples p (bank_outcome file)) p.input.now old old _ printed _ _
    c.save_samples.result tt c.in-Ok.file.items (λ w i. refl) (λ w r s others h k. (h, tt, tt)) (no_checks old tt)
    c.in-Ok.ensures (rw c.as_slice.ensures.value at (c.save_samples.ensures printed))

pub returns-in-Err : goal.returns-in-Err
returns-in-Err g c printed =
    let p = c.args.paths in
    let old = g.H.Host.world c.args.host.now in
    one_fails (WaveAll p) (λ w rest. rest) (λ w file. with_samples p (bank_outcome file)) p.input.now old old _ printed _
    c.in-Err.fault tt (λ w i. refl) (λ w r s others h k. (h, tt, tt)) (no_checks old tt) c.in-Err.ensures
