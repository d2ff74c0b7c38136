use Rattle.std.proofs.Common.{Ok, refl}
use Rattle.sfbank.specs.FolderPlans.{bank_outcome}
use Rattle.sfbank.specs.PlanParts.{Page, with_page}
use Rattle.sfbank.proofs.Findings.{page_put}
use Rattle.sfbank.proofs.OutcomeLaws.{outcome_fails}
use Rattle.sfbank.proofs.program.page.put_page.Goals as goal

pub returns-in-Ok : goal.returns-in-Ok
returns-in-Ok g c =
    let checked = c.in-Ok.checked in
    page_put c.args.paths.out.now checked.bank (bank_outcome c.args.file.now) _ _ _ c.put.result c.in-Ok.ensures.0
    (c.put.ensures (Page checked.bank)
    (record {
      findings = checked.findings.items;
      are = c.in-Ok.ensures.1;
      is = rw (c.page.ensures.bank, c.page.ensures.findings) refl;
    }))

pub returns-in-Err : goal.returns-in-Err
returns-in-Err g c =
    outcome_fails _ _ _ c.args.paths.out (λ w r. with_page w c.args.paths.out.now r) c.in-Err.fault
    (bank_outcome c.args.file.now) (λ w fault. refl) c.in-Err.ensures
