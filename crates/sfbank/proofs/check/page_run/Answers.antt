use Rattle.std.proofs.Common.{refl}
use Rattle.show_page.specs.Page.{page}
use Rattle.sfbank.specs.Findings.{IsPage}
use Rattle.sfbank.proofs.Findings.{none_written, some_written}
use Rattle.sfbank.proofs.check.page_run.Goals as goal

pub returns-in-Ok : goal.returns-in-Ok
returns-in-Ok g c =
    let checked = c.in-Ok.checked in
    record {
      runs =
          some_written IsPage _ _ c.args.file.now checked.bank (page checked.bank checked.findings.items)
          c.write_one.result c.in-Ok.ensures.0
          (record { findings = checked.findings.items; are = c.in-Ok.ensures.1; is = refl })
          (rw (c.page.ensures.bank, c.page.ensures.findings) at c.write_one.ensures);
    }

pub returns-in-Err : goal.returns-in-Err
returns-in-Err g c =
    record { runs = none_written {U = Unit {0}} IsPage _ c.args.file.now c.in-Err.fault c.in-Err.ensures }
