use Rattle.std.proofs.Common.{◌≡◌, ◌++◌, List, subst}
use Rattle.std.specs.Prelude.{OnOk}
use Rattle.show_findings.specs.declared.finding.Finding.{Finding}
use Rattle.show_findings.proofs.SampleLaws.{by_checks}
use Rattle.show_findings.proofs.samples.push_sample_findings.Goals as goal

pub returns : goal.returns
returns c =
    subst
    (λ (fs : List Finding).
    OnOk c.push_of_checks.result (c.push_of_checks.new.found.items ≡ c.args.found.now.items ++ fs))
    (by_checks c.args.bank.now) c.push_of_checks.ensures
