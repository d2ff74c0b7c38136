use Rattle.std.proofs.Common.{◌≡◌, Some, rules}
use Rattle.std.specs.Prelude.{slice_get}
use Rattle.show_findings.proofs.SampleLaws.{few_points}
use Rattle.show_findings.proofs.samples.finding_at.Goals as goal

pub sample_finding-requires-clause-few : goal.sample_finding-requires-clause-few
sample_finding-requires-clause-few c =
    let there : slice_get c.args.bank.now.samples c.args.number ≡ Some c.in_ok-sample.sample.now = search rules in
    few_points c.args.bank.now c.soundness.ensures c.args.number c.in_ok-sample.sample.now there
