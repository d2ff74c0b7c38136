use Rattle.std.proofs.Common.{ℕ, ◌*◌, cond, Some, None, ap, sym, subst, ◌∙◌}
use Rattle.std.specs.Prelude.{nat_lt}
use Rattle.show_findings.specs.declared.finding.Finding.TheVariants.{ClippedSample}
use Rattle.show_findings.specs.declared.points.PointFacts.{PointFacts}
use Rattle.show_findings.specs.declared.samples.SampleCheck.{SampleCheck}
use Rattle.show_findings.specs.Scans.{offset_in, IsNear}
use Rattle.show_findings.specs.Samples.{sample_finding}
use Rattle.show_findings.proofs.ClipLaws.{clipped_is}
use Rattle.show_findings.proofs.ScanLaws.{offset_is, facts_near}
use Rattle.show_findings.proofs.samples.sample_finding.Goals as goal

pub returns-in-ClippedSample : goal.returns-in-ClippedSample
returns-in-ClippedSample c =
    c.clipped_sample.ensures
    ∙ ap (λ (n : ℕ). cond (nat_lt 0 n) (Some (ClippedSample c.args.number n)) None)
    (ap (λ (f : PointFacts). f.clipped) c.requires.facts ∙ clipped_is c.args.sample.now.points c.requires.few)
    ∙ ap (λ (check : SampleCheck). sample_finding check c.args.bank.now c.args.number c.args.sample.now)
    (sym c.in-ClippedSample.is)

pub offset_sample-requires-clause-near : goal.offset_sample-requires-clause-near
offset_sample-requires-clause-near c =
    subst (λ (f : PointFacts). IsNear f.sum (32768 * f.count)) (sym c.requires.facts)
    (facts_near c.args.sample.now.points c.requires.few)

pub returns-in-OffsetSample : goal.returns-in-OffsetSample
returns-in-OffsetSample c =
    c.offset_sample.ensures ∙ ap (offset_in c.args.number) c.requires.facts
    ∙ offset_is c.args.number c.args.sample.now.points c.requires.few
    ∙ ap (λ (check : SampleCheck). sample_finding check c.args.bank.now c.args.number c.args.sample.now)
    (sym c.in-OffsetSample.is)
