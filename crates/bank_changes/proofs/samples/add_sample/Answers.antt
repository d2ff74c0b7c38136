use Rattle.std.proofs.Common.{◌∙◌}
use Rattle.bank_changes.proofs.SampleLaws.{pushed}
use Rattle.bank_changes.proofs.samples.add_sample.Goals as goal

pub returns-then-number-len-clause-ok : goal.returns-then-number-len-clause-ok
returns-then-number-len-clause-ok c =
    pushed c.args.parts.now c.args.number c.args.sample c.push.new.self c.push.result c.requires.valid
    (c.if-number-len.true ∙ c.len.ensures) c.push.ensures.ok
