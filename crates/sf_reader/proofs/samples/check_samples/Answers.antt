use Rattle.std.specs.Prelude.{flat_map}
use Rattle.bank_format.specs.Windows.{without_terminal}
use Rattle.bank_format.specs.ReadChecks.{sample_checks}
use Rattle.sf_reader.proofs.RowLaws.{checks_hold, checks_fail}
use Rattle.sf_reader.proofs.samples.check_samples.Goals as goal

pub loop-head-preserved : goal.loop-head-preserved
loop-head-preserved c =
    let old = c.loop-head.head-iterator in
    let new = c.next.new.self in
    let turn = c.in-Some.ensures.steps in (
      tt,
      tt,
      checks_hold old.n new.n old.iter new.iter c.in-Some.head turn.0 turn.1 (sample_checks c.args.points) _
          c.in_ok-check_sample.ensures.0 c.loop-head.invariant.2,
    )

pub returns-in_err-check_sample : goal.returns-in_err-check_sample
returns-in_err-check_sample c =
    let old = c.loop-head.head-iterator in
    let new = c.next.new.self in
    let turn = c.in-Some.ensures.steps in
    checks_fail old.n new.n old.iter new.iter c.in-Some.head turn.0 turn.1 (λ (u : Unit {0}). u)
    (sample_checks c.args.points) c.from_residual.result c.in_err-check_sample.field-0.0
    (flat_map (sample_checks c.args.points) (without_terminal c.args.heads.now)) c.from_residual.ensures.1
    c.in_err-check_sample.ensures c.loop-head.invariant.2
