use Rattle.std.proofs.Common.{◌++◌, length, Some, ap, ◌∙◌, arith}
use Rattle.bank_changes.specs.declared.members.Owner.TheVariants as owner
use Rattle.show_findings.specs.Numbers.{numbers}
use Rattle.show_findings.proofs.GatherLaws.{options_start, options_more, options_all, all_some}
use Rattle.show_findings.proofs.gathering.push_instruments.Goals as goal

pub loop-instrument-init : goal.loop-instrument-init
loop-instrument-init c = options_start (λ n. Some (owner.Inst n)) (length c.args.bank.now.instruments) c.args.found.now.items

pub loop-instrument-preserved : goal.loop-instrument-preserved
loop-instrument-preserved c =
    let test = c.loop-instrument-test.true in
    let end = c.count_in-instrument-end.ensures in
    options_more (λ n. Some (owner.Inst n)) (length c.args.bank.now.instruments) c.args.found.now.items
    c.loop-instrument.found.items _ c.loop-instrument.instrument (omega (arith, test, end)) c.in_ok-push.ensures.items
    c.loop-instrument.invariant

pub returns : goal.returns
returns c =
    let test = c.loop-instrument-test.false in
    let end = c.count_in-instrument-end.ensures in
    options_all (λ n. Some (owner.Inst n)) (length c.args.bank.now.instruments) c.args.found.now.items c.loop-instrument.found.items
    c.loop-instrument.instrument (omega (arith, test, end)) c.loop-instrument.invariant
    ∙ ap (λ os. c.args.found.now.items ++ os) (all_some (λ n. owner.Inst n) (numbers (length c.args.bank.now.instruments)))
