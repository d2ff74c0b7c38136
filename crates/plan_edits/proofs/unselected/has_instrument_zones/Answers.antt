use Rattle.std.proofs.Common.{arith}
use Rattle.bank_changes.specs.declared.members.Owner.TheVariants.{Inst}
use Rattle.plan_edits.specs.Playing.{HasZonesOf}
use Rattle.plan_edits.proofs.PlayedLaws.{one_more}
use Rattle.plan_edits.proofs.unselected.has_instrument_zones.Goals as goal

pub loop-instrument-preserved : goal.loop-instrument-preserved
loop-instrument-preserved c =
    one_more (λ i. HasZonesOf c.args.bank.now c.args.set.now (Inst i)) c.loop-instrument.instrument c.loop-instrument.invariant
    (c.has_zones_of.ensures c.if-not-has_zones_of.false)

pub returns : goal.returns
returns c all i lt =
    let e = c.instrument_count-instrument-end.ensures in
    let past = c.loop-instrument-test.false in
    c.loop-instrument.invariant i (omega arith)
