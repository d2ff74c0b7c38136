use Rattle.std.proofs.Common.{arith}
use Rattle.bank_changes.specs.declared.members.Owner.TheVariants.{Preset}
use Rattle.plan_edits.specs.Playing.{HasZonesOf}
use Rattle.plan_edits.proofs.PlayedLaws.{one_more}
use Rattle.plan_edits.proofs.unselected.has_preset_zones.Goals as goal

pub loop-preset-preserved : goal.loop-preset-preserved
loop-preset-preserved c =
    one_more (λ i. HasZonesOf c.args.bank.now c.args.set.now (Preset i)) c.loop-preset.preset c.loop-preset.invariant
    (c.has_zones_of.ensures c.if-not-has_zones_of.false)

pub returns : goal.returns
returns c all i lt =
    let e = c.preset_count-preset-end.ensures in
    let past = c.loop-preset-test.false in
    c.loop-preset.invariant i (omega arith)
