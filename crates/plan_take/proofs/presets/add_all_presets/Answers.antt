use Rattle.std.proofs.Common.{map, rules}
use Rattle.plan_take.specs.Merging.{taken_shifted}
use Rattle.plan_take.proofs.AdditionLaws.{adds_no_preset}
use Rattle.plan_take.proofs.MergeLaws.{adds_next_shifted}
use Rattle.plan_take.proofs.presets.add_all_presets.Goals as goal

pub loop-i-init : goal.loop-i-init
loop-i-init c = adds_no_preset (map (taken_shifted c.args.shift) c.args.presets.now) c.args.draft.now

pub loop-i-preserved : goal.loop-i-preserved
loop-i-preserved c =
    adds_next_shifted c.args.shift c.args.presets.now c.loop-i.i c.args.draft.now c.loop-i.draft c.add_shifted.new.draft
    (search rules) c.loop-i.invariant c.add_shifted.ensures.first c.add_shifted.ensures.others

pub returns-in_err-add_shifted : goal.returns-in_err-add_shifted
returns-in_err-add_shifted c =
    adds_next_shifted c.args.shift c.args.presets.now c.loop-i.i c.args.draft.now c.loop-i.draft c.add_shifted.new.draft
    (search rules) c.loop-i.invariant c.add_shifted.ensures.first c.add_shifted.ensures.others
