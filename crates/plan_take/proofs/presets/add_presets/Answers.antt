use Rattle.std.proofs.Common.{rules}
use Rattle.plan_take.proofs.AdditionLaws.{adds_no_preset, adds_next}
use Rattle.plan_take.proofs.presets.add_presets.Goals as goal

pub loop-k-init : goal.loop-k-init
loop-k-init c = adds_no_preset c.args.presets.now c.args.draft.now

pub loop-k-preserved : goal.loop-k-preserved
loop-k-preserved c =
    adds_next c.args.presets.now c.loop-k.k c.args.draft.now c.loop-k.draft c.add_taken.new.draft (search rules)
    c.loop-k.invariant c.add_taken.ensures.first c.add_taken.ensures.others

pub returns-in_err-add_taken : goal.returns-in_err-add_taken
returns-in_err-add_taken c =
    adds_next c.args.presets.now c.loop-k.k c.args.draft.now c.loop-k.draft c.add_taken.new.draft (search rules)
    c.loop-k.invariant c.add_taken.ensures.first c.add_taken.ensures.others
