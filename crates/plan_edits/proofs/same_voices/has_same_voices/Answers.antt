use Rattle.plan_edits.proofs.SameVoices.{at_first}
use Rattle.plan_edits.proofs.same_voices.has_same_voices.Goals as goal

pub loop-pair-init : goal.loop-pair-init
loop-pair-init c =
    at_first c.args.from.now c.args.to.now c.args.note.now c.matches-old.result c.matches-new.result c.matches-old.ensures
    c.matches-new.ensures
