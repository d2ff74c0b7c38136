use Rattle.voices.proofs.voice.Voice.of.Goals as goal

pub invariant_of-result : goal.invariant_of-result
invariant_of-result c = (c.requires, c.start-state.ensures c.args.points)
