use Rattle.std.proofs.Common.{drop, flat_map}
use Rattle.base_outputs.proofs.OutputLaws.{Putting}
use Rattle.program_explanations.specs.Explanations.{next_text}
use Rattle.program_explanations.proofs.explanations.put_others.Given as goal

-- the explanations so far were put
abbrev pub invariant-loop-other : goal.invariant-loop-other
invariant-loop-other g l =
    Putting g.W.Write.contents l.fn.output l.output (flat_map next_text l.others)
    (flat_map next_text (drop l.other-index l.others))
