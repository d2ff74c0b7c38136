use Rattle.std.proofs.Common.{take, filter}
use Rattle.program_explanations.specs.Explanations.{is_named, ExplainInTurn}
use Rattle.program_explanations.proofs.explanations.explain_named.Given as goal

abbrev pub invariant-loop-code : goal.invariant-loop-code
invariant-loop-code l = ExplainInTurn (filter (is_named l.name) (take l.code-index l.all)) l.found.items
