use Rattle.std.proofs.lemmas.Result.{IfOk-weaker}
use Rattle.program_explanations.proofs.ExplanationsOfName.{are_of_name}
use Rattle.program_explanations.proofs.explanations.explain_name.Goals as goal

pub returns : goal.returns
returns c =
    IfOk-weaker c.explain_named.result _ _ (λ found. are_of_name c.args.name.now found.items) c.explain_named.ensures
