use Rattle.std.proofs.Common.{List, ℕ, ◌≡◌, subst}
use Rattle.std.specs.Str.{str_eq_ignore_ascii_case}
use Rattle.program_explanations.proofs.ExplanationsOfName.{named_test}
use Rattle.program_explanations.proofs.explanations.FaultCode.is_named.Goals as goal

pub returns : goal.returns
returns c =
    subst (λ (name : List ℕ). c.eq_ignore_ascii_case.result ≡ str_eq_ignore_ascii_case name c.args.name.now)
    c.name.ensures
    (named_test c.eq_ignore_ascii_case.result c.name.result.now c.args.name.now c.eq_ignore_ascii_case.ensures.test)
