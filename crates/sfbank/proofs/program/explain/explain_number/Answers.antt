use Rattle.std.proofs.Common.{refl, inl, inr, subst}
use Rattle.std.specs.Prelude.{IsSome}
use Rattle.std.proofs.KnownBytes.{Keeps-refl}
use Rattle.program_explanations.specs.Explanations.{explanation_text}
use Rattle.sfbank.proofs.program.explain.explain_number.Goals as goal

pub returns-in-Some : goal.returns-in-Some
returns-in-Some g c =
    let e = c.in-Some.explanation in inr (explanation_text e, (e, c.in-Some.ensures.known, refl), c.print.ensures)

pub returns-in-None : goal.returns-in-None
returns-in-None g c =
    inl (
      inl (c.args.number, refl, refl, λ code e. let some = subst IsSome c.in-None.is (c.explain.ensures.all code e) in absurd cc),
      Keeps-refl _,
    )
