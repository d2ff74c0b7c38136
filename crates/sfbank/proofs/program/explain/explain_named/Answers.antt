use Rattle.std.proofs.Common.{refl, sym, subst, inl, inr}
use Rattle.std.proofs.KnownBytes.{Keeps-refl}
use Rattle.program_explanations.specs.Explanations.{AreOfName, explanations_text}
use Rattle.sfbank.proofs.program.explain.explain_named.Goals as goal

pub returns-in_default : goal.returns-in_default
returns-in_default g c = inl (inr (inr (_, refl)), Keeps-refl _)

pub returns : goal.returns
returns g c =
    let found = c.as_slice-found.result.now in
    let are = subst (AreOfName c.args.name.now) (sym c.as_slice-found.ensures.value) c.in-Ok.ensures in
    inr (explanations_text found, (found, are, refl), c.print.ensures)
