use Rattle.std.proofs.Common.{rules, ap, sym, subst, ◌∙◌, ℤ, w32, w64, FitsSigned, to_z, of_z}
use Rattle.std.specs.Prelude.{int_div, pos}
use Rattle.std.proofs.lemmas.Int.{to_z-of_z}
use Rattle.show_findings.proofs.ScanLaws.{mean_is, mean_fits}
use Rattle.show_findings.proofs.samples.mean_in.Goals as goal

pub overflow_cast-result-2 : goal.overflow_cast-result-2
overflow_cast-result-2 c =
    let z = c.args.facts.sum in
    let n = c.args.facts.count in
    let fits : FitsSigned w64 z = search rules in
    subst (FitsSigned w32) (sym (mean_is z n fits c.requires.some c.requires.few c.requires.near))
    (mean_fits z n fits c.requires.some c.requires.few c.requires.near)

pub returns : goal.returns
returns c =
    let z = c.args.facts.sum in
    let n = c.args.facts.count in
    let fits : FitsSigned w64 z = search rules in
    ap (λ (q : ℤ). to_z w32 (of_z w32 q)) (mean_is z n fits c.requires.some c.requires.few c.requires.near)
    ∙ to_z-of_z w32 (int_div z (pos n)) (mean_fits z n fits c.requires.some c.requires.few c.requires.near)
