use Rattle.std.proofs.Common.{◌≡◌, ◌&&◌, false, not, length, sym, ap, ◌∙◌, arith}
use Rattle.std.specs.Prelude.{◌==◌}
use Rattle.std.specs.List.{list_all}
use Rattle.std.proofs.lemmas.Bool.Decides.{nat_tests}
use Rattle.show_findings.proofs.PointLaws.{pieces_zero}
use Rattle.show_findings.proofs.points.is_silent.Goals as goal

pub returns-then-not-is_empty : goal.returns-then-not-is_empty
returns-then-not-is_empty c =
    let points = c.args.points.now in
    let empty = c.is_empty.ensures in
    let filled = c.if-not-is_empty.true in
    let some : (length points == 0) ≡ false = grind (arith, nat_tests, empty, filled) in
    c.are_zero.ensures ∙ pieces_zero c.pieces.result.now points c.pieces.ensures.bytes
    ∙ ap (λ t. not t && list_all (λ p. p == 0) points) (sym some)
