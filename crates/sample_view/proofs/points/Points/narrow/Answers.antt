use Rattle.std.proofs.Common.{◌≡◌, ◌-◌, ◌∙◌, ap, arith, length}
use Rattle.std.specs.Prelude.{slice_range}
use Rattle.sample_view.specs.Pieces.{joined}
use Rattle.sample_view.specs.Slices.{pieces_of}
use Rattle.sample_view.proofs.CopyLaws.{three_parts}
use Rattle.sample_view.proofs.points.Points.narrow.Goals as goal

pub returns-clause-whole : goal.returns-clause-whole
returns-clause-whole c =
    let old = c.args.self.now in
    let front = c.args.front in
    let back = c.args.back in
    let inside = c.requires in
    let middle : joined (pieces_of c.without_ends.result) ≡ slice_range old front (length old - back) =
    c.without_ends.ensures.points
    ∙ ap (λ s. slice_range (joined (pieces_of s)) front (length (joined (pieces_of s)) - back))
    c.replace-slices.ensures.value
    ∙ ap (λ t. slice_range t front (length t - back)) c.self.view_is in
    rw (c.in_ok-first.ensures, c.in_ok-last.ensures, middle)
    (three_parts old front (length old - back) (omega (arith, inside)))
