use Rattle.std.proofs.Common.{◌≡◌, ◌+◌, ◌-◌, ◌*◌, ℕ, ap, ◌∙◌, rules}
use Rattle.std.specs.Prelude.{FitsSigned, slice_index}
use Rattle.std.specs.Int.{w16, cast_signed}
use Rattle.std.proofs.lemmas.Int.{to_z-of_z}
use Rattle.show_zone_map.specs.declared.marks.Mark.TheVariants.{Number}
use Rattle.show_sample.specs.Extremes.{height}
use Rattle.show_sample.specs.Seams.{side_count, seam_points}
use Rattle.show_sample.proofs.seams.put_dot.Goals as goal

pub returns : goal.returns
returns g c =
    let looped = c.args.looped in
    let index = c.args.index in
    let fits : FitsSigned w16 c.seam_point.result = search rules in
    let x : c.number.result ≡ Number (5 * (64 - side_count looped + index)) =
    c.number.ensures ∙ ap (λ (n : ℕ). Number (5 * (64 - n + index))) c.side_count.ensures in
    let y : c.number-2.result ≡ Number (height (cast_signed w16 (slice_index (seam_points c.args.points.now looped) index))) =
    c.number-2.ensures ∙ ap Number (c.height.ensures.value ∙ ap height (to_z-of_z w16 _ fits ∙ c.seam_point.ensures)) in
    rw (x, c.text.ensures, y, c.text-2.ensures) at c.put_marks.ensures
