use Rattle.std.proofs.Common.{ℕ, List, length, ap, ◌∙◌}
use Rattle.base_outputs.proofs.OutputLaws.{puts_as, puts_then}
use Rattle.show_zone_map.specs.Marks.{marks_text}
use Rattle.show_zone_map.specs.Picture.{size_marks, legend_text, picture}
use Rattle.show_zone_map.proofs.map.ZoneMapText.put.Goals as goal

pub returns : goal.returns
unfolding picture
returns g c =
    let samples = c.samples-samples.ensures ∙ c.legend_of-legend.ensures in
    let size =
    puts_as _ _ (ap (λ (ss : List ℕ). marks_text (size_marks (length ss))) samples) c.put_size.ensures in
    let legend = puts_as _ _ (ap (legend_text c.args.self.now.bank.now) samples) c.put_legend.ensures in
    puts_then _ _ size
    (puts_then _ _ c.put_head.ensures
    (puts_then _ _ c.put_owner.ensures
    (puts_then _ _ c.put_frame.ensures
    (puts_then _ _ c.put_rectangles.ensures (puts_then _ _ legend c.put.ensures)))))
