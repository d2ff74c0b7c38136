use Rattle.std.proofs.Common.{ℕ, ap}
use Rattle.base_outputs.proofs.OutputLaws.{puts_as, puts_then}
use Rattle.show_zone_map.specs.Marks.{marks_text}
use Rattle.show_sample.specs.Rows.{drawn, end_marks}
use Rattle.show_sample.proofs.rows.put_drawn.Goals as goal

pub returns : goal.returns
unfolding drawn
returns g c =
    let ends = puts_as _ _ (ap (λ (k : ℕ). marks_text (end_marks k c.args.looped)) c.len.ensures.value) c.put_ends.ensures in
    puts_then _ _ c.put_scale.ensures
    (puts_then _ _ c.put_wave_start.ensures
    (puts_then _ _ c.put_wave.ensures (puts_then _ _ ends c.put_seam_of.ensures)))
