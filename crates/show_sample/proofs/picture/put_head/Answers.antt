use Rattle.std.proofs.Common.{List, ℕ, ap}
use Rattle.base_outputs.proofs.OutputLaws.{puts_as, puts_then}
use Rattle.show_zone_map.specs.Marks.{marks_text}
use Rattle.show_sample.specs.Picture.{head, title_marks}
use Rattle.show_sample.proofs.picture.put_head.Goals as goal

pub returns : goal.returns
unfolding head
returns g c =
    let title =
    puts_as _ _ (ap (λ (name : List ℕ). marks_text (title_marks c.args.sample name)) c.name_of.ensures)
    c.put_title.ensures in
    puts_then _ _ c.put_size.ensures (puts_then _ _ c.put_style.ensures title)
