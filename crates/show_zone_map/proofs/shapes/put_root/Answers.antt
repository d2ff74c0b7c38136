use Rattle.show_zone_map.specs.Picture.{root_marks}
use Rattle.show_zone_map.proofs.shapes.put_root.Goals as goal

pub returns : goal.returns
unfolding root_marks
returns g c =
    rw (
      c.text.ensures,
      c.number.ensures,
      c.from.ensures,
      c.text-2.ensures,
      c.number-2.ensures,
      c.colour.ensures.value,
      c.text-3.ensures,
    )
    at c.put_marks.ensures
