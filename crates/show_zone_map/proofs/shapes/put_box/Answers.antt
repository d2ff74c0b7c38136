use Rattle.show_zone_map.specs.Picture.{box_marks}
use Rattle.show_zone_map.proofs.shapes.put_box.Goals as goal

pub returns : goal.returns
unfolding box_marks
returns g c =
    rw (
      c.text.ensures,
      c.number.ensures,
      c.left.ensures,
      c.text-2.ensures,
      c.number-2.ensures,
      c.top.ensures,
      c.text-3.ensures,
      c.number-3.ensures,
      c.width.ensures,
      c.text-4.ensures,
      c.number-4.ensures,
      c.height.ensures.value,
      c.text-5.ensures,
    )
    at c.put_marks.ensures
