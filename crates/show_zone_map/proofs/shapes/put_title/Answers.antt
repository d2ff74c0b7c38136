use Rattle.show_zone_map.specs.Picture.{title_marks}
use Rattle.show_zone_map.proofs.shapes.put_title.Goals as goal

pub returns : goal.returns
unfolding title_marks
returns g c =
    rw (
      c.text.ensures,
      c.number.ensures,
      c.colour.ensures.value,
      c.text-2.ensures,
      c.name.ensures,
      c.text-3.ensures,
      c.number-2.ensures,
      c.from.ensures,
    )
    at c.put_marks.ensures
