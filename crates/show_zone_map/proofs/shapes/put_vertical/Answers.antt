use Rattle.show_zone_map.proofs.shapes.put_vertical.Goals as goal

pub returns : goal.returns
returns g c =
    rw (
      c.text.ensures,
      c.number.ensures,
      c.width.ensures,
      c.text-2.ensures,
      c.number-2.ensures,
      c.text-3.ensures,
      c.text-4.ensures,
    )
    at c.put_marks.ensures
