use Rattle.show_zone_map.proofs.legend.put_entry.Goals as goal

pub returns : goal.returns
returns g c =
    rw (
      c.text.ensures,
      c.number.ensures,
      c.colour.ensures.value,
      c.text-2.ensures,
      c.number-2.ensures,
      c.text-3.ensures,
      c.number-3.ensures,
      c.text-4.ensures,
      c.number-4.ensures,
      c.text-5.ensures,
      c.number-5.ensures,
      c.text-6.ensures,
      c.number-6.ensures,
      c.from.ensures,
      c.text-7.ensures,
      c.name.ensures,
      c.text-8.ensures,
    )
    at c.put_marks.ensures
