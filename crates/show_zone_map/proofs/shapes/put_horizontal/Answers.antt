use Rattle.show_zone_map.proofs.shapes.put_horizontal.Goals as goal

pub returns : goal.returns
returns g c =
    rw (c.text.ensures, c.number.ensures, c.text-2.ensures, c.text-3.ensures) at
    c.put_marks.ensures
