use Rattle.show_zone_map.proofs.shapes.put_preset_zone.Goals as goal

pub returns-in-Some : goal.returns-in-Some
returns-in-Some g c = rw c.in-Some.is (rw (c.text.ensures, c.number.ensures) at c.put_marks.ensures)
