use Rattle.show_sample.proofs.facts.put_line_start.Goals as goal

pub returns : goal.returns
returns g c = rw (c.text.ensures, c.number.ensures, c.text-2.ensures) at c.put_marks.ensures
