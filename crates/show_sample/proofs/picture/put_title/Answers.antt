use Rattle.show_sample.proofs.picture.put_title.Goals as goal

pub returns : goal.returns
returns g c =
    rw (c.text.ensures, c.number.ensures, c.text-2.ensures, c.name.ensures, c.text-3.ensures) at c.put_marks.ensures
