use Rattle.show_sample.proofs.facts.put_loop.Goals as goal

pub returns-in-None : goal.returns-in-None
returns-in-None g c = rw c.in-None.is (rw c.text.ensures at c.put_marks.ensures)
