use Rattle.show_page.proofs.columns.put_column.Goals as goal

pub returns : goal.returns
returns g c = rw (c.column.ensures, c.column_count.ensures) at c.put_ends.ensures
