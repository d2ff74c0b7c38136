use Rattle.base_outputs.proofs.OutputLaws.{puts_then}
use Rattle.program_explanations.proofs.generator_table.GeneratorTableText.put.Goals as goal

pub returns : goal.returns
returns g c = puts_then _ _ c.put_line.ensures (rw c.usable_generators.ensures at c.put_rows.ensures)
