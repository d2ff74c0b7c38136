use Rattle.std.proofs.Common.{[], ◌∷◌, codes}
use Rattle.script_grammar.specs.Operands.{Fixed}
use Rattle.script_grammar.specs.Items.{generator_operands}
use Rattle.script_grammar.proofs.PutLaws.{puts_both}
use Rattle.script_grammar.proofs.zone_lines.put_generator_item.Goals as goal

pub returns : goal.returns
returns g c =
    puts_both (Fixed (codes "g") ∷ []) (generator_operands c.args.operator c.args.amount)
    (rw c.new.ensures at c.put_pieces.ensures) c.put_generator.ensures
