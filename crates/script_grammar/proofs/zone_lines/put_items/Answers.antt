use Rattle.script_grammar.proofs.ZonePutLaws.{puts_items}
use Rattle.script_grammar.proofs.zone_lines.put_items.Goals as goal

pub returns : goal.returns
returns g c =
    puts_items c.args.entries.now c.args.mods.now c.put_generators.ensures c.put_modulators.ensures
    (rw c.new.ensures at c.put_pieces.ensures)
