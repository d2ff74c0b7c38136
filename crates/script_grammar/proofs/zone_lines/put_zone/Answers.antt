use Rattle.script_grammar.proofs.ZonePutLaws.{puts_zone}
use Rattle.script_grammar.proofs.zone_lines.put_zone.Goals as goal

pub returns : goal.returns
returns g c =
    puts_zone c.args.zone.now (rw (c.new.ensures, c.from.ensures) at c.put_pieces.ensures)
    (rw (c.entries.ensures.all, c.as_slice.ensures) at c.put_items.ensures)
