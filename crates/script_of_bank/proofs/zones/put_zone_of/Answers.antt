use Rattle.script_of_bank.proofs.ZoneLaws.{puts_zone_of}
use Rattle.script_of_bank.proofs.zones.put_zone_of.Goals as goal

pub returns : goal.returns
returns g c =
    puts_zone_of c.args.owners.now c.args.i c.args.k _ _ _ c.requires c.target.ensures
    c.entries-entries.ensures.value c.mods.ensures (rw (c.new.ensures, c.from.ensures) at c.put_pieces.ensures)
    c.put_items.ensures
