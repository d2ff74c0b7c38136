use Rattle.show_page.proofs.ZoneLaws.{puts_zone}
use Rattle.show_page.proofs.zones.put_zone.Goals as goal

pub returns : goal.returns
returns g c =
    puts_zone c.args.owners.now c.args.i c.args.k _ _ _ c.requires c.target.ensures c.entries-entries.ensures.value
    c.mods.ensures c.put.ensures (rw (c.number.ensures, c.from.ensures) at c.put_opened.ensures) c.put_settings.ensures
