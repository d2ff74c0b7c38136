use Rattle.show_page.proofs.ZoneLaws.{puts_global}
use Rattle.show_page.proofs.zones.put_global.Goals as goal

pub returns : goal.returns
returns g c =
    puts_global c.args.owners.now c.args.i _ _ c.requires c.entries.ensures.value c.mods.ensures c.put.ensures
    c.put_settings.ensures
