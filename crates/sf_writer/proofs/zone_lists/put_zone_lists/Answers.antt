use Rattle.std.proofs.Common.{◌∙◌, ap}
use Rattle.base_outputs.proofs.OutputLaws.{puts_as, puts_row, puts_then}
use Rattle.sf_writer.specs.Lists.{bag_id, mod_id, gen_id}
use Rattle.sf_writer.proofs.ChunkLaws.{put_even}
use Rattle.sf_writer.proofs.FlatLaws.{bags-borrowed, mods-borrowed, gens-borrowed}
use Rattle.sf_writer.proofs.ZoneListLaws.{bags-even, mods-even, gens-even, zone_lists-is}
use Rattle.sf_writer.proofs.zone_lists.put_zone_lists.Goals as goal

pub returns : goal.returns
returns g c =
    let at = g.H.OwnerHead.LEVEL in
    let owners = c.args.owners.now in
    let bags =
    put_even _ _ _ _ (c.bag_id.ensures.value ∙ ap bag_id c.LEVEL.ensures) (bags-even _) c.requires.bags
    c.head.ensures (puts_as _ _ (bags-borrowed at owners _ c.bag_records.ensures) c.put_bag_records.ensures)
    in
    let mods =
    put_even _ _ _ _ (c.mod_id.ensures.value ∙ ap mod_id c.LEVEL-2.ensures) (mods-even _) c.requires.mods
    c.head-2.ensures
    (puts_as _ _ (mods-borrowed at owners _ c.mod_records.ensures) c.put_mod_records.ensures) in
    let gens =
    put_even _ _ _ _ (c.gen_id.ensures.value ∙ ap gen_id c.LEVEL-3.ensures) (gens-even _) c.requires.gens
    c.head-3.ensures
    (puts_as _ _ (gens-borrowed at owners _ c.gen_records.ensures) c.put_gen_records.ensures) in
    puts_row _ _ _ (zone_lists-is _ _) bags (puts_then _ _ mods gens)
