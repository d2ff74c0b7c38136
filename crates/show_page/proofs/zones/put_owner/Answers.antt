use Rattle.std.proofs.Common.{◌≡◌, ap}
use Rattle.base_numbered_lists.proofs.Lists.{slice_get-found}
use Rattle.base_outputs.proofs.OutputLaws.{puts_as, puts_then}
use Rattle.show_page.specs.Zones.{owner_text}
use Rattle.show_page.proofs.zones.put_owner.Goals as goal

pub returns : goal.returns
unfolding owner_text
returns g c =
    let (x, is) = slice_get-found c.args.owners.now c.args.i c.requires in
    let head : c.head.result.now ≡ x.head = (let p = rw is at c.head.ensures in cc p) in
    let own = puts_as _ _ (ap g.H.ShownHead.text head) c.put-2.ensures in
    rw is
    (puts_then _ _ c.put.ensures
    (puts_then _ _ own
    (puts_then _ _ (rw is at c.put_global.ensures) (puts_then _ _ (rw is at c.put_zones.ensures) c.put-3.ensures))))
