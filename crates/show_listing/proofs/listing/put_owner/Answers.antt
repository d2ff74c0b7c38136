use Rattle.std.proofs.Common.{◌≡◌, length, ap, ◌∙◌}
use Rattle.base_numbered_lists.proofs.Lists.{slice_get-found}
use Rattle.base_outputs.proofs.OutputLaws.{puts_as, puts_then}
use Rattle.show_listing.proofs.listing.put_owner.Goals as goal

pub returns : goal.returns
returns g c =
    let line = g.H.ListedHead.line in
    let (x, is) = slice_get-found c.args.owners.now c.args.i c.requires in
    let head : c.head.result.now ≡ x.head = (let p = rw is at c.head.ensures in cc p) in
    let count : c.zone_count-zone_count.result ≡ length x.zones =
    (let p = rw is at c.zone_count-zone_count.ensures in cc p) in
    let first =
    puts_as _ _ (ap (λ h. line c.args.i h c.zone_count-zone_count.result) head ∙ ap (line c.args.i x.head) count)
    c.put.ensures in
    let uses = rw c.word.ensures at c.put_uses.ensures in
    rw is (puts_then _ _ first (puts_then _ _ uses (rw is at c.put_zones.ensures)))
