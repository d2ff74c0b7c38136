use Rattle.std.proofs.Common.{◌≡◌, slice_get, take, sym, subst, add-one}
use Rattle.std.specs.Option.{IfSome}
use Rattle.bank_parts.specs.Settings.{zones_at}
use Rattle.bank_parts.proofs.CopyLaws.{no_zones, place_within, next_copied, all_copied}
use Rattle.commented_scripts.proofs.copies.copy_zones.Goals as goal

pub loop-k-init : goal.loop-k-init
loop-k-init g c = rw c.in_ok-zones.ensures.items (no_zones (zones_at c.args.owners.now c.args.i))

pub copy_zone-requires : goal.copy_zone-requires
copy_zone-requires g c =
    place_within (slice_get c.args.owners.now c.args.i) c.zone_count-count.result c.loop-k.k c.zone_count-count.ensures
    c.loop-k-test.true

pub loop-k-preserved : goal.loop-k-preserved
loop-k-preserved g c =
    let more =
    next_copied (slice_get c.args.owners.now c.args.i) c.loop-k.k c.loop-k.zones.items c.in_ok-copy_zone.field-0
    c.loop-k.invariant c.in_ok-copy_zone.ensures in
    rw (add-one, c.in_ok-push.ensures.items) more

pub returns : goal.returns
returns g c =
    all_copied (slice_get c.args.owners.now c.args.i) c.zone_count-count.result c.loop-k.k c.from_vec.result
    c.zone_count-count.ensures c.loop-k-test.false
    (subst (λ zones. IfSome (zones_at c.args.owners.now c.args.i) (λ all. zones ≡ take c.loop-k.k all))
    (sym c.from_vec.ensures) c.loop-k.invariant)
