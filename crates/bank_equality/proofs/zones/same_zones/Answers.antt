use Rattle.std.proofs.Common.{◌≡◌, ◌≤◌, slice_get, refl, arith, rules}
use Rattle.bank_equality.proofs.Lists.{same_borrowed_zones}
use Rattle.bank_equality.proofs.zones.same_zones.Goals as goal

pub returns : goal.returns
returns g c =
    let count = c.zone_count-count.result in
    let as_many : count ≡ c.zone_count.result = search rules in
    let all : count ≤ c.loop-k.k = search rules in
    let zones =
    same_borrowed_zones (slice_get c.args.a.now c.args.i) (slice_get c.args.b.now c.args.j) count c.zone_count.result
    as_many
    c.zone_count-count.ensures c.zone_count.ensures (λ m lt. c.loop-k.invariant m (omega arith)) in
    (λ t. zones, λ e. refl)
