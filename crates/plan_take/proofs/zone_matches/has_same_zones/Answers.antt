use Rattle.std.proofs.Common.{◌≡◌, ◌≤◌, slice_get, arith, rules}
use Rattle.plan_take.specs.Matches.{HasNumber}
use Rattle.plan_take.proofs.MatchLaws.{owners_match}
use Rattle.plan_take.proofs.zone_matches.has_same_zones.Goals as goal

pub returns : goal.returns
returns g c t =
    let count = c.zone_count-count.result in
    let as_many : count ≡ c.zone_count.result = search rules in
    let all : count ≤ c.loop-k.k = search rules in
    owners_match (HasNumber c.args.targets.now) (slice_get c.args.from.now c.args.i) (slice_get c.args.to.now c.args.j)
    count c.zone_count.result as_many c.zone_count-count.ensures c.zone_count.ensures
    (c.same_settings.ensures.0 c.if-not-same_settings.false) (λ m lt. c.loop-k.invariant m (omega arith))
