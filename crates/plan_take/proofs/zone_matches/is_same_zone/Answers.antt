use Rattle.plan_take.specs.Matches.{HasNumber}
use Rattle.plan_take.proofs.MatchLaws.{zone_matches}
use Rattle.plan_take.proofs.zone_matches.is_same_zone.Goals as goal

pub returns-then-is_number : goal.returns-then-is_number
returns-then-is_number g c t =
    zone_matches (HasNumber c.args.targets.now) c.args.from.now c.args.to.now c.args.i c.args.j c.args.k c.target.result
    c.target-2.result c.target.ensures c.target-2.ensures (c.same_settings.ensures.0 t)
    (c.is_number.ensures c.if-is_number.true)
