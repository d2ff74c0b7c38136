use Rattle.plan_take.specs.Matches.{HasNumber}
use Rattle.plan_take.specs.Shifted.{bank_shifted}
use Rattle.plan_take.proofs.JoinLaws.{joined_owners}
use Rattle.plan_take.proofs.joined_owners.are_joined_presets.Goals as goal

pub returns-then-have_added_zones : goal.returns-then-have_added_zones
returns-then-have_added_zones c t =
    joined_owners (bank_shifted c.args.shift) c.args.by (HasNumber c.args.targets.now)
    (λ i j h. c.are_counted.ensures c.if-not-are_counted.false i j h) c.args.first.now c.args.added.now
    c.args.all.now c.len-count.result c.len-count.ensures
    (c.begins_with.ensures.count c.if-not-begins_with.false) (c.begins_with.ensures.first c.if-not-begins_with.false)
    (c.have_added_zones.ensures c.if-have_added_zones.true) (c.have_added_heads.ensures t)
