use Rattle.std.proofs.Common.{slice_get, subst, arith}
use Rattle.bank_parts.specs.Owners.{HasPlace}
use Rattle.bank_parts.proofs.PlaceLaws.{global_numbered, no_global_numbered, zone_numbered}
use Rattle.bank_parts.proofs.ZoneLaws.{at_most}
use Rattle.bank_parts.proofs.owners.Owners.place_bag.Goals as goal

pub zone_bag-requires : goal.zone_bag-requires
zone_bag-requires g c =
    at_most c.args.self.now c.args.i c.in-Zone.k (subst (HasPlace c.args.self.now c.args.i) c.in-Zone.is c.requires)

pub returns-then-global_count-eq0 : goal.returns-then-global_count-eq0
returns-then-global_count-eq0 g c =
    no_global_numbered (slice_get c.args.self.now c.args.i) c.global_count.result c.args.place c.in-Global.is
    c.global_count.ensures c.if-global_count-eq0.true

pub returns-else-global_count-eq0 : goal.returns-else-global_count-eq0
returns-else-global_count-eq0 g c =
    global_numbered (slice_get c.args.self.now c.args.i) c.global_count.result c.args.place c.in-Global.is
    c.global_count.ensures (omega arith)

pub returns-in-Zone : goal.returns-in-Zone
returns-in-Zone g c =
    zone_numbered (slice_get c.args.self.now c.args.i) c.zone_bag.result c.args.place c.in-Zone.k c.in-Zone.is
    c.zone_bag.ensures
