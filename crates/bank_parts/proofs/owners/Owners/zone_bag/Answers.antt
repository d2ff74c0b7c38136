use Rattle.std.proofs.Common.{◌≤◌, arith}
use Rattle.bank_parts.proofs.ReadLaws.{held}
use Rattle.bank_parts.proofs.MemberLaws.{bags_size}
use Rattle.bank_parts.proofs.ZoneLaws.{zones_there, zone_owner_within, place_fits, place_found}
use Rattle.bank_parts.proofs.owners.Owners.zone_bag.Goals as goal

pub bag_count-count-requires : goal.bag_count-count-requires
bag_count-count-requires g c =
    let size = bags_size (held c.self.invariant c.self.view_is) in
    let within = zone_owner_within c.args.self.now c.args.i (λ n. c.args.k ≤ n) c.requires in
    omega arith

pub global_count-requires : goal.global_count-requires
global_count-requires g c = zone_owner_within c.args.self.now c.args.i (λ n. c.args.k ≤ n) c.requires

pub overflow_add-result : goal.overflow_add-result
overflow_add-result g c =
    let s = zones_there (held c.self.invariant c.self.view_is) c.args.i (λ n. c.args.k ≤ n) c.requires in
    let fits =
    place_fits s c.bag_count-count.result c.global_count.result c.bag_count-count.ensures c.global_count.ensures
    in
    omega arith

pub returns : goal.returns
returns g c =
    place_found (zones_there (held c.self.invariant c.self.view_is) c.args.i (λ n. c.args.k ≤ n) c.requires)
    c.global_count.result c.global_count.ensures
