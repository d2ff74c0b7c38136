use Rattle.std.proofs.Common.{arith}
use Rattle.bank_parts.proofs.ReadLaws.{held}
use Rattle.bank_parts.proofs.MemberLaws.{bags_size}
use Rattle.bank_parts.proofs.PlaceLaws.{owner_there, zones_counted, zones_fewer}
use Rattle.bank_parts.proofs.owners.Owners.zone_count.Goals as goal

pub bag_count-count-requires : goal.bag_count-count-requires
bag_count-count-requires g c =
    let size = bags_size (held c.self.invariant c.self.view_is) in let within = c.requires in omega arith

pub overflow_sub-result : goal.overflow_sub-result
overflow_sub-result g c =
    zones_fewer (owner_there (held c.self.invariant c.self.view_is) c.args.i c.requires) c.bag_count-count.result
    c.global_count.result c.bag_count-count.ensures c.global_count.ensures

pub returns : goal.returns
returns g c =
    zones_counted (owner_there (held c.self.invariant c.self.view_is) c.args.i c.requires) c.bag_count-count.result
    c.global_count.result c.bag_count-count.ensures c.global_count.ensures
