use Rattle.std.proofs.Common.{if◌then◌else◌, sym, ◌∙◌, ap, arith}
use Rattle.bank_parts.specs.Bagged.{ends_in}
use Rattle.bank_parts.proofs.ReadLaws.{held}
use Rattle.bank_parts.proofs.MemberLaws.{bags_size}
use Rattle.bank_parts.proofs.PlaceLaws.{owner_there, no_bags, bag_is_there, first_bag}
use Rattle.bank_parts.proofs.owners.Owners.global_count.Goals as goal

pub bag_count-count-requires : goal.bag_count-count-requires
bag_count-count-requires g c =
    let size = bags_size (held c.self.invariant c.self.view_is) in let within = c.requires in omega arith

pub returns-then-count-eq0 : goal.returns-then-count-eq0
returns-then-count-eq0 g c =
    no_bags (owner_there (held c.self.invariant c.self.view_is) c.args.i c.requires) c.bag_count-count.result
    c.bag_count-count.ensures c.if-count-eq0.true

pub gens-first-requires : goal.gens-first-requires
gens-first-requires g c =
    bag_is_there (owner_there (held c.self.invariant c.self.view_is) c.args.i c.requires) c.bag_count-count.result 0
    c.bag_count-count.ensures (omega arith)

pub returns-then-ends_in : goal.returns-then-ends_in
returns-then-ends_in g c =
    let o = owner_there (held c.self.invariant c.self.view_is) c.args.i c.requires in
    first_bag o c.gens-first.result.now c.ends_in.result 0
    (bag_is_there o c.bag_count-count.result 0 c.bag_count-count.ensures (omega arith))
    c.gens-first.ensures (c.ends_in.ensures ∙ ap (λ op. ends_in op c.gens-first.result.now) c.operator.ensures)
    (ap (λ b. if b then 0 else 1) (sym c.if-ends_in.true))

pub returns : goal.returns
returns g c =
    let o = owner_there (held c.self.invariant c.self.view_is) c.args.i c.requires in
    first_bag o c.gens-first.result.now c.ends_in.result 1
    (bag_is_there o c.bag_count-count.result 0 c.bag_count-count.ensures (omega arith))
    c.gens-first.ensures (c.ends_in.ensures ∙ ap (λ op. ends_in op c.gens-first.result.now) c.operator.ensures)
    (ap (λ b. if b then 0 else 1) (sym c.if-ends_in.false))
