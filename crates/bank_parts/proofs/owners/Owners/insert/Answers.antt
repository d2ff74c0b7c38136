use Rattle.std.proofs.Common.{length, ap, sym, subst, arith}
use Rattle.bank_parts.specs.Counts.{records_of_owner}
use Rattle.bank_parts.specs.Bagged.{bags_of, IsPlainOwner}
use Rattle.bank_parts.proofs.ReadLaws.{read, are_read, held}
use Rattle.bank_parts.proofs.MemberLaws.{heads_size, bags_size}
use Rattle.bank_parts.proofs.OwnerLaws.{room_counted, owner_put, last_within}
use Rattle.bank_parts.proofs.StorableLaws.{owner_held, owner_in}
use Rattle.bank_parts.proofs.owners.Owners.insert.Goals as goal

pub insert-requires : goal.insert-requires
insert-requires g c =
    let size = heads_size (held c.self.invariant c.self.view_is) in let within = c.requires.place in omega arith

pub make_room-requires : goal.make_room-requires
make_room-requires g c =
    owner_held (held c.self.invariant c.self.view_is) c.args.i c.args.owner c.records.result c.records.ensures
    c.requires.storable

pub append_owner-requires : goal.append_owner-requires
append_owner-requires g c = record {
  room =
      room_counted c.make_room.new.bags (records_of_owner c.args.owner) c.records.result c.records.ensures
      c.in-Ok.ensures.room;
  owners = c.in-Ok.ensures.room_for_owners;
}

pub move_owner-requires : goal.move_owner-requires
move_owner-requires g c =
    let last =
    last_within c.make_room.new.bags.owners c.append_owner.new.bags.owners
    (bags_of c.operator-operator.result c.args.owner) c.owner_count-last.result c.owner_count-last.ensures
    c.append_owner.ensures in
    let size = bags_size (held c.self.invariant c.self.view_is) in
    let kept = ap length c.make_room.ensures.kept in
    let count = c.owner_count-last.ensures in
    let within = c.requires.place in
    record { from = last; to = omega arith }

pub invariant_of-self-2 : goal.invariant_of-self-2
invariant_of-self-2 g c =
    let a = held c.self.invariant c.self.view_is in
    let plain = subst (λ op. IsPlainOwner op c.args.owner) (sym c.operator-operator.ensures)
    (owner_in c.args.self.now c.args.i c.args.owner c.requires.storable) in
    are_read (owner_put a c.args.i c.owner_count-last.result c.args.owner c.insert.new.self
    c.append_owner.new.bags.owners c.move_owner.new.self.owners
    c.operator-operator.ensures plain c.in-Ok-insert.ensures.ok c.make_room.ensures.kept c.owner_count-last.ensures c.append_owner.ensures c.move_owner.ensures.owners)

pub returns-clause-ok : goal.returns-clause-ok
returns-clause-ok g c =
    let a = held c.self.invariant c.self.view_is in
    let plain = subst (λ op. IsPlainOwner op c.args.owner) (sym c.operator-operator.ensures)
    (owner_in c.args.self.now c.args.i c.args.owner c.requires.storable) in
    read (owner_put a c.args.i c.owner_count-last.result c.args.owner c.insert.new.self
    c.append_owner.new.bags.owners c.move_owner.new.self.owners
    c.operator-operator.ensures plain c.in-Ok-insert.ensures.ok c.make_room.ensures.kept c.owner_count-last.ensures c.append_owner.ensures c.move_owner.ensures.owners)
