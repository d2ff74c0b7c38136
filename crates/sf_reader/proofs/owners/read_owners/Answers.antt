use Rattle.std.proofs.Common.{◌∙◌, ◌∷◌, sym, ap}
use Rattle.bank_format.specs.Reading.{bags_in}
use Rattle.sf_reader.specs.Owners.{owners_seen, owners_with_counts, windows_of}
use Rattle.sf_reader.proofs.CountLaws.{counts-few}
use Rattle.sf_reader.proofs.OwnerLaws.{none_left, left_next, left_fails, left_small, none_read, all_read, can_end}
use Rattle.sf_reader.proofs.OwnerLaws.{all_ended}
use Rattle.sf_reader.proofs.owners.read_owners.Goals as goal

pub ended-requires : goal.ended-requires
ended-requires g c =
    let l = c.args.level.now in
    let h = g.H.RecordedHead.headers in
    let table = bags_in l.bags l.generators l.modulators in
    can_end h c.args.targets.count c.args.targets.missing table l.heads c.in_ok-read.read
    (none_read h c.args.targets.count c.args.targets.missing table l.heads c.in_ok-read.read
    (sym c.iter-heads.ensures ∙ c.in_default.ensures.steps.0) c.in_ok-read.ensures)

pub returns-in_default : goal.returns-in_default
returns-in_default g c =
    let l = c.args.level.now in
    let h = g.H.RecordedHead.headers in
    let table = bags_in l.bags l.generators l.modulators in
    all_ended h c.args.targets.count c.args.targets.missing table l.heads c.in_ok-read.read
    (none_read h c.args.targets.count c.args.targets.missing table l.heads c.in_ok-read.read
    (sym c.iter-heads.ensures ∙ c.in_default.ensures.steps.0) c.in_ok-read.ensures)
    c.in_ok-ended.field-0 c.in_ok-ended.ensures

pub loop-next-init : goal.loop-next-init
loop-next-init g c =
    let l = c.args.level.now in
    let h = g.H.RecordedHead.headers in (
      tt,
      tt,
      none_left h c.args.targets.count c.args.targets.missing (bags_in l.bags l.generators l.modulators) l.heads
          c.in_ok-read.read c.in-Some.head _
          (sym c.iter-heads.ensures ∙ c.in-Some.ensures.steps
          ∙ ap (λ hs. c.in-Some.head ∷ hs) (sym c.into_iter-next-iterator.ensures.into_iter_gives))
          c.in_ok-read.ensures,
    )

pub read_owner-requires-clause-counts : goal.read_owner-requires-clause-counts
read_owner-requires-clause-counts g c =
    let l = c.args.level.now in
    let h = g.H.RecordedHead.headers in
    let turn = c.in-Some-next.ensures.steps in
    left_small h c.args.targets.count c.args.targets.missing (bags_in l.bags l.generators l.modulators) l.heads
    c.loop-next.read c.loop-next.head c.in-Some-next.next _ (rw turn at c.loop-next.invariant.2)
    (counts-few h.level h.first_bag l.heads l.bags l.generators l.modulators c.requires.heads c.requires.bags
    c.requires.generators)

pub returns-in_err-read_owner : goal.returns-in_err-read_owner
returns-in_err-read_owner g c =
    let l = c.args.level.now in
    let h = g.H.RecordedHead.headers in
    let turn = c.in-Some-next.ensures.steps in
    left_fails h c.args.targets.count c.args.targets.missing (bags_in l.bags l.generators l.modulators) l.heads
    c.loop-next.read c.loop-next.head c.in-Some-next.next _ (rw turn at c.loop-next.invariant.2)
    owners_seen (owners_with_counts h l.heads (windows_of h.first_bag l)) c.from_residual-in_err-read_owner.result
    c.in_err-read_owner.field-0.0 c.from_residual-in_err-read_owner.ensures.1 c.in_err-read_owner.ensures.passes

pub loop-next-preserved : goal.loop-next-preserved
loop-next-preserved g c =
    let l = c.args.level.now in
    let h = g.H.RecordedHead.headers in
    let turn = c.in-Some-next.ensures.steps in (
      tt,
      tt,
      left_next h c.args.targets.count c.args.targets.missing (bags_in l.bags l.generators l.modulators) l.heads
          c.loop-next.read c.loop-next.head c.in-Some-next.next _ (rw turn at c.loop-next.invariant.2)
          c.read_owner.new.read c.in_ok-read_owner.ensures.passes.0 c.in_ok-read_owner.ensures.read,
    )

pub ended-requires-2 : goal.ended-requires-2
ended-requires-2 g c =
    let l = c.args.level.now in
    let h = g.H.RecordedHead.headers in
    let table = bags_in l.bags l.generators l.modulators in
    can_end h c.args.targets.count c.args.targets.missing table l.heads c.loop-next.read
    (all_read h c.args.targets.count c.args.targets.missing table l.heads c.loop-next.read c.loop-next.head
    c.loop-next.next-iterator c.in-None.ensures.steps.0 c.loop-next.invariant.2)

pub returns : goal.returns
returns g c =
    let l = c.args.level.now in
    let h = g.H.RecordedHead.headers in
    let table = bags_in l.bags l.generators l.modulators in
    all_ended h c.args.targets.count c.args.targets.missing table l.heads c.loop-next.read
    (all_read h c.args.targets.count c.args.targets.missing table l.heads c.loop-next.read c.loop-next.head
    c.loop-next.next-iterator c.in-None.ensures.steps.0 c.loop-next.invariant.2)
    c.in_ok-ended-2.field-0 c.in_ok-ended-2.ensures
