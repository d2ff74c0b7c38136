use Rattle.std.proofs.Common.{length, ◌-◌, ◌≡◌, ◌∙◌, None, refl, ap, sym, subst}
use Rattle.bank_format.specs.FaultChecks.{first_fault, Fails}
use Rattle.sf_reader.specs.declared.zones.ZoneCounts.{ZoneCounts}
use Rattle.sf_reader.specs.Bags.{counts_read, own_bags, checks_of_bags}
use Rattle.sf_reader.specs.Records.{Appends}
use Rattle.sf_reader.specs.Owners.{AreSmall, added, window_of}
use Rattle.sf_reader.proofs.CheckLaws.{given_by}
use Rattle.sf_reader.proofs.OwnerLaws.{between_as, pushed_as}
use Rattle.sf_reader.proofs.owners.read_owner.Goals as goal

pub returns-in_err-counts-clause-passes : goal.returns-in_err-counts-clause-passes
returns-in_err-counts-clause-passes g c =
    let l = c.args.level.now in
    let h = g.H.RecordedHead.headers in
    let n = c.args.targets.count in
    let missing = c.args.targets.missing in
    let e = c.in_err-counts.field-0.0 in
    given_by (λ u. u) tt c.from_residual.result e
    (checks_of_bags h.level n missing (window_of h.first_bag l c.args.head.now c.args.next.now))
    c.from_residual.ensures.1
    (between_as (λ at bags. Fails e (first_fault (checks_of_bags at n missing bags))) h.first_bag l c.args.head.now c.args.next.now h.level c.LEVEL.result c.part-bags.result c.first_bag.result c.first_bag-2.result
    (c.LEVEL.ensures ∙ sym g.met.H.RecordedHead.same_level) c.part-bags.ensures c.first_bag.ensures
    c.first_bag-2.ensures c.in_err-counts.ensures.passes)

pub add-read-requires : goal.add-read-requires
add-read-requires g c =
    let l = c.args.level.now in
    let h = g.H.RecordedHead.headers in
    let counts =
    between_as (λ at bags. c.in_ok-counts.counts ≡ counts_read at bags) h.first_bag l c.args.head.now
    c.args.next.now h.level c.LEVEL.result c.part-bags.result c.first_bag.result c.first_bag-2.result
    (c.LEVEL.ensures ∙ sym g.met.H.RecordedHead.same_level) c.part-bags.ensures c.first_bag.ensures
    c.first_bag-2.ensures c.in_ok-counts.ensures.passes.1 in
    subst (λ (d : ZoneCounts). AreSmall (added c.args.read.now.counts d)) (sym counts) c.requires.counts

pub returns-clause-passes : goal.returns-clause-passes
returns-clause-passes g c =
    let l = c.args.level.now in
    let h = g.H.RecordedHead.headers in
    let n = c.args.targets.count in
    let missing = c.args.targets.missing in (
      between_as (λ at bags. first_fault (checks_of_bags at n missing bags) ≡ None) h.first_bag l c.args.head.now
          c.args.next.now h.level c.LEVEL.result c.part-bags.result c.first_bag.result c.first_bag-2.result
          (c.LEVEL.ensures ∙ sym g.met.H.RecordedHead.same_level) c.part-bags.ensures c.first_bag.ensures
          c.first_bag-2.ensures c.in_ok-counts.ensures.passes.0,
      refl,
    )

pub returns-clause-read : goal.returns-clause-read
returns-clause-read g c =
    let l = c.args.level.now in
    let h = g.H.RecordedHead.headers in
    let counts =
    between_as (λ at bags. c.in_ok-counts.counts ≡ counts_read at bags) h.first_bag l c.args.head.now
    c.args.next.now h.level c.LEVEL.result c.part-bags.result c.first_bag.result c.first_bag-2.result
    (c.LEVEL.ensures ∙ sym g.met.H.RecordedHead.same_level) c.part-bags.ensures c.first_bag.ensures
    c.first_bag-2.ensures c.in_ok-counts.ensures.passes.1 in
    record {
      heads_grow =
          pushed_as c.args.read.now.heads.items c.push.new.self.items c.of_record.result (h.read c.args.head.now)
          c.in_ok-push.ensures.items c.of_record.ensures;
      first_bags_grow =
          pushed_as c.args.read.now.first_bags.items c.push-2.new.self.items c.in_ok-past.past
          (length c.read_bags.new.records.bags.items - 1) c.in_ok-push-2.ensures.items c.in_ok-past.ensures;
      records_grow =
          between_as (λ at bags. Appends c.args.read.now.records c.read_bags.new.records (own_bags at bags)) h.first_bag
          l c.args.head.now c.args.next.now h.level c.LEVEL.result c.part-bags.result c.first_bag.result
          c.first_bag-2.result
          (c.LEVEL.ensures ∙ sym g.met.H.RecordedHead.same_level) c.part-bags.ensures c.first_bag.ensures
          c.first_bag-2.ensures c.in_ok-counts.ensures.records;
      counts_grow = c.add-read.ensures ∙ ap (added c.args.read.now.counts) counts;
    }
