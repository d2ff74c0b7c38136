use Rattle.std.proofs.Common.{◌≡◌, Some}
use Rattle.bank_zone_ranges.specs.Ranges.{low_end, high_end, range_of}
use Rattle.bank_zone_ranges.proofs.Existing.{split_there, split_put}
use Rattle.bank_zone_ranges.proofs.splitting.split_zone.Goals as goal

pub set_gen_and_insert_zone-requires-clause-storable : goal.set_gen_and_insert_zone-requires-clause-storable
set_gen_and_insert_zone-requires-clause-storable g c =
    let owners = c.args.owners.now in
    let t = (split_there c.args.axis c.args.at owners c.args.i c.args.k c.requires.is_splittable).at in
    let w = range_of c.args.axis t.member.global t.zone in
    let lows : Some (low_end w) ≡ Some c.zone_range-range.result.low =
    rw (t.there, t.zone_there) at c.zone_range-range.ensures.low in
    let highs : Some (high_end w) ≡ Some c.zone_range-range.result.high =
    rw (t.there, t.zone_there) at c.zone_range-range.ensures.high in
    let zones : Some t.zone ≡ Some c.in_ok-upper.upper = rw (t.there, t.zone_there) at c.in_ok-upper.ensures in
    let low : c.zone_range-range.result.low ≡ low_end w = cc in
    let high : c.zone_range-range.result.high ≡ high_end w = cc in
    let zone : c.in_ok-upper.upper ≡ t.zone = cc in
    rw (
      c.in_ok-set.ensures.ok,
      c.to_amount-lower.ensures.amount,
      c.to_amount.ensures.amount,
      c.range_operator-operator.ensures,
      low,
      high,
      zone,
      split_put owners c.args.i c.args.k t c.args.axis c.args.at,
    )
    c.requires.storable

pub returns-clause-ok : goal.returns-clause-ok
returns-clause-ok g c =
    let owners = c.args.owners.now in
    let t = (split_there c.args.axis c.args.at owners c.args.i c.args.k c.requires.is_splittable).at in
    let w = range_of c.args.axis t.member.global t.zone in
    let lows : Some (low_end w) ≡ Some c.zone_range-range.result.low =
    rw (t.there, t.zone_there) at c.zone_range-range.ensures.low in
    let highs : Some (high_end w) ≡ Some c.zone_range-range.result.high =
    rw (t.there, t.zone_there) at c.zone_range-range.ensures.high in
    let zones : Some t.zone ≡ Some c.in_ok-upper.upper = rw (t.there, t.zone_there) at c.in_ok-upper.ensures in
    let low : c.zone_range-range.result.low ≡ low_end w = cc in
    let high : c.zone_range-range.result.high ≡ high_end w = cc in
    let zone : c.in_ok-upper.upper ≡ t.zone = cc in
    rw (
      c.in_ok-set_gen_and_insert_zone.ensures.ok,
      c.in_ok-set.ensures.ok,
      c.to_amount-lower.ensures.amount,
      c.to_amount.ensures.amount,
      c.range_operator-operator.ensures,
      low,
      high,
      zone,
    )
    (split_put owners c.args.i c.args.k t c.args.axis c.args.at)
