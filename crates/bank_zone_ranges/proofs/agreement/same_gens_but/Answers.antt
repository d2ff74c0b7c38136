use Rattle.bank_zone_ranges.proofs.Existing.{zone_is_there, beside, agrees_at, both_agree, one_agrees}
use Rattle.bank_zone_ranges.proofs.agreement.same_gens_but.Goals as goal

pub returns-then-agree_but : goal.returns-then-agree_but
returns-then-agree_but g c =
    let owners = c.args.owners.now in
    let t = zone_is_there owners c.args.i c.args.first c.requires.first in
    let (z, e) = beside owners c.args.i c.args.first t c.args.second c.requires.second in
    let forth =
    agrees_at owners c.args.i c.args.first t c.args.first c.args.second c.args.operator t.zone z
    c.entries-of_second.result.now c.agree_but.result t.zone_there e c.entries-of_second.ensures.value
    c.agree_but.ensures in
    let back =
    agrees_at owners c.args.i c.args.first t c.args.second c.args.first c.args.operator z t.zone
    c.entries-of_first.result.now c.agree_but-then-agree_but.result e t.zone_there
    c.entries-of_first.ensures.value c.agree_but-then-agree_but.ensures in
    rw (t.there, t.zone_there, e)
    (both_agree t.zone.gens z.gens c.args.operator c.agree_but.result c.agree_but-then-agree_but.result
    c.if-agree_but.true forth back)

pub returns-else-agree_but : goal.returns-else-agree_but
returns-else-agree_but g c =
    let owners = c.args.owners.now in
    let t = zone_is_there owners c.args.i c.args.first c.requires.first in
    let (z, e) = beside owners c.args.i c.args.first t c.args.second c.requires.second in
    let forth =
    agrees_at owners c.args.i c.args.first t c.args.first c.args.second c.args.operator t.zone z
    c.entries-of_second.result.now c.agree_but.result t.zone_there e c.entries-of_second.ensures.value
    c.agree_but.ensures in
    rw (c.if-agree_but.false, t.there, t.zone_there, e)
    (one_agrees t.zone.gens z.gens c.args.operator c.agree_but.result c.if-agree_but.false forth)
