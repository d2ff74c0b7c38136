use Rattle.std.proofs.Common.{◌≡◌, ◌↔◌, IsTrue, Some}
use Rattle.std.specs.FinMap.{remove}
use Rattle.bank_zone_ranges.specs.Ranges.{range_operator}
use Rattle.bank_zone_ranges.proofs.Existing.{zone_is_there, beside, not_alike, are_alike_by_mods}
use Rattle.bank_zone_ranges.proofs.agreement.agree_but_range.Goals as goal

pub returns-then-not-same_gens_but : goal.returns-then-not-same_gens_but
returns-then-not-same_gens_but g c =
    let owners = c.args.owners.now in
    let t = zone_is_there owners c.args.i c.args.first c.requires.first in
    let (z, e) = beside owners c.args.i c.args.first t c.args.second c.requires.second in
    let same : IsTrue c.same_gens_but.result ↔
    (remove t.zone.gens (range_operator c.args.axis) ≡ remove z.gens (range_operator c.args.axis)) =
    rw (t.there, t.zone_there, e, c.range_operator.ensures) at c.same_gens_but.ensures in
    rw (t.there, t.zone_there, e) (not_alike c.args.axis t.zone z c.same_gens_but.result c.if-not-same_gens_but.true same)

pub returns : goal.returns
returns g c =
    let owners = c.args.owners.now in
    let t = zone_is_there owners c.args.i c.args.first c.requires.first in
    let (z, e) = beside owners c.args.i c.args.first t c.args.second c.requires.second in
    let same : IsTrue c.same_gens_but.result ↔
    (remove t.zone.gens (range_operator c.args.axis) ≡ remove z.gens (range_operator c.args.axis)) =
    rw (t.there, t.zone_there, e, c.range_operator.ensures) at c.same_gens_but.ensures in
    let one : Some t.zone.target ≡ Some c.target.result = rw (t.there, t.zone_there) at c.target.ensures in
    let two : Some z.target ≡ Some c.target-2.result = rw (t.there, e) at c.target-2.ensures in
    let equal = c.if-target.false in
    let target : t.zone.target ≡ z.target = cc in
    let first : Some t.zone.mods ≡ Some c.mods.result.now = rw (t.there, t.zone_there) at c.mods.ensures in
    let second : Some z.mods ≡ Some c.mods-2.result.now = rw (t.there, e) at c.mods-2.ensures in
    let m : c.mods.result.now ≡ t.zone.mods = cc in
    let n : c.mods-2.result.now ≡ z.mods = cc in
    let mods : IsTrue c.are_same.result ↔ (t.zone.mods ≡ z.mods) = rw (m, n) at c.are_same.ensures in
    rw (t.there, t.zone_there, e)
    (are_alike_by_mods c.args.axis t.zone z c.same_gens_but.result c.are_same.result target c.if-not-same_gens_but.false
    same mods)
