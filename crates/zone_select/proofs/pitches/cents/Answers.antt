use Rattle.std.proofs.Common.{◌≡◌, ℤ, ◌-ℤ◌, ◌*ℤ◌, pos, SFits, to_z, of_z, refl, ap, ◌∙◌, rules, arith}
use Rattle.std.specs.Int.{w8, w32}
use Rattle.std.proofs.lemmas.Int.{ints, to_z-of_z}
use Rattle.zone_select.proofs.LinearLaws.{cents_is}
use Rattle.zone_select.specs.ZoneSettings.{settings_of}
use Rattle.zone_select.proofs.pitches.cents.Goals as goal

pub overflow_add-result : goal.overflow_add-result
overflow_add-result c =
    let i = c.interval.ensures.within in
    let a = c.amount-2.ensures.within in
    omega (arith, ints, i.0, i.1, a.0, a.1)

pub overflow_add-result-2 : goal.overflow_add-result-2
overflow_add-result-2 c =
    let i = c.interval.ensures.within in
    let a = c.amount-2.ensures.within in
    let m = c.moved.ensures.within in
    omega (arith, ints, i.0, i.1, a.0, a.1, m.0, m.1)

pub overflow_add-result-3 : goal.overflow_add-result-3
overflow_add-result-3 c =
    let i = c.interval.ensures.within in
    let a = c.amount-2.ensures.within in
    let m = c.moved.ensures.within in
    let s : SFits w8 c.args.sample.now.correction = search rules in
    let e = c.from.ensures in
    omega (arith, ints, i.0, i.1, a.0, a.1, m.0, m.1, s, e)

pub returns : goal.returns
returns c =
    let v = (settings_of c.args.zones.now.instrument) in
    let u = (settings_of c.args.zones.now.preset) in
    let i = c.interval.ensures.within in
    let a = c.amount-2.ensures.within in
    let m = c.moved.ensures.within in
    let s : SFits w8 c.args.sample.now.correction = search rules in
    let e = c.from.ensures in
    let f : SFits w32 c.amount.result = search rules in
    let product : c.interval.result
    ≡ to_z w32 (of_z w32 c.amount.result) *ℤ (pos c.key-key.result -ℤ pos c.root-root.result) =
    c.interval.ensures.value in
    let scaled : c.interval.result ≡ c.amount.result *ℤ (pos c.key-key.result -ℤ pos c.root-root.result) =
    product
    ∙ ap (λ (z : ℤ). z *ℤ (pos c.key-key.result -ℤ pos c.root-root.result)) (to_z-of_z w32 c.amount.result f)
    in
    let is =
    cents_is c.args.note.now v u c.args.sample.now c.key-key.result c.root-root.result
    (pos c.key-key.result -ℤ pos c.root-root.result)
    c.amount.result c.interval.result c.amount-2.result c.moved.result
    c.key-key.ensures.value c.root-root.ensures.value refl c.amount.ensures.value scaled c.amount-2.ensures.value
    c.moved.ensures.value in
    omega (arith, ints, i.0, i.1, a.0, a.1, m.0, m.1, s, e, is)
