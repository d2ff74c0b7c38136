use Rattle.std.proofs.Common.{◌≡◌, arith, ◌∙◌, SFits}
use Rattle.std.proofs.lemmas.Int.{ints}
use Rattle.std.specs.Int.{w16}
use Rattle.voices.proofs.FineLaws.{computed, fine_is}
use Rattle.voices.proofs.panning.finely_panned.Goals as goal

pub overflow_add-result : goal.overflow_add-result
overflow_add-result c =
    let fz : SFits w16 c.args.z = c.ranges.z in
    let fh : SFits w16 c.args.fine.high = omega (arith, ints, c.requires.high.0, c.requires.high.1) in
    let fl : SFits w16 c.args.fine.low = omega (arith, ints, c.requires.low.0, c.requires.low.1) in
    let a : c.from-frame.result ≡ c.args.z = omega (arith, ints) in
    let b : c.from-2.result ≡ c.args.fine.high = omega (arith, ints) in
    let d : c.from.result ≡ c.args.fine.low = omega (arith, ints) in
    (computed c.args.z c.args.fine.high c.args.fine.low c.from-frame.result c.from-2.result c.from.result fz fh fl a
    b d).fits

pub returns : goal.returns
returns c part most eh el =
    let fz : SFits w16 c.args.z = c.ranges.z in
    let fh : SFits w16 c.args.fine.high = omega (arith, ints, c.requires.high.0, c.requires.high.1) in
    let fl : SFits w16 c.args.fine.low = omega (arith, ints, c.requires.low.0, c.requires.low.1) in
    let a : c.from-frame.result ≡ c.args.z = omega (arith, ints) in
    let b : c.from-2.result ≡ c.args.fine.high = omega (arith, ints) in
    let d : c.from.result ≡ c.args.fine.low = omega (arith, ints) in
    (computed c.args.z c.args.fine.high c.args.fine.low c.from-frame.result c.from-2.result c.from.result fz fh fl a
    b d).value
    ∙ fine_is c.args.z c.args.fine.high c.args.fine.low part most fz eh el
