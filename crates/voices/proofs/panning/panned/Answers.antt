use Rattle.std.proofs.Common.{◌≡◌, arith, SFits}
use Rattle.std.proofs.lemmas.Int.{ints, to_z-of_z}
use Rattle.std.specs.Int.{w32}
use Rattle.voices.specs.Panning.{side}
use Rattle.voices.proofs.PanningLaws.{side_within}
use Rattle.voices.proofs.panning.panned.Goals as goal

pub returns-clause-low : goal.returns-clause-low
returns-clause-low c =
    let f : SFits w32 c.args.z = c.ranges.z in
    let e : c.share_of.result ≡ side c.args.z c.args.part = simp to_z-of_z at c.share_of.ensures in
    let w = side_within c.args.z c.args.part c.requires.level c.requires.low c.requires.high in
    omega (arith, ints, w.0, w.1)

pub returns-clause-high : goal.returns-clause-high
returns-clause-high c =
    let f : SFits w32 c.args.z = c.ranges.z in
    let e : c.share_of.result ≡ side c.args.z c.args.part = simp to_z-of_z at c.share_of.ensures in
    let w = side_within c.args.z c.args.part c.requires.level c.requires.low c.requires.high in
    omega (arith, ints, w.0, w.1)
