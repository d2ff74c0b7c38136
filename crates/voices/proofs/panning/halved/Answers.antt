use Rattle.std.proofs.Common.{◌≡◌, arith, ap, ◌∙◌, SFits, to_z, of_z}
use Rattle.std.proofs.lemmas.Int.{ints, to_z-of_z}
use Rattle.std.specs.Int.{w32}
use Rattle.std.specs.Int.Signed.{shr_z}
use Rattle.voices.specs.Panning.{side}
use Rattle.voices.proofs.PanningLaws.{half_side, side_within}
use Rattle.voices.proofs.panning.halved.Goals as goal

pub returns-clause-value : goal.returns-clause-value
returns-clause-value c =
    let f : SFits w32 c.args.z = c.ranges.z in
    let e : shr_z (to_z w32 (of_z w32 c.args.z)) 2 ≡ side c.args.z 500 =
    ap (λ z. shr_z z 2) (to_z-of_z w32 c.args.z f) ∙ half_side c.args.z in
    let w = side_within c.args.z 500 (omega arith) c.requires.low c.requires.high in
    omega (arith, ints, e, w.0, w.1)
