use Rattle.std.proofs.Common.{◌+◌, ◌*◌, ◌%◌, arith, ap, ◌∙◌}
use Rattle.voices.specs.Runs.{interpolated_pair}
use Rattle.voices.proofs.SliceLaws.{pair_straight}
use Rattle.voices.proofs.slices.read_straight.Goals as goal

pub returns : goal.returns
returns c i h =
    let position = c.args.x + i * c.args.phase_increment in
    ap (λ y. interpolated_pair y (position % 65536)) (c.read_pairs.ensures i h)
    ∙ pair_straight c.args.bytes.now position (λ j. let f = (c.type_inv.bytes j).fits in omega (arith, f))
    (c.requires.ends i (omega (arith, h, c.read_pairs.auto.pairs)))
