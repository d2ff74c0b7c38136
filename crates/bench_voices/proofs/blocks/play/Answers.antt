use Rattle.std.proofs.Common.{◌≡◌, ◌*◌, ◌≤◌, pos, arith, get_or, length, take, sym, subst}
use Rattle.std.proofs.lemmas.Grind.{common_steps}
use Rattle.voices.specs.Within.{IsWithin}
use Rattle.bench_voices.proofs.blocks.play.Goals as goal

pub add_blocks-requires-clause-silent : goal.add_blocks-requires-clause-silent
add_blocks-requires-clause-silent c k h =
    let xs = c.silence-sums.result in
    let long : length (take (2 * c.args.block) xs) ≤ length xs = grind (arith, common_steps) in
    let same : get_or (take (2 * c.args.block) xs) k (pos 0) ≡ get_or xs k (pos 0) = grind (arith, common_steps, h) in
    subst (IsWithin 0) (sym same) (c.silence-sums.ensures.room k (omega (arith, h, long)))
