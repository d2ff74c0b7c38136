use Rattle.std.proofs.Common.{◌≡◌, ◌<◌, ◌/◌, ap, ◌∙◌, length, rules, arith, ℕ, ◌%◌, ◌^◌, ◌*◌}
use Rattle.std.specs.Prelude.{bit_or, slice_index, slice_set}
use Rattle.show_zone_map.specs.Samples.{has_sample}
use Rattle.show_zone_map.proofs.SampleLaws.{sample_inserted}
use Rattle.show_zone_map.proofs.sample_set.SampleSet.insert.Goals as goal

pub returns : goal.returns
returns c s _ =
    let words = c.args.self.now.words in
    let x = c.args.sample in
    let long : length words ≡ 1024 = search rules in
    let small : x < 2 ^ 16 = c.ranges.sample.fits in
    let inside : x / 64 < length words = omega (arith, long, small) in
    ap
    (λ (k : ℕ).
    has_sample (slice_set words k (bit_or (slice_index words k) (1 * 2 ^ (x % 64) % 2 ^ 64))) s)
    c.from.ensures
    ∙ sample_inserted words x inside s
