use Rattle.std.proofs.Common.{◌≡◌, ℕ, ◌<◌, List, length, slice_index_or, set, ap, ◌∙◌, arith}
use Rattle.std.proofs.lemmas.Grind.{common_steps}
use Rattle.std.proofs.lemmas.List.Edits.{map_over_more}
use Rattle.live_lines.specs.Comments.{visible}
use Rattle.live_lines.proofs.comment.make_visible.Goals as goal

same_item : (xs : List ℕ) (i : ℕ) → i < length xs → slice_index_or xs i 0 ≡ slice_index_or xs i (slice_index_or xs i 0)
same_item xs i h = grind (arith, common_steps, h)

pub loop-byte-preserved : goal.loop-byte-preserved
loop-byte-preserved c =
    let bytes : List ℕ = c.loop-byte.bytes in
    let within : c.loop-byte.byte-index < length bytes =
    (let long = c.loop-byte.auto.bytes in let here = c.loop-byte-test.true in omega (arith, long, here)) in
    ap (set bytes c.loop-byte.byte-index) c.show.ensures
    ∙ map_over_more visible c.args.bytes.now bytes c.loop-byte.byte-index
    (slice_index_or bytes c.loop-byte.byte-index 0) c.loop-byte-test.true c.loop-byte.invariant
    (same_item bytes c.loop-byte.byte-index within)
