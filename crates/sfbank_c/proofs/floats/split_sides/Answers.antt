use Rattle.std.proofs.Common.{◌≡◌, ◌≢◌, ◌<◌, ◌+◌, ◌*◌, pos, rules, length, arith, get_or, get_or-set_other, get_or-set_same, below_more}
use Rattle.sfbank_c.specs.Floats.{scaled}
use Rattle.sfbank_c.proofs.floats.split_sides.Goals as goal

pub loop-k-preserved : goal.loop-k-preserved
loop-k-preserved c =
    let e : c.scaled.result ≡ scaled (get_or c.args.values.now (2 * c.loop-k.k) (pos 0)) = search rules in
    let f : c.scaled-in-loop-k.result ≡ scaled (get_or c.args.values.now (2 * c.loop-k.k + 1) (pos 0)) = search rules in
    below_more _ _
    (λ i h.
    let ne : i ≢ c.loop-k.k = omega arith in
    (rw get_or-set_other (c.loop-k.invariant i h).0, rw get_or-set_other (c.loop-k.invariant i h).1))
    (let lt : c.loop-k.k < length c.loop-k.left = omega arith in
    let less : c.loop-k.k < length c.loop-k.right = omega arith in
    (rw get_or-set_same e, rw get_or-set_same f))
