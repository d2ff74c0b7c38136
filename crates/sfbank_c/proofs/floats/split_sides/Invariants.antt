use Rattle.std.proofs.Common.{◌≡◌, ℕ, ◌+◌, ◌*◌, ◌<◌, get_or, pos}
use Rattle.std.specs.Float.{float_zero}
use Rattle.sfbank_c.specs.Floats.{scaled}
use Rattle.sfbank_c.proofs.floats.split_sides.Given as goal

abbrev pub invariant-loop-k : goal.invariant-loop-k
invariant-loop-k l =
    (i : ℕ) → i < l.k
    → (get_or l.left i float_zero ≡ scaled (get_or l.values (2 * i) (pos 0)))
    × (get_or l.right i float_zero ≡ scaled (get_or l.values (2 * i + 1) (pos 0)))
