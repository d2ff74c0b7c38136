-- The bytes of a slice.
use Rattle.std.proofs.Common.{◌<◌, ℕ, List, get_or, Fits, w8, arith}
use Rattle.std.proofs.lemmas.List.{get_or_default}
use Rattle.hydra_records.specs.Records.{AreBytes}

-- the elements of a slice of `u8` are bytes
pub are_bytes : (xs : List ℕ) → ((i : ℕ) → Fits w8 (get_or xs i 0)) → AreBytes xs
are_bytes xs fits =
    λ k d lt. let here =
    fits k in let small : get_or xs k 0 < 256 = omega (arith, here) in rw (get_or_default xs k d 0 lt) small
