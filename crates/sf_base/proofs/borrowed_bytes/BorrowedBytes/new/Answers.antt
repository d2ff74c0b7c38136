use Rattle.std.proofs.Common.{ℕ, ◌<◌, Fits, w8, List, get_or, arith}
use Rattle.std.specs.List.{AllByRecursion}
use Rattle.std.proofs.lemmas.List.Elements.{All-from_get_or, recursion_from_All}
use Rattle.sf_base.proofs.borrowed_bytes.BorrowedBytes.new.Goals as goal

-- Each item of a slice of bytes is below 256.
bytes_fit : (xs : List ℕ) → ((i : ℕ) → Fits w8 (get_or xs i 0)) → AllByRecursion (λ b. b < 256) xs
bytes_fit xs h = recursion_from_All (λ b. b < 256) xs (All-from_get_or (λ b. b < 256) xs 0 (λ i l. omega (arith, h i)))

pub invariant_of-result : goal.invariant_of-result
invariant_of-result c = bytes_fit c.args.bytes.now (λ i. c.type_inv.bytes i)
