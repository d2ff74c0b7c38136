use Rattle.std.proofs.Common.{◌≡◌, ℕ, ◌<◌, slice_get}
use Rattle.bank_equality.proofs.owners.same_owners.Given as goal

abbrev pub invariant-loop-i : goal.invariant-loop-i
invariant-loop-i g l = (m : ℕ) → m < l.i → slice_get l.a m ≡ slice_get l.b m
