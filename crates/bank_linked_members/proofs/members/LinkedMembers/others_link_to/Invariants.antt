use Rattle.std.proofs.Common.{◌≡◌, ◌≢◌, ◌<◌, ◌≤◌, ℕ, false, slice_get}
use Rattle.std.specs.Prelude.{IfSome}
use Rattle.bank_linked_members.proofs.members.LinkedMembers.others_link_to.Given as goal

abbrev pub invariant-loop-i : goal.invariant-loop-i
invariant-loop-i g l =
    (k : ℕ) → l.initial.i ≤ k → k < l.i → k ≢ l.number
    → IfSome (slice_get l.members k) (λ x. g.T.Linked.links_to l.number x ≡ false)
