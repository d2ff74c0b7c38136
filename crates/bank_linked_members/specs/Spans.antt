-- The range of numbers that contains all members with a link.
use Rattle.std.specs.Prelude.{◌≡◌, ◌≢◌, ◌≤◌, ◌<◌, ◌+◌, ◌⊎◌, ℕ, Bool, false, List, Option, length, slice_get, IfSome}
use Rattle.bank_linked_members.specs.declared.span.LinkSpan.{LinkSpan}

abbrev pub IsOutside : LinkSpan → ℕ → Type 0
IsOutside span i = (i < span.start) ⊎ (span.end ≤ i)

-- No member of the list outside the span has a link.
pub record IsLinkSpan {X : Type 0} (has_link : X → Bool) (xs : List X) (span : LinkSpan) : Type 0 where
  pub order : span.start ≤ span.end
  pub within : span.end ≤ length xs
  pub outside : (i : ℕ) → IsOutside span i → IfSome (slice_get xs i) (λ x. has_link x ≡ false)

-- The same, except that the borrowed member may have one anywhere.
pub record IsLinkSpanExcept {X : Type 0} (has_link : X → Bool) (xs : List X) (span : LinkSpan) (borrowed : Option ℕ)
    : Type 0 where
  pub order : span.start ≤ span.end
  pub within : span.end ≤ length xs
  pub there : IfSome borrowed (λ b. b < length xs)
  pub outside : (i : ℕ) → IsOutside span i → IfSome borrowed (λ b. b ≢ i)
      → IfSome (slice_get xs i) (λ x. has_link x ≡ false)

-- After an insertion at an index, a member outside the new span was outside the old one.
pub record IsShifted (old new : LinkSpan) (at : ℕ) : Type 0 where
  pub below : (i : ℕ) → IsOutside new i → i < at → IsOutside old i
  pub above : (i : ℕ) → IsOutside new (i + 1) → at ≤ i → IsOutside old i
