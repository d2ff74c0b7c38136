-- Pairs of samples: a left and a right sample, each linked to the other.
use Rattle.std.specs.Prelude.{ℕ, ◌==◌, Bool, false, List, slice_get, Option, Some, None, if◌then◌else◌}
use Rattle.std.specs.Option.{option_map_or, option_and_then}
use Rattle.bank_parts.specs.declared.parts.Kind.{Kind}
use Rattle.bank_parts.specs.declared.parts.Kind.TheVariants.{Mono, Right, Left, Linked}
use Rattle.bank_parts.specs.declared.parts.Sample.{Sample}

-- a left sample whose right sample is n
abbrev pub is_left_of : ℕ → Kind → Bool
is_left_of n Mono = false
is_left_of n (Right link) = false
is_left_of n (Left link) = link == n
is_left_of n (Linked link) = false

-- a right sample whose left sample is n
abbrev pub is_right_of : ℕ → Kind → Bool
is_right_of n Mono = false
is_right_of n (Right link) = link == n
is_right_of n (Left link) = false
is_right_of n (Linked link) = false

-- a test holds for the kind of sample i; false if there is no such sample
abbrev pub has_kind : (Kind → Bool) → List Sample → ℕ → Bool
has_kind test samples i = option_map_or (λ (s : Sample). test s.kind) (slice_get samples i) false

-- the left and the right sample of which sample n, of this kind, is one: the sample to which it is linked has the other
-- side and is linked to it
abbrev pub sides_by_kind : List Sample → ℕ → Kind → Option (ℕ × ℕ)
sides_by_kind samples n Mono = None
sides_by_kind samples n (Right link) = if has_kind (is_left_of n) samples link then Some (link, n) else None
sides_by_kind samples n (Left link) = if has_kind (is_right_of n) samples link then Some (n, link) else None
sides_by_kind samples n (Linked link) = None

-- the left and the right sample that the picture of sample n shows; none if it shows sample n alone
abbrev pub sides_of : List Sample → ℕ → Option (ℕ × ℕ)
sides_of samples n = option_and_then (λ (s : Sample). sides_by_kind samples n s.kind) (slice_get samples n)
