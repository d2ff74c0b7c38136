-- Numbers of samples after several moves, and targets and links by a table of new numbers.
use Rattle.std.specs.Prelude.{◌≡◌, ◌<◌, ℕ, List, [], ◌∷◌, Some, length, map, slice_get, slice_index_or}
use Rattle.std.specs.List.{AllByRecursion}
use Rattle.base_numbered_lists.specs.declared.renumbering.Renumbering.TheVariants.{Move}
use Rattle.base_numbered_lists.specs.Renumbered.{renumbered}
use Rattle.bank_parts.specs.declared.parts.Kind.{Kind}
use Rattle.bank_parts.specs.declared.parts.Kind.TheVariants.{Mono, Right, Left, Linked}
use Rattle.bank_parts.specs.declared.parts.Sample.{Sample}
use Rattle.bank_parts.specs.declared.parts.Zone.{Zone}
use Rattle.bank_parts.specs.declared.parts.ZoneOwner.{ZoneOwner}
use Rattle.bank_parts.specs.Links.{IfLinked}
use Rattle.bank_changes.specs.declared.sample_moves.SampleMove.{SampleMove}

-- the number of a sample after the moves
abbrev pub number_along : List SampleMove → ℕ → ℕ
number_along [] number = number
number_along (m ∷ ms) number = number_along ms (renumbered (Move m.from m.to) number)

-- the table has the number of each of n samples after the moves
pub record AreNumbers (n : ℕ) (ms : List SampleMove) (numbers : List ℕ) : Type 0 where
  pub size : length numbers ≡ n
  pub after : (k : ℕ) → k < n → slice_get numbers k ≡ Some (number_along ms k)

abbrev pub number_in : List ℕ → ℕ → ℕ
number_in numbers number = slice_index_or numbers number 0

-- ---- numbers below n

abbrev pub LinksBelow : ℕ → Sample → Type 0
LinksBelow n s = IfLinked (λ link. link < n) s.kind

abbrev pub TargetsBelow : {H : Type 0} → ℕ → ZoneOwner H → Type 0
TargetsBelow n x = AllByRecursion (λ (z : Zone). z.target < n) x.zones
