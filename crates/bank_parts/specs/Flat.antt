-- Presets or instruments as heads and bags.
use Rattle.std.specs.Prelude.{◌≡◌, ℕ, List, [], ◌∷◌, map}
use Rattle.std.specs.List.{AllByRecursion}
use Rattle.flat_records.specs.Bags.{Bag}
use Rattle.bank_parts.specs.declared.parts.ZoneOwner.{ZoneOwner}
use Rattle.bank_parts.specs.Bagged.{bags_of, owner_in, IsPlainOwner}

-- the presets or instruments with these heads and these bags
abbrev pub owners_in : {H : Type 0} → ℕ → List H → List (List Bag) → List (ZoneOwner H)
owners_in op [] bags = []
owners_in op (head ∷ heads) [] = []
owners_in op (head ∷ heads) (own ∷ rest) = owner_in op head own ∷ owners_in op heads rest

-- these are the heads and the bags of owners that can be read back
pub record RepresentOwners {H : Type 0} (op : ℕ) (hs : List H) (bs : List (List Bag)) (owners : List (ZoneOwner H)) : Type 0 where
  pub heads : hs ≡ map (λ x. x.head) owners
  pub bags : bs ≡ map (bags_of op) owners
  pub plain : AllByRecursion (IsPlainOwner op) owners

-- these are the heads and the bags of the owners read from them
abbrev pub AreRead : {H : Type 0} → ℕ → List H → List (List Bag) → Type 0
AreRead op heads bags = RepresentOwners op heads bags (owners_in op heads bags)
