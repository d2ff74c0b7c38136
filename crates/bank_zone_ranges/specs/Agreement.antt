-- Maps of generators that are the same apart from one operator, entry by entry.
use Rattle.std.specs.Prelude.{◌≡◌, ◌≢◌, ℕ, List, Some, IfSome}
use Rattle.std.specs.List.{AllByRecursion}
use Rattle.std.specs.FinMap as map
use Rattle.generators.specs.Gens.{Gens}
use Rattle.bank_parts.specs.declared.owners.ZonePlace.TheVariants as place
use Rattle.bank_parts.specs.declared.parts.ZoneOwner.{ZoneOwner}
use Rattle.bank_parts.specs.Owners.{gens_at}

-- the map has this generator, unless its operator is op
abbrev pub AgreesBut : Gens → ℕ → ℕ × ℕ → Type 0
AgreesBut m op e = e.0 ≢ op → map.get m e.0 ≡ Some e.1

-- the map m has each generator of n, apart from op
abbrev pub AgreeBut : Gens → ℕ → Gens → Type 0
AgreeBut m op n = AllByRecursion (AgreesBut m op) (map.entries n)

-- zone k of owner i has this generator, unless its operator is op; true if there is no such zone
abbrev pub AgreesButAt : {H : Type 0} → List (ZoneOwner H) → ℕ → ℕ → ℕ → ℕ × ℕ → Type 0
AgreesButAt owners i k op e = IfSome (gens_at owners i (place.Zone k)) (λ (m : Gens). AgreesBut m op e)
