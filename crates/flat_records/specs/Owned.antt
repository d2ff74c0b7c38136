-- The bags of each owner, stored as one list of bags and the index at which each owner's bags begin.
use Rattle.std.specs.Prelude.{◌≡◌, ℕ, ◌+◌, ◌-◌, List, [], ◌∷◌, length, take, drop, slice_get, Option}
use Rattle.std.specs.List.{flat_map}
use Rattle.std.specs.Option.{option_and_then}
use Rattle.base_numbered_lists.specs.Moved.{changed}
use Rattle.flat_records.specs.Runs.{starts}
use Rattle.flat_records.specs.Bags.{Bag}

pub record Flat : Type 0 where
  pub begins : List ℕ
  pub bags : List Bag

-- ---- the flat lists of owners

-- The index after an owner's bags, the first of which is at this index.
abbrev pub past_owner : ℕ → List Bag → ℕ
past_owner at bags = at + length bags

abbrev pub all_bags : List (List Bag) → List Bag
all_bags owners = flat_map (λ bags. bags) owners

-- The last start is the number of all bags.
abbrev pub flat_of : List (List Bag) → Flat
flat_of owners = record { begins = starts past_owner 0 owners; bags = all_bags owners }

-- ---- the owners of flat lists

-- The owners from the one whose bags begin at `at`.
abbrev pub owners_from : ℕ → List ℕ → List Bag → List (List Bag)
owners_from at [] bags = []
owners_from at (next ∷ rest) bags = take (next - at) bags ∷ owners_from next rest (drop (next - at) bags)

abbrev pub owners_of_records : List ℕ → List Bag → List (List Bag)
owners_of_records [] bags = []
owners_of_records (at ∷ rest) bags = owners_from at rest bags

abbrev pub owners_in : Flat → List (List Bag)
owners_in t = owners_of_records t.begins t.bags

-- The lists are those of the owners read from them.
abbrev pub AreRead : Flat → Type 0
AreRead t = t ≡ flat_of (owners_in t)

-- ---- one bag of one owner

-- None if there is no such owner, or no such bag.
abbrev pub bag_at : List (List Bag) → ℕ → ℕ → Option Bag
bag_at owners i k = option_and_then (λ bags. slice_get bags k) (slice_get owners i)

-- f applied to one bag; all else is unchanged.
abbrev pub bag_changed : List (List Bag) → ℕ → ℕ → (Bag → Bag) → List (List Bag)
bag_changed owners i k f = changed owners i (λ bags. changed bags k f)
