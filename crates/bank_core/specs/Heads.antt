-- The records of presets or instruments.
use Rattle.std.specs.Prelude.{◌≡◌, ℕ, List, [], ◌∷◌, map, Some, None}
use Rattle.generators.specs.declared.level.Level.{Level}
use Rattle.flat_records.specs.Bags.{Tables}
use Rattle.bank_parts.specs.declared.parts.ZoneOwner.{ZoneOwner}
use Rattle.bank_parts.specs.FlatLists.{lists_of}
use Rattle.bank_core.specs.declared.flat_heads.HeadRecord.{HeadRecord}

-- each head with the index of its first bag, then the terminal with the number of all bags and no head
abbrev pub head_records : {H : Type 0} → List H → List ℕ → List (HeadRecord H)
head_records hs [] = []
head_records [] (n ∷ ns) = record { head = None; first_bag = n } ∷ head_records [] ns
head_records (h ∷ hs) (n ∷ ns) = record { head = Some h; first_bag = n } ∷ head_records hs ns

-- these are the heads and records of these presets or instruments
pub record AreFlatOf {H : Type 0} (at : Level) (hs : List (HeadRecord H)) (t : Tables)
    (owners : List (ZoneOwner H)) : Type 0 where
  pub heads : hs ≡ head_records (map (λ x. x.head) owners) (lists_of at owners).first_bags
  pub records : t
      ≡ record
      { bags = (lists_of at owners).bags; gens = (lists_of at owners).gens; mods = (lists_of at owners).mods }
