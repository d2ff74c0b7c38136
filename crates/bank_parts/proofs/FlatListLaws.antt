-- The lengths of the flat lists of presets or instruments: each list has its terminal.
use Rattle.std.proofs.Common.{◌≡◌, ◌+◌, List, [], ◌∷◌, length, map, arith}
use Rattle.std.proofs.lemmas.List.{length-append, length-map}
use Rattle.generators.specs.Levels.{target_operator}
use Rattle.generators.specs.declared.level.Level.{Level}
use Rattle.flat_records.specs.Bags.{Bag, past_bag, gens_in, mods_in, no_modulator}
use Rattle.flat_records.proofs.Starts.{length-starts}
use Rattle.flat_records.specs.Owned.{past_owner, all_bags}
use Rattle.bank_parts.specs.declared.parts.ZoneOwner.{ZoneOwner}
use Rattle.bank_parts.specs.Valid.{owner_total, zone_count, gen_count, mod_count}
use Rattle.bank_parts.specs.Bagged.{bags_of}
use Rattle.bank_parts.specs.FlatLists.{lists_of}
use Rattle.bank_parts.proofs.RecordLaws.{all_zones, all_gens, all_mods}

module _ {H : Type 0} (at : Level) (owners : List (ZoneOwner H)) where
  abbrev bags : List (List Bag)
  bags = map (bags_of (target_operator at)) owners

  pub first_bags_size : length (lists_of at owners).first_bags ≡ length owners + 1
  first_bags_size =
      let starts = length-starts past_owner 0 bags in
      let each = length-map owners (bags_of (target_operator at)) in
      omega (arith, starts, each)

  pub bags_size : length (lists_of at owners).bags ≡ owner_total zone_count owners + 1
  bags_size =
      let starts = length-starts past_bag (0, 0) (all_bags bags) in
      let zones = all_zones (target_operator at) owners in
      omega (arith, starts, zones)

  pub gens_size : length (lists_of at owners).gens ≡ owner_total gen_count owners + 1
  gens_size =
      let with_end = length-append (gens_in (all_bags bags)) ((0, 0) ∷ []) in
      let gens = all_gens (target_operator at) owners in
      omega (arith, with_end, gens)

  pub mods_size : length (lists_of at owners).mods ≡ owner_total mod_count owners + 1
  mods_size =
      let with_end = length-append (mods_in (all_bags bags)) (no_modulator ∷ []) in
      let mods = all_mods (target_operator at) owners in
      omega (arith, with_end, mods)
