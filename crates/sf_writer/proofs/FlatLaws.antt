-- The bag, modulator and generator lists of a level as its flat lists, and their lengths.
use Rattle.std.proofs.Common.{◌≡◌, ◌<◌, ◌+◌, ◌*◌, ℕ, List, [], ◌∷◌, ◌++◌, length, map, get_or, drop, refl, ap, sym}
use Rattle.std.proofs.Common.{◌∙◌, arith}
use Rattle.std.specs.List.{flat_map}
use Rattle.std.proofs.lemmas.List.{length-map, at_drop_more}
use Rattle.generators.specs.declared.level.Level.{Level}
use Rattle.modulators.specs.declared.modulator.Modulator.{Modulator}
use Rattle.hydra_records.specs.declared.zone.Bag.{Bag}
use Rattle.hydra_records.specs.declared.zone.Generator.{Generator}
use Rattle.hydra_records.specs.Encoding.{bag_bytes, modulator_bytes, generator_bytes}
use Rattle.bank_parts.specs.declared.parts.ZoneOwner.{ZoneOwner}
use Rattle.bank_parts.specs.Valid.{owner_total, zone_count, gen_count, mod_count}
use Rattle.bank_parts.specs.FlatLists.{lists_of}
use Rattle.bank_parts.proofs.FlatListLaws.{bags_size, gens_size, mods_size}
use Rattle.bank_format.specs.Tables.{bag_list, mod_list, gen_list, all_bags}
use Rattle.bank_format.specs.FlatTables.{bag_of, generator_of}
use Rattle.bank_format.proofs.FlatLaws.{bags-flat, mods-flat, gens-flat}

-- ---- the records from an index on are that of the index, and those after it

pub records_at : {X R : Type 0} (bytes_of : R → List ℕ) (f : X → R) (xs : List X) (i : ℕ) (d : X) (bytes : List ℕ)
    → i < length xs → bytes ≡ bytes_of (f (get_or xs i d))
    → flat_map bytes_of (map f (drop i xs)) ≡ bytes ++ flat_map bytes_of (map f (drop (i + 1) xs))
records_at bytes_of f xs i d bytes lt encoding =
    at_drop_more (λ ys. flat_map bytes_of (map f ys)) xs i d lt
    ∙ ap (λ (t : List ℕ). t ++ flat_map bytes_of (map f (drop (i + 1) xs))) (sym encoding)

pub mods_at : (ms : List Modulator) (i : ℕ) (d : Modulator) (bytes : List ℕ) → i < length ms
    → bytes ≡ modulator_bytes (get_or ms i d)
    → flat_map modulator_bytes (drop i ms) ≡ bytes ++ flat_map modulator_bytes (drop (i + 1) ms)
mods_at ms i d bytes lt encoding =
    at_drop_more (flat_map modulator_bytes) ms i d lt
    ∙ ap (λ (t : List ℕ). t ++ flat_map modulator_bytes (drop (i + 1) ms)) (sym encoding)

-- ---- lengths of records

pub length-bags : (rs : List Bag) → length (flat_map bag_bytes rs) ≡ 4 * length rs
unfolding bag_bytes
length-bags [] = refl
length-bags (r ∷ rs) = let e = length-bags rs in omega (arith, e)

pub length-mods : (ms : List Modulator) → length (flat_map modulator_bytes ms) ≡ 10 * length ms
unfolding modulator_bytes
length-mods [] = refl
length-mods (m ∷ ms) = let e = length-mods ms in omega (arith, e)

pub length-gens : (gs : List Generator) → length (flat_map generator_bytes gs) ≡ 4 * length gs
unfolding generator_bytes
length-gens [] = refl
length-gens (g ∷ gs) = let e = length-gens gs in omega (arith, e)

-- ---- the lists of all presets or instruments

module _ {H : Type 0} (at : Level) (owners : List (ZoneOwner H)) where
  -- the borrowed flat lists are the records of the tables
  pub bags-borrowed : (bags : List (ℕ × ℕ)) → bags ≡ (lists_of at owners).bags
      → flat_map bag_bytes (map bag_of bags) ≡ flat_map bag_bytes (bag_list (all_bags at owners))
  bags-borrowed bags e =
      ap (λ bs. flat_map bag_bytes (map bag_of bs)) e ∙ ap (flat_map bag_bytes) (sym (bags-flat at owners))

  pub mods-borrowed : (mods : List Modulator) → mods ≡ (lists_of at owners).mods
      → flat_map modulator_bytes mods ≡ flat_map modulator_bytes (mod_list (all_bags at owners))
  mods-borrowed mods e = ap (flat_map modulator_bytes) (e ∙ sym (mods-flat at owners))

  pub gens-borrowed : (gens : List (ℕ × ℕ)) → gens ≡ (lists_of at owners).gens
      → flat_map generator_bytes (map generator_of gens) ≡ flat_map generator_bytes (gen_list (all_bags at owners))
  gens-borrowed gens e =
      ap (λ gs. flat_map generator_bytes (map generator_of gs)) e
      ∙ ap (flat_map generator_bytes) (sym (gens-flat at owners))

  pub bag_records-length : length (flat_map bag_bytes (bag_list (all_bags at owners)))
      ≡ 4 * (owner_total zone_count owners + 1)
  bag_records-length =
      let records = length-bags (bag_list (all_bags at owners)) in
      let list = ap length (bags-flat at owners) ∙ length-map (lists_of at owners).bags bag_of ∙ bags_size at owners in
      omega (arith, records, list)

  pub mod_records-length : length (flat_map modulator_bytes (mod_list (all_bags at owners)))
      ≡ 10 * (owner_total mod_count owners + 1)
  mod_records-length =
      let records = length-mods (mod_list (all_bags at owners)) in
      let list = ap length (mods-flat at owners) ∙ mods_size at owners in
      omega (arith, records, list)

  pub gen_records-length : length (flat_map generator_bytes (gen_list (all_bags at owners)))
      ≡ 4 * (owner_total gen_count owners + 1)
  gen_records-length =
      let records = length-gens (gen_list (all_bags at owners)) in
      let list =
      ap length (gens-flat at owners) ∙ length-map (lists_of at owners).gens generator_of
      ∙ gens_size at owners in
      omega (arith, records, list)
