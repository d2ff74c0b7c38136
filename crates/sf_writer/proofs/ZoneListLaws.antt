-- The bag, modulator and generator lists of a level as chunks.
use Rattle.std.proofs.Common.{◌≡◌, ◌+◌, ◌%◌, ℕ, List, ◌++◌, length, refl, ap, arith}
use Rattle.std.specs.List.{flat_map}
use Rattle.std.proofs.lemmas.List.{length-append, append-nil}
use Rattle.generators.specs.declared.level.Level.{Level}
use Rattle.generators.specs.declared.level.Level.TheVariants.{Preset, Inst}
use Rattle.riff_chunks.specs.Encoding.{chunk, encode}
use Rattle.hydra_records.specs.Encoding.{bag_bytes, modulator_bytes, generator_bytes}
use Rattle.bank_format.specs.Ids.{PBAG, PMOD, PGEN, IBAG, IMOD, IGEN}
use Rattle.bank_format.specs.Zones.{Bagged}
use Rattle.bank_format.specs.Tables.{bag_list, mod_list, gen_list}
use Rattle.sf_writer.specs.Lists.{bag_id, mod_id, gen_id, zone_lists}
use Rattle.sf_writer.proofs.ChunkLaws.{length-chunk-even}
use Rattle.sf_writer.proofs.FlatLaws.{length-bags, length-mods, length-gens}

-- ---- each list

abbrev bag_records : List Bagged → List ℕ
bag_records bags = flat_map bag_bytes (bag_list bags)

abbrev mod_records : List Bagged → List ℕ
mod_records bags = flat_map modulator_bytes (mod_list bags)

abbrev gen_records : List Bagged → List ℕ
gen_records bags = flat_map generator_bytes (gen_list bags)

length-bag_id : (at : Level) → length (bag_id at) ≡ 4
unfolding PBAG IBAG
length-bag_id Preset = refl
length-bag_id Inst = refl

length-mod_id : (at : Level) → length (mod_id at) ≡ 4
unfolding PMOD IMOD
length-mod_id Preset = refl
length-mod_id Inst = refl

length-gen_id : (at : Level) → length (gen_id at) ≡ 4
unfolding PGEN IGEN
length-gen_id Preset = refl
length-gen_id Inst = refl

pub bags-even : (bags : List Bagged) → length (bag_records bags) % 2 ≡ 0
bags-even bags = omega (arith, length-bags (bag_list bags))

pub mods-even : (bags : List Bagged) → length (mod_records bags) % 2 ≡ 0
mods-even bags = omega (arith, length-mods (mod_list bags))

pub gens-even : (bags : List Bagged) → length (gen_records bags) % 2 ≡ 0
gens-even bags = omega (arith, length-gens (gen_list bags))

pub length-bag_chunk : (at : Level) (bags : List Bagged)
    → length (chunk (bag_id at) (bag_records bags)) ≡ 8 + length (bag_records bags)
length-bag_chunk at bags = length-chunk-even (bag_id at) (bag_records bags) (length-bag_id at) (bags-even bags)

pub length-mod_chunk : (at : Level) (bags : List Bagged)
    → length (chunk (mod_id at) (mod_records bags)) ≡ 8 + length (mod_records bags)
length-mod_chunk at bags = length-chunk-even (mod_id at) (mod_records bags) (length-mod_id at) (mods-even bags)

pub length-gen_chunk : (at : Level) (bags : List Bagged)
    → length (chunk (gen_id at) (gen_records bags)) ≡ 8 + length (gen_records bags)
length-gen_chunk at bags = length-chunk-even (gen_id at) (gen_records bags) (length-gen_id at) (gens-even bags)

-- ---- all three

pub zone_lists-is : (at : Level) (bags : List Bagged)
    → encode (zone_lists at bags)
    ≡ chunk (bag_id at) (bag_records bags)
    ++ (chunk (mod_id at) (mod_records bags) ++ chunk (gen_id at) (gen_records bags))
unfolding zone_lists
zone_lists-is at bags =
    ap (λ (t : List ℕ). chunk (bag_id at) (bag_records bags) ++ (chunk (mod_id at) (mod_records bags) ++ t))
    (append-nil (chunk (gen_id at) (gen_records bags)))

pub length-zone_chunks : (at : Level) (bags : List Bagged)
    → length (encode (zone_lists at bags))
    ≡ length (chunk (bag_id at) (bag_records bags)) + length (chunk (mod_id at) (mod_records bags))
    + length (chunk (gen_id at) (gen_records bags))
length-zone_chunks at bags =
    omega (
      arith,
      ap length (zone_lists-is at bags),
      length-append (chunk (bag_id at) (bag_records bags))
          (chunk (mod_id at) (mod_records bags) ++ chunk (gen_id at) (gen_records bags)),
      length-append (chunk (mod_id at) (mod_records bags)) (chunk (gen_id at) (gen_records bags)),
    )

pub zone_lists-even : (at : Level) (bags : List Bagged) → length (encode (zone_lists at bags)) % 2 ≡ 0
zone_lists-even at bags =
    omega (
      arith,
      length-zone_chunks at bags,
      length-bag_chunk at bags,
      length-mod_chunk at bags,
      length-gen_chunk at bags,
      bags-even bags,
      mods-even bags,
      gens-even bags,
    )
