-- The sizes of the file, of its lists and of their chunks are the lengths of their bodies.
use Rattle.std.proofs.Common.{◌*◌, ◌≤◌, ◌≡◌, ◌+◌, ℕ, List, ◌++◌, length, ap, refl, arith}
use Rattle.std.specs.List.{flat_map}
use Rattle.std.proofs.lemmas.List.{length-append}
use Rattle.generators.specs.declared.level.Level.{Level}
use Rattle.generators.specs.declared.level.Level.TheVariants as level
use Rattle.sample_view.specs.Words.{word_bytes}
use Rattle.riff_chunks.specs.Encoding.{encode}
use Rattle.riff_chunks.proofs.EncodingLaws.{length-chunk}
use Rattle.hydra_records.specs.Encoding.{preset_head_bytes, bag_bytes, modulator_bytes, generator_bytes}
use Rattle.hydra_records.specs.Encoding.{instrument_head_bytes, sample_head_bytes}
use Rattle.bank_parts.specs.declared.parts.Parts.{Parts}
use Rattle.bank_parts.specs.declared.parts.ZoneOwner.{ZoneOwner}
use Rattle.bank_validity.specs.declared.totals.LevelTotals.{LevelTotals}
use Rattle.bank_validity.specs.declared.totals.Totals.{Totals}
use Rattle.bank_validity.specs.Limits.{totals_of, level_totals}
use Rattle.bank_parts.specs.Valid.{IsValid, IsWithin}
use Rattle.sf_writer.specs.declared.sizes.ZoneSizes.{ZoneSizes}
use Rattle.sf_writer.specs.Sizes.{AreFew, AreZoneSizes}
use Rattle.sf_writer.proofs.FlatLaws.{bag_records-length, mod_records-length, gen_records-length}
use Rattle.bank_format.specs.Ids.{SFBK, INFO, SDTA, PDTA, PHDR, INST}
use Rattle.bank_format.specs.Zones.{Bagged}
use Rattle.bank_format.specs.Tables.{tables_of, bag_list, mod_list, gen_list, all_points, all_bags}
use Rattle.bank_format.specs.Canon.{info, sdta, pdta, lists}
use Rattle.sf_writer.specs.Lists.{zone_lists}
use Rattle.sf_writer.proofs.TextLaws.{length-INFO, length-info_list}
use Rattle.sf_writer.proofs.PointLaws.{length-SDTA, length-sdta, length-sdta_list}
use Rattle.sf_writer.proofs.ZoneListLaws.{length-zone_chunks, length-bag_chunk, length-mod_chunk, length-gen_chunk}
use Rattle.sf_writer.proofs.OwnerHeadLaws.{phdr-even, inst-even}
use Rattle.sf_writer.proofs.RecordLaws.{length-PDTA, length-pdta, length-shdr_list, length-pdta_list, shdr-even}
use Rattle.sf_writer.proofs.FileLaws.{length-SFBK, length-lists}

pub file_size : (b : Parts)
    → length (SFBK ++ encode (lists b))
    ≡ 28 + length (INFO ++ encode (info b)) + length (SDTA ++ encode (sdta b))
    + length (PDTA ++ encode (pdta (tables_of b)))
file_size b =
    omega (
      arith,
      length-append SFBK (encode (lists b)),
      length-SFBK,
      length-lists b,
      length-info_list b,
      length-sdta_list b,
      length-pdta_list b,
    )

pub info_size : (b : Parts) → length (INFO ++ encode (info b)) ≡ 4 + length (encode (info b))
info_size b = omega (arith, length-append INFO (encode (info b)), length-INFO)

pub sdta_size : (b : Parts) → length (SDTA ++ encode (sdta b)) ≡ 12 + length (flat_map word_bytes (all_points b))
sdta_size b = omega (arith, length-append SDTA (encode (sdta b)), length-SDTA, length-sdta b)

-- the length of the bag, modulator and generator records of these bags
abbrev pub zone_records : List Bagged → ℕ
zone_records bags =
    length (flat_map bag_bytes (bag_list bags)) + length (flat_map modulator_bytes (mod_list bags))
    + length (flat_map generator_bytes (gen_list bags))

zone_lists_size : (at : Level) (bags : List Bagged) → length (encode (zone_lists at bags)) ≡ 24 + zone_records bags
zone_lists_size at bags =
    omega (
      arith,
      length-zone_chunks at bags,
      length-bag_chunk at bags,
      length-mod_chunk at bags,
      length-gen_chunk at bags,
    )

pub pdta_size : (b : Parts) → IsValid b
    → length (PDTA ++ encode (pdta (tables_of b)))
    ≡ 76 + length (flat_map preset_head_bytes (tables_of b).phdr) + zone_records (all_bags level.Preset b.presets)
    + length (flat_map instrument_head_bytes (tables_of b).inst)
    + zone_records (all_bags level.Inst b.instruments)
    + length (flat_map sample_head_bytes (tables_of b).shdr)
unfolding PHDR INST
pdta_size b v =
    omega (
      arith,
      length-append PDTA (encode (pdta (tables_of b))),
      length-PDTA,
      length-pdta b,
      length-chunk PHDR (flat_map preset_head_bytes (tables_of b).phdr) refl,
      phdr-even b v,
      zone_lists_size level.Preset (all_bags level.Preset b.presets),
      length-chunk INST (flat_map instrument_head_bytes (tables_of b).inst) refl,
      inst-even b v,
      zone_lists_size level.Inst (all_bags level.Inst b.instruments),
      length-shdr_list b,
      shdr-even b v,
    )

-- ---- totals and record counts

module _ (b : Parts) (t : Totals) (is : t ≡ totals_of b) (w : IsWithin b) where
  pub few_members : (t.presets.count ≤ 65535) × (t.instruments.count ≤ 65535) × (t.samples ≤ 65535)
  unfolding totals_of
  few_members =
      rw is (
        let p =
            w.presets in omega (arith, p),
        let i =
            w.instruments in omega (arith, i),
        let s = w.samples in omega (arith, s),
      )

  pub few_preset_records : AreFew t.presets.records
  unfolding totals_of
  few_preset_records =
      rw is
      (record {
        zones =
            let z = w.preset_zones in
            omega (arith, z);
        gens =
            let g = w.preset_gens in omega (arith, g);
        mods = let m = w.preset_mods in omega (arith, m);
      })

  pub few_instrument_records : AreFew t.instruments.records
  unfolding totals_of
  few_instrument_records =
      rw is
      (record {
        zones =
            let z = w.instrument_zones in
            omega (arith, z);
        gens =
            let g = w.instrument_gens in
            omega (arith, g);
        mods = let m = w.instrument_mods in omega (arith, m);
      })

  pub few_points : t.points ≤ 500000000
  unfolding totals_of
  few_points = rw is (let p = w.points in omega (arith, p))

-- the sizes of the bag, modulator and generator lists of all presets, or of all instruments
pub zone_sizes : {H : Type 0} (at : Level) (owners : List (ZoneOwner H)) (l : LevelTotals) (sizes : ZoneSizes)
    → l ≡ level_totals owners
    → sizes.bags ≡ 4 * (l.records.zones + 1) → sizes.mods ≡ 10 * (l.records.mods + 1)
    → sizes.gens ≡ 4 * (l.records.gens + 1) → AreZoneSizes (all_bags at owners) sizes
zone_sizes at owners l sizes is bags mods gens =
    let zones_are = ap (λ (l : LevelTotals). l.records.zones) is in
    let gens_are = ap (λ (l : LevelTotals). l.records.gens) is in
    let mods_are = ap (λ (l : LevelTotals). l.records.mods) is in
    record {
      bags = omega (arith, bag_records-length at owners, zones_are, bags);
      mods = omega (arith, mod_records-length at owners, mods_are, mods);
      gens = omega (arith, gen_records-length at owners, gens_are, gens);
    }
