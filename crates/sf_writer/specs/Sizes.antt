-- The sizes in the chunk headers of a bank's file: the lengths of the bodies.
use Rattle.std.specs.Prelude.{◌≡◌, ◌≤◌, List, ◌++◌, length, flat_map}
use Rattle.generators.specs.declared.level.Level.TheVariants as level
use Rattle.sample_view.specs.Words.{word_bytes}
use Rattle.riff_chunks.specs.Encoding.{encode}
use Rattle.hydra_records.specs.Encoding.{preset_head_bytes, bag_bytes, modulator_bytes, generator_bytes}
use Rattle.hydra_records.specs.Encoding.{instrument_head_bytes, sample_head_bytes}
use Rattle.bank_parts.specs.declared.counting.Records.{Records}
use Rattle.bank_parts.specs.declared.parts.Parts.{Parts}
use Rattle.bank_format.specs.Ids.{SFBK, INFO, SDTA, PDTA}
use Rattle.bank_format.specs.Zones.{Bagged}
use Rattle.bank_format.specs.Tables.{tables_of, bag_list, mod_list, gen_list, all_points, all_bags}
use Rattle.bank_format.specs.Canon.{info, sdta, pdta, lists}
use Rattle.sf_writer.specs.declared.sizes.Sizes.{Sizes}
use Rattle.sf_writer.specs.declared.sizes.ZoneSizes.{ZoneSizes}

-- each count fits in 16 bits
pub record AreFew (r : Records) : Type 0 where
  pub zones : r.zones ≤ 65535
  pub gens : r.gens ≤ 65535
  pub mods : r.mods ≤ 65535

-- the sizes of the bag, modulator and generator lists of these bags
pub record AreZoneSizes (all : List Bagged) (sizes : ZoneSizes) : Type 0 where
  pub bags : sizes.bags ≡ length (flat_map bag_bytes (bag_list all))
  pub mods : sizes.mods ≡ length (flat_map modulator_bytes (mod_list all))
  pub gens : sizes.gens ≡ length (flat_map generator_bytes (gen_list all))

-- the sizes of all chunks but those of texts
pub record AreSizes (b : Parts) (sizes : Sizes) : Type 0 where
  pub file : sizes.file ≡ length (SFBK ++ encode (lists b))
  pub info : sizes.info ≡ length (INFO ++ encode (info b))
  pub sdta : sizes.sdta ≡ length (SDTA ++ encode (sdta b))
  pub smpl : sizes.smpl ≡ length (flat_map word_bytes (all_points b))
  pub pdta : sizes.pdta ≡ length (PDTA ++ encode (pdta (tables_of b)))
  pub phdr : sizes.phdr ≡ length (flat_map preset_head_bytes (tables_of b).phdr)
  pub presets : AreZoneSizes (all_bags level.Preset b.presets) sizes.presets
  pub inst : sizes.inst ≡ length (flat_map instrument_head_bytes (tables_of b).inst)
  pub instruments : AreZoneSizes (all_bags level.Inst b.instruments) sizes.instruments
  pub shdr : sizes.shdr ≡ length (flat_map sample_head_bytes (tables_of b).shdr)
