-- The content of a file: a bank, and the counts of what was dropped or repaired.
use Rattle.std.specs.Prelude.{◌+◌, ℕ, List, length, map, count_by, sum_by, is_some, if◌then◌else◌}
use Rattle.sf_base.specs.Fields.{field_at}
use Rattle.riff_chunks.specs.Walk.{Chunk}
use Rattle.riff_chunks.specs.Finding.{first_body}
use Rattle.generators.specs.declared.level.Level.TheVariants as level
use Rattle.modulators.specs.declared.modulator.Modulator.{Modulator}
use Rattle.bank_parts.specs.declared.parts.ZoneOwner.{ZoneOwner}
use Rattle.bank_parts.specs.declared.parts.Sample.{Sample}
use Rattle.bank_parts.specs.declared.parts.Parts.{Parts}
use Rattle.hydra_records.specs.declared.head.PresetHead.{PresetHead}
use Rattle.hydra_records.specs.declared.head.InstrumentHead.{InstrumentHead}
use Rattle.hydra_records.specs.declared.head.SampleHead.{SampleHead}
use Rattle.hydra_records.specs.declared.zone.Bag.{Bag}
use Rattle.hydra_records.specs.declared.zone.Generator.{Generator}
use Rattle.bank_format.specs.declared.fault.Counts.{Counts}
use Rattle.bank_format.specs.Ids as id
use Rattle.bank_format.specs.Windows.{windows, zip_with, without_terminal}
use Rattle.bank_format.specs.Zones.{Bagged, zones_read, global_read, ignored, gens_dropped, repaired_range_count}
use Rattle.bank_format.specs.Tables.{Tables, Headers, presets, instruments}
use Rattle.bank_format.specs.Texts.{texts_read, truncated_text_count}
use Rattle.bank_format.specs.Samples.{sample_read, is_loop_lost, is_link_lost}
use Rattle.bank_format.specs.Chunks.{tables_in, points_in, chunks_of, body_in}

-- ---- zones

abbrev pub bagged : List Generator → List Modulator → Bagged
bagged gens mods = record { gens = gens; mods = mods }

-- The generators and modulators of each bag, up to the indexes of the next bag.
unfoldable pub bags_in : List Bag → List Generator → List Modulator → List Bagged
bags_in bags gens mods =
    zip_with bagged (windows gens (map (λ (r : Bag). r.gens) bags)) (windows mods (map (λ (r : Bag). r.mods) bags))

-- The bags of each header, up to the first bag of the next header.
unfoldable pub preset_windows : Tables → List (List Bagged)
preset_windows t = windows (bags_in t.pbag t.pgen t.pmod) (map (λ (h : PresetHead). h.bag) t.phdr)

unfoldable pub instrument_windows : Tables → List (List Bagged)
instrument_windows t = windows (bags_in t.ibag t.igen t.imod) (map (λ (h : InstrumentHead). h.bag) t.inst)

-- the owner of a header and its bags
abbrev pub owner_read : {H R : Type 0} → Headers H R → R → List Bagged → ZoneOwner H
owner_read h r bags = record { head = h.read r; global = global_read h.level bags; zones = zones_read h.level bags }

-- ---- samples

-- the samples of these headers, with their points
abbrev pub samples_read : List ℕ → List SampleHead → List Sample
samples_read points heads = map (sample_read (length heads) points) heads

-- ---- from the chunks of the lists INFO and sdta, and the tables of pdta

unfoldable pub bank_of : List Chunk → List Chunk → Tables → Parts
bank_of info sdta t = record {
  minor = field_at 2 2 (body_in id.IFIL info);
  texts = texts_read info;
  presets = zip_with (owner_read presets) (without_terminal t.phdr) (preset_windows t);
  instruments = zip_with (owner_read instruments) (without_terminal t.inst) (instrument_windows t);
  samples = samples_read (points_in sdta) (without_terminal t.shdr);
}

-- 1 if there is a chunk `sm24`, which is dropped
abbrev pub sm24_dropped : List Chunk → ℕ
sm24_dropped sdta = if is_some (first_body id.SM24 sdta) then 1 else 0

unfoldable pub counts_of : List Chunk → List Chunk → Tables → Counts
counts_of info sdta t = record {
  texts = truncated_text_count info;
  sm24 = sm24_dropped sdta;
  zones = sum_by (ignored level.Preset) (preset_windows t) + sum_by (ignored level.Inst) (instrument_windows t);
  gens =
      sum_by (gens_dropped level.Preset) (preset_windows t)
      + sum_by (gens_dropped level.Inst) (instrument_windows t);
  ranges =
      sum_by (repaired_range_count level.Preset) (preset_windows t)
      + sum_by (repaired_range_count level.Inst) (instrument_windows t);
  loops = count_by is_loop_lost (without_terminal t.shdr);
  links = count_by (is_link_lost (length (without_terminal t.shdr))) (without_terminal t.shdr);
}

abbrev pub no_counts : Counts
no_counts = record { texts = 0; sm24 = 0; zones = 0; gens = 0; ranges = 0; loops = 0; links = 0 }

-- the content of a file
pub record Content : Type 0 where
  pub bank : Parts
  pub counts : Counts

abbrev pub content_of : List Chunk → List Chunk → Tables → Content
content_of info sdta t = record { bank = bank_of info sdta t; counts = counts_of info sdta t }

-- the content of a window: of the body of the file's RIFF chunk after its form
unfoldable pub content_in : List ℕ → Content
content_in w = content_of (chunks_of id.INFO w) (chunks_of id.SDTA w) (tables_in (chunks_of id.PDTA w))
