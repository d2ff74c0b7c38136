-- The content of the tables, field by field.
use Rattle.std.proofs.Common.{◌≡◌, ◌∙◌, ℕ, List, length, refl, ap}
use Rattle.std.specs.Prelude.{count_by}
use Rattle.riff_chunks.specs.Walk.{Chunk}
use Rattle.bank_parts.specs.declared.parts.Sample.{Sample}
use Rattle.bank_parts.specs.declared.texts.Texts.{Texts}
use Rattle.hydra_records.specs.declared.head.SampleHead.{SampleHead}
use Rattle.bank_format.specs.Windows.{without_terminal}
use Rattle.bank_format.specs.Tables.{Tables}
use Rattle.bank_format.specs.Texts.{texts_read, truncated_text_count}
use Rattle.bank_format.specs.Samples.{is_loop_lost, is_link_lost}
use Rattle.bank_format.specs.Reading.{sm24_dropped}
use Rattle.sf_reader.specs.declared.zones.ZoneCounts.{ZoneCounts}
use Rattle.sf_reader.specs.Lists.{ListChunks}
use Rattle.sf_reader.specs.Texts.{texts_in, truncated_to_limits, too_long_count}
use Rattle.sf_reader.specs.Owners.{FlatBankOwners, added}
use Rattle.sf_reader.specs.FlatContent.{FlatContent}
use Rattle.sf_reader.specs.Content.{content_with}

-- truncating the texts after finding them is reading the texts
cut_is : (info : List Chunk) → truncated_to_limits (texts_in info) ≡ texts_read info
unfolding texts_in truncated_to_limits texts_read
cut_is info = refl

cut_count_is : (info : List Chunk) → too_long_count (texts_in info) ≡ truncated_text_count info
unfolding texts_in too_long_count truncated_text_count
cut_count_is info = refl

-- the parts that the reader has found, and their values by definition
pub record Found (w : ListChunks) (heads : List SampleHead) (members : FlatBankOwners) (texts truncated : Texts)
    (truncated_texts sm24 : ℕ) (zone_counts : ZoneCounts) (loops links : ℕ) : Type 0 where
  pub texts_are : texts ≡ texts_in w.info
  pub cut_are : truncated ≡ truncated_to_limits texts
  pub counted : truncated_texts ≡ too_long_count texts
  pub sm24_is : sm24 ≡ sm24_dropped w.sdta
  pub zones_are : zone_counts ≡ added members.presets.counts members.instruments.counts
  pub loops_are : loops ≡ count_by is_loop_lost (without_terminal heads)
  pub links_are : links ≡ count_by (is_link_lost (length (without_terminal heads))) (without_terminal heads)

pub found_content : (minor : ℕ) (w : ListChunks) (t : Tables) (members : FlatBankOwners) (samples : List Sample)
    (texts truncated : Texts) (truncated_texts sm24 : ℕ) (zone_counts : ZoneCounts) (loops links : ℕ)
    → Found w t.shdr members texts truncated truncated_texts sm24 zone_counts loops links
    → ◌≡◌ {A = FlatContent} (record {
      bank = record {
        minor = minor;
        texts = truncated;
        preset_heads = members.presets.heads;
        inst_heads = members.instruments.heads;
        preset = members.presets.records;
        inst = members.instruments.records;
        samples = samples;
      };
      counts =
          record {
            texts =
                truncated_texts;
            sm24 =
                sm24;
            zones =
                zone_counts.zones;
            gens =
                zone_counts.gens;
            ranges = zone_counts.ranges;
            loops = loops;
            links = links;
          };
    }) (content_with minor w t members samples)
unfolding content_with
found_content minor w t members samples texts truncated truncated_texts sm24 zone_counts loops links f =
    let text = f.cut_are ∙ ap truncated_to_limits f.texts_are ∙ cut_is w.info in
    let count = f.counted ∙ ap too_long_count f.texts_are ∙ cut_count_is w.info in
    λ i. record {
      bank = record {
        minor = minor;
        texts = text i;
        preset_heads = members.presets.heads;
        inst_heads = members.instruments.heads;
        preset = members.presets.records;
        inst = members.instruments.records;
        samples = samples;
      };
      counts = record {
        texts = count i;
        sm24 = f.sm24_is i;
        zones = (f.zones_are i).zones;
        gens = (f.zones_are i).gens;
        ranges = (f.zones_are i).ranges;
        loops = f.loops_are i;
        links = f.links_are i;
      };
    }
