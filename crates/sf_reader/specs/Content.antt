-- The checks and the content of the three lists, by the functions of the reader.
use Rattle.std.specs.Prelude.{◌==◌, ◌&&◌, ◌+◌, ◌%◌, ◌++◌, ℕ, List, [], ◌∷◌, length, count_by, flat_map}
use Rattle.bank_parts.specs.declared.parts.Sample.{Sample}
use Rattle.sf_base.specs.Fields.{field_at}
use Rattle.sample_view.specs.Words.{words}
use Rattle.bank_format.specs.declared.fault.ReadFault.{ReadFault}
use Rattle.bank_format.specs.declared.fault.ReadFault.TheVariants.{Version, OddSamples}
use Rattle.bank_format.specs.FaultChecks.{Check, check}
use Rattle.bank_format.specs.Windows.{without_terminal}
use Rattle.bank_format.specs.Tables.{Tables}
use Rattle.bank_format.specs.Texts.{texts_read, truncated_text_count}
use Rattle.bank_format.specs.Samples.{is_loop_lost, is_link_lost}
use Rattle.bank_format.specs.Chunks.{tables_in}
use Rattle.bank_format.specs.Reading.{samples_read, sm24_dropped, content_of}
use Rattle.bank_format.specs.ReadChecks.{count_checks, all_index_checks, sample_checks, total_checks, content_checks}
use Rattle.sf_reader.specs.Lists.{ListChunks}
use Rattle.sf_reader.specs.Owners.{FlatBankOwners, bank_owners_of, bank_owner_checks}
use Rattle.sf_reader.specs.FlatContent.{FlatContent, flat_content}

-- ---- from the three lists

abbrev pub list_content_checks : ListChunks → List (Check ReadFault)
list_content_checks w = content_checks w.info w.sdta w.pdta (tables_in w.pdta)

abbrev pub list_content : ListChunks → FlatContent
list_content w = flat_content (content_of w.info w.sdta (tables_in w.pdta))

-- ---- from a version, tables and points

-- the version has four bytes, and the major version is 2
abbrev pub version_checks : List ℕ → List (Check ReadFault)
version_checks ifil = check (length ifil == 4 && field_at 0 2 ifil == 2) Version ∷ []

-- the points are an even number of bytes
abbrev pub even_checks : List ℕ → List (Check ReadFault)
even_checks smpl = check (length smpl % 2 == 0) OddSamples ∷ []

-- the checks of the nine lists and the points before presets and instruments are read
unfoldable pub early_table_checks : Tables → List ℕ → List (Check ReadFault)
early_table_checks t smpl =
    count_checks t
    ++ (even_checks smpl
    ++ (all_index_checks t
    ++ flat_map (sample_checks (length (words smpl))) (without_terminal t.shdr)))

-- all checks of the nine lists and the points
abbrev pub table_checks : Tables → List ℕ → List (Check ReadFault)
table_checks t smpl = early_table_checks t smpl ++ (bank_owner_checks t ++ total_checks (without_terminal t.shdr))

-- the bank and the counts, from presets, instruments and samples
unfoldable pub content_with : ℕ → ListChunks → Tables → FlatBankOwners → List Sample → FlatContent
content_with minor w t members samples = record {
  bank = record {
    minor = minor;
    texts = texts_read w.info;
    preset_heads = members.presets.heads;
    inst_heads = members.instruments.heads;
    preset = members.presets.records;
    inst = members.instruments.records;
    samples = samples;
  };
  counts = record {
    texts = truncated_text_count w.info;
    sm24 = sm24_dropped w.sdta;
    zones = members.presets.counts.zones + members.instruments.counts.zones;
    gens = members.presets.counts.gens + members.instruments.counts.gens;
    ranges = members.presets.counts.ranges + members.instruments.counts.ranges;
    loops = count_by is_loop_lost (without_terminal t.shdr);
    links = count_by (is_link_lost (length (without_terminal t.shdr))) (without_terminal t.shdr);
  };
}

-- the same, from a minor version, tables and points
abbrev pub table_content : ℕ → ListChunks → Tables → List ℕ → FlatContent
table_content minor w t smpl = content_with minor w t (bank_owners_of t) (samples_read (words smpl) (without_terminal t.shdr))
