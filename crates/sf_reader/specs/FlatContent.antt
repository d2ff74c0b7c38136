-- The content of a file, with presets and instruments in flat lists.
use Rattle.std.specs.Prelude.{List, map}
use Rattle.generators.specs.declared.level.Level.{Level}
use Rattle.generators.specs.declared.level.Level.TheVariants as level
use Rattle.flat_records.specs.Bags.{Tables}
use Rattle.bank_parts.specs.declared.parts.ZoneOwner.{ZoneOwner}
use Rattle.bank_parts.specs.declared.parts.Parts.{Parts}
use Rattle.bank_parts.specs.FlatLists.{lists_of}
use Rattle.bank_core.specs.declared.flat_heads.HeadRecord.{HeadRecord}
use Rattle.bank_core.specs.declared.flat.Flat.{Flat}
use Rattle.bank_core.specs.Heads.{head_records}
use Rattle.bank_format.specs.declared.fault.Counts.{Counts}
use Rattle.bank_format.specs.Reading.{Content}

pub record FlatContent : Type 0 where
  pub bank : Flat
  pub counts : Counts

-- ---- of a bank

abbrev pub heads_of : {H : Type 0} → Level → List (ZoneOwner H) → List (HeadRecord H)
heads_of at owners = head_records (map (λ x. x.head) owners) (lists_of at owners).first_bags

abbrev pub tables_at : {H : Type 0} → Level → List (ZoneOwner H) → Tables
tables_at at owners =
    record { bags = (lists_of at owners).bags; gens = (lists_of at owners).gens; mods = (lists_of at owners).mods }

abbrev pub flat_bank : Parts → Flat
flat_bank b = record {
  minor = b.minor;
  texts = b.texts;
  preset_heads = heads_of level.Preset b.presets;
  inst_heads = heads_of level.Inst b.instruments;
  preset = tables_at level.Preset b.presets;
  inst = tables_at level.Inst b.instruments;
  samples = b.samples;
}

abbrev pub flat_content : Content → FlatContent
flat_content c = record { bank = flat_bank c.bank; counts = c.counts }

-- ---- of the reader's result

abbrev pub content_seen : Flat × Counts → FlatContent
content_seen r = record { bank = r.0; counts = r.1 }
