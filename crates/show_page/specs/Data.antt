-- The data of a page: a bank as lists in JSON. The list of all presets begins with a word, and the presets follow it;
-- so do instruments and samples.
use Rattle.std.specs.Prelude.{ℕ, List, [], ◌∷◌, ◌++◌, codes}
use Rattle.std.specs.List.{flat_map}
use Rattle.bank_parts.specs.declared.parts.Parts.{Parts}
use Rattle.show_findings.specs.declared.finding.Finding.{Finding}
use Rattle.show_page.specs.declared.json.Field.{Field}
use Rattle.show_page.specs.declared.json.Field.TheVariants.{Number, Text}
use Rattle.show_page.specs.Json.{more}
use Rattle.show_page.specs.Zones.{preset_head, instrument_head, owner_text}
use Rattle.show_page.specs.Samples.{sample_text}
use Rattle.show_page.specs.Findings.{finding_text}

-- the version and the texts
unfoldable pub bank_fields : Parts → List Field
bank_fields b =
    Number b.minor
    ∷ Text b.texts.engine ∷ Text b.texts.name ∷ Text b.texts.date ∷ Text b.texts.engineers
    ∷ Text b.texts.product ∷ Text b.texts.copyright ∷ Text b.texts.comment ∷ Text b.texts.software
    ∷ []

-- a list for the bank, and lists of all presets, instruments, samples and findings
unfoldable pub page_data : Parts → List Finding → List ℕ
page_data b findings =
    codes "[[\"bank\""
    ++ (more (bank_fields b)
    ++ (codes "],\n[\"presets\""
    ++ (flat_map (owner_text preset_head) b.presets
    ++ (codes "],\n[\"instruments\""
    ++ (flat_map (owner_text instrument_head) b.instruments
    ++ (codes "],\n[\"samples\""
    ++ (flat_map sample_text b.samples
    ++ (codes "],\n[\"findings\"" ++ (flat_map finding_text findings ++ codes "]]")))))))))
