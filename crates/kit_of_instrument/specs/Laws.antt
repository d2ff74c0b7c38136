-- The table of an instrument reads as its zones.
use Rattle.std.specs.Prelude.{ℕ}
use Rattle.bank_parts.specs.declared.parts.Parts.{Parts}
use Rattle.bank_parts.specs.Sound.{IsSound}
use Rattle.bank_folders.specs.Laws.{files_of}
use Rattle.kit_tables.specs.Rows.{rows_of}
use Rattle.kit_tables.specs.RowTexts.{ReadsAs}
use Rattle.kit_of_instrument.specs.KitZones.{kit_zones}
use Rattle.kit_of_instrument.specs.KitLines.{kit_text}

-- The table of instrument i reads as the zones that notes select, each with the file of its sample.
abbrev pub KitsReadBack : Type 0
KitsReadBack =
    (b : Parts) (i : ℕ) → IsSound b → ReadsAs (rows_of (kit_text (files_of b) b i)) (kit_zones (files_of b) b i)
