-- On files: what `import --kit` reads of a folder that `wave --all` saved.
use Rattle.std.specs.Prelude.{◌≡◌, ◌<◌, ℕ, List, length, None, Option, Ok, slice_get, Some}
use Rattle.std.specs.List.{AllByRecursion}
use Rattle.std.specs.Path.{path_join}
use Rattle.bank_folders.specs.Laws.{files_of}
use Rattle.bank_format.specs.ReadChecks.{fault_of}
use Rattle.bank_parts.specs.declared.parts.Parts.{Parts}
use Rattle.bank_parts.specs.declared.parts.Sample.{Sample}
use Rattle.file_host.specs.World.{World, file_at}
use Rattle.hydra_records.specs.Records.{AreBytes}
use Rattle.kit_of_instrument.specs.KitZones as kits
use Rattle.kit_tables.specs.Rows.{rows_of}
use Rattle.kit_tables.specs.RowTexts.{ReadsAs}
use Rattle.wave_file.specs.SampleWave.{sample_wave}
use Rattle.sfbank.specs.KitFolders.{kit_path, kit_steps}
use Rattle.sfbank.specs.Outcome.{bank_in}
use Rattle.sfbank.specs.PackedFiles.{AreApart, IsShort, ReadsAlike}
use Rattle.sfbank.specs.SavedFolders.{saved_steps}

-- The table of a folder reads as the zones of instrument i that notes select, and the file of each sample, from the folder
-- on, gives the WAVE file of that sample.
pub record ReadsKit (w : World) (folder : List ℕ) (b : Parts) (i : ℕ) : Type 0 where
  pub text : List ℕ
  pub is_text : file_at w (kit_path folder) ≡ Ok text
  pub zones : ReadsAs (rows_of text) (kits.kit_zones (files_of b) b i)
  pub waves : (n : ℕ) (s : Sample) → slice_get b.samples n ≡ Some s
      → file_at w (path_join folder (kits.file_at (files_of b) n)) ≡ Ok (sample_wave s)

-- Wherever the samples of a bank were saved with the table of an instrument, they are read back. Other files may have
-- changed meanwhile.
abbrev pub SavedKitsReadBack : Type 0
SavedKitsReadBack =
    (folder file : List ℕ) (i : ℕ) (old left now : World) → AreBytes file → fault_of file ≡ None
    → left ≡ saved_steps (kit_steps folder i (bank_in file)) old
    → AreApart old (kit_steps folder i (bank_in file))
    → AllByRecursion IsShort (kit_steps folder i (bank_in file))
    → AllByRecursion (ReadsAlike left now) (kit_steps folder i (bank_in file))
    → ReadsKit now folder (bank_in file) i
