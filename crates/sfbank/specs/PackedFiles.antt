-- On files: what `pack` makes of a folder that `unpack` saved.
use Rattle.std.specs.Prelude.{◌≡◌, ◌≢◌, nat_le, ℕ, List, [], ◌∷◌, length, None, Ok, true, ⊤}
use Rattle.std.specs.List.{AllByRecursion, AllZip}
use Rattle.hydra_records.specs.Records.{AreBytes}
use Rattle.bank_format.specs.Canon.{canon}
use Rattle.bank_format.specs.ReadChecks.{fault_of}
use Rattle.file_host.specs.World.{World, file_at, most_bytes, place_of, stores_at}
use Rattle.sfbank.specs.FolderPlans.{entries_of_text, folder_steps, text_path}
use Rattle.sfbank.specs.Folders.{pack_outcome}
use Rattle.sfbank.specs.KitPlans.{Entry}
use Rattle.sfbank.specs.Outcome.{bank_in}
use Rattle.sfbank.specs.PlanParts.{FolderStep, MakesFolder, SavesFile}
use Rattle.sfbank.specs.SavedFolders.{saved_steps}

-- the path of a step
abbrev pub path_of_step : FolderStep → List ℕ
path_of_step (MakesFolder path) = path
path_of_step (SavesFile path text) = path

-- two steps are at two places
abbrev pub IsApartFrom : World → FolderStep → FolderStep → Type 0
IsApartFrom w s t = place_of w (path_of_step t) ≢ place_of w (path_of_step s)

-- a file is at a place that stores
abbrev pub IsStored : World → FolderStep → Type 0
IsStored w (MakesFolder path) = ⊤
IsStored w (SavesFile path text) = stores_at w path ≡ true

-- each file is at a place that stores, and no two steps are at one place
abbrev pub AreApart : World → List FolderStep → Type 0
AreApart w [] = ⊤
AreApart w (s ∷ steps) = IsStored w s × AllByRecursion (IsApartFrom w s) steps × AreApart w steps

-- a file is no longer than the longest that can be read
abbrev pub IsShort : FolderStep → Type 0
IsShort (MakesFolder path) = ⊤
IsShort (SavesFile path text) = nat_le (length text) most_bytes ≡ true

-- a read at the path of a step gives the same in two worlds
abbrev pub ReadsAlike : World → World → FolderStep → Type 0
ReadsAlike left now s = file_at now (path_of_step s) ≡ file_at left (path_of_step s)

-- The files of a folder read as a text and as the WAVE files of its lines, and these make the canonical file of the bank of
-- a file.
pub record PacksBack (w : World) (folder file : List ℕ) : Type 0 where
  pub text : List ℕ
  pub waves : List (List ℕ)
  pub is_text : file_at w (text_path folder) ≡ Ok text
  pub are_waves : AllZip (λ (e : Entry) (wave : List ℕ). file_at w e.path ≡ Ok wave) (entries_of_text folder (Ok text)) waves
  pub packs : pack_outcome text waves ≡ Ok (canon (bank_in file))

-- Wherever the bank of a file was saved as a folder, packing the folder makes its canonical file. Other files may have
-- changed meanwhile.
abbrev pub SavedFoldersPackBack : Type 0
SavedFoldersPackBack =
    (folder file : List ℕ) (old left now : World) → AreBytes file → fault_of file ≡ None
    → left ≡ saved_steps (folder_steps folder (bank_in file)) old
    → AreApart old (folder_steps folder (bank_in file))
    → AllByRecursion IsShort (folder_steps folder (bank_in file))
    → AllByRecursion (ReadsAlike left now) (folder_steps folder (bank_in file))
    → PacksBack now folder file
