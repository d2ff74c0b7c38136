-- A bank as a folder gives back the edits that list the bank.
use Rattle.std.specs.Prelude.{◌≡◌, ℕ, suc, List, [], ◌∷◌, map, Ok}
use Rattle.std.specs.List.{AllZip}
use Rattle.bank_parts.specs.declared.parts.Sample.{Sample}
use Rattle.bank_parts.specs.declared.parts.Parts.{Parts}
use Rattle.bank_parts.specs.Sound.{IsSound}
use Rattle.edit_script.specs.declared.parsing.Line.{Line}
use Rattle.edit_script.specs.Script.{script_of}
use Rattle.edit_script.specs.Printing.{numbered}
use Rattle.script_of_bank.specs.declared.samples.SamplePoints.TheVariants.{LeftOut}
use Rattle.script_of_bank.specs.BankEdits.{edits_of_bank}
use Rattle.script_of_bank.specs.BankScript.{bank_script, with_points}
use Rattle.wave_file.specs.SampleWave.{sample_wave}
use Rattle.bank_folders.specs.declared.bare.BareSample.{BareSample}
use Rattle.bank_folders.specs.SampleFiles.{sample_file}
use Rattle.bank_folders.specs.Minors.{minor_in}
use Rattle.bank_folders.specs.Folders.{bare_samples, points_for, filled}

-- ---- the files of a folder

-- the names of the files of samples; the first sample has the number n
abbrev pub files_from : ℕ → List Sample → List (List ℕ)
files_from n [] = []
files_from n (s ∷ samples) = sample_file n s.name ∷ files_from (suc n) samples

-- the names of the files of a bank's samples
abbrev pub files_of : Parts → List (List ℕ)
files_of b = files_from 0 b.samples

-- the name of the file of a sample that a line adds without points
abbrev pub file_of_bare : BareSample → List ℕ
file_of_bare s = sample_file s.number s.name

-- the lines of a bank's text without points
abbrev pub bare_lines : Parts → List Line
bare_lines b = numbered 2 (edits_of_bank (with_points LeftOut b))

-- the WAVE file of this sample of a bank gives its points to the sample that a line adds
abbrev pub GetsPoints : BareSample → Sample → Type 0
GetsPoints bare s = points_for bare (sample_wave s) ≡ Ok s.points

-- ---- the law

-- The text and the files of a bank give back its minor version and the edits that list it.
pub record IsPacked (b : Parts) : Type 0 where
  pub read : script_of (bank_script LeftOut b) ≡ Ok (bare_lines b)
  pub minor : minor_in (bank_script LeftOut b) ≡ b.minor
  pub files : map file_of_bare (bare_samples (bare_lines b)) ≡ files_of b
  pub points : AllZip GetsPoints (bare_samples (bare_lines b)) b.samples
  pub given : filled (bare_lines b) (map (λ (s : Sample). s.points) b.samples) ≡ numbered 2 (edits_of_bank b)

abbrev pub FoldersGiveBank : Type 0
FoldersGiveBank = (b : Parts) → IsSound b → IsPacked b
