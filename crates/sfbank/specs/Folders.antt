-- A bank as a folder: the bank that is made of its text and of its WAVE files.
use Rattle.std.specs.Prelude.{◌≡◌, ℕ, suc, Bool, List, [], ◌∷◌, None, Result, Ok, Err}
use Rattle.bank_parts.specs.declared.parts.Sample.{Sample}
use Rattle.std.specs.List.{AllZip, enumerate_from, zip}
use Rattle.hydra_records.specs.Records.{AreBytes}
use Rattle.bank_format.specs.Canon.{canon}
use Rattle.bank_format.specs.ReadChecks.{fault_of}
use Rattle.bank_folders.specs.declared.bare.BareSample.{BareSample}
use Rattle.bank_folders.specs.Folders.{bare_samples, filled, points_for}
use Rattle.bank_folders.specs.Minors.{minor_in}
use Rattle.edit_script.specs.declared.parsing.Line.{Line}
use Rattle.edit_script.specs.Script.{script_of}
use Rattle.script_of_bank.specs.BankEdits.{empty}
use Rattle.script_tokens.specs.declared.fault.ScriptFault.{ScriptFault}
use Rattle.wave_file.specs.declared.fault.WaveFault.{WaveFault}
use Rattle.program_reports.specs.declared.run_fault.RunFault.{RunFault}
use Rattle.program_reports.specs.declared.run_fault.RunFault.TheVariants as run
use Rattle.sfbank.specs.BankScripts.{bare_form, script_outcome}
use Rattle.sfbank.specs.Outcome.{after_script, bank_in}
use Rattle.sfbank.specs.PlanParts.{without_undo}
use Rattle.sfbank.specs.Recordings.{wave_outcome}

-- ---- the points

-- the points of a sample before others, or their fault with the sample's number, which comes first
abbrev pub and_points : ℕ → Result (List ℕ) WaveFault → Result (List (List ℕ)) RunFault → Result (List (List ℕ)) RunFault
and_points n (Err fault) others = Err (run.InRecording n fault)
and_points n (Ok points) (Err fault) = Err fault
and_points n (Ok points) (Ok more) = Ok (points ∷ more)

-- the points of samples by their WAVE files, of which the first has the number n, or the first fault
abbrev pub points_from : ℕ → List (BareSample × List ℕ) → Result (List (List ℕ)) RunFault
points_from n [] = Ok []
points_from n (p ∷ pairs) = and_points n (points_for p.0 p.1) (points_from (suc n) pairs)

-- the same, numbered from 1
abbrev pub all_points : List BareSample → List (List ℕ) → Result (List (List ℕ)) RunFault
all_points samples waves = points_from 1 (zip samples waves)

-- ---- the bank

-- the file of the bank that lines make of the empty bank of this minor version
abbrev pub made_of : ℕ → List Line → Result (List ℕ) RunFault
made_of minor lines = without_undo (after_script (empty minor) (Ok lines))

-- the same, each sample without points with those of its WAVE file
abbrev pub after_points : ℕ → List Line → Result (List (List ℕ)) RunFault → Result (List ℕ) RunFault
after_points minor lines (Ok points) = made_of minor (filled lines points)
after_points minor lines (Err fault) = Err fault

-- the lines of a text, or the fault of a run
abbrev pub lines_read : Result (List Line) ScriptFault → Result (List Line) RunFault
lines_read (Ok lines) = Ok lines
lines_read (Err fault) = Err (run.Script fault)

abbrev pub packed : ℕ → Result (List Line) RunFault → List (List ℕ) → Result (List ℕ) RunFault
packed minor (Ok lines) waves = after_points minor lines (all_points (bare_samples lines) waves)
packed minor (Err fault) waves = Err fault

-- The first fault of the text, else of the first WAVE file that can't have its sample's points, else the first refused
-- line, else the canonical file of the bank.
unfoldable pub pack_outcome : List ℕ → List (List ℕ) → Result (List ℕ) RunFault
pack_outcome text waves = packed (minor_in text) (lines_read (script_of text)) waves

-- ---- laws

-- these are the WAVE files of some samples of a file's bank, of which the first has the number n
abbrev pub AreWavesFrom : List ℕ → ℕ → List Sample → List (List ℕ) → Type 0
AreWavesFrom file n samples waves =
    AllZip (λ (numbered : ℕ × Sample) (wave : List ℕ). wave_outcome file numbered.0 ≡ Ok wave)
    (enumerate_from n samples) waves

-- these are the WAVE files of all its samples
abbrev pub AreItsWaves : List ℕ → List (List ℕ) → Type 0
AreItsWaves file waves = AreWavesFrom file 0 (bank_in file).samples waves

-- The script of a file without points and the WAVE file of each of its samples make the canonical file of its bank.
abbrev pub FoldersPackBack : Type 0
FoldersPackBack =
    (comments : Bool) (file text : List ℕ) (waves : List (List ℕ)) → AreBytes file → fault_of file ≡ None
    → script_outcome (bare_form comments) file ≡ Ok text → AreItsWaves file waves
    → pack_outcome text waves ≡ Ok (canon (bank_in file))
