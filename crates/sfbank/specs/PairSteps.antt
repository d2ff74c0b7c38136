-- The steps that find a pair of samples to be written as a WAVE file.
use Rattle.std.specs.Prelude.{◌≡◌, ℕ, List, Bool, true, length, slice_get, Option, Some, Result, Ok, Err}
use Rattle.bank_parts.specs.declared.parts.Sample.{Sample}
use Rattle.pair_waves.specs.PairWave.{pair_wave}
use Rattle.program_reports.specs.declared.run_fault.RunFault.{RunFault}
use Rattle.sfbank.specs.Recordings.{are_alike, pair_wave_of, wave_of_both}
use Rattle.sfbank.specs.Written.{FailsBefore}

-- two samples that are there and alike, or why there is no WAVE file of them
abbrev pub FindsAlike : {X : Type 0} → (X → Sample × Sample) → Option Sample → Option Sample → Result X RunFault → Type 0
FindsAlike view left right (Ok x) =
    (left ≡ Some (view x).0) × (right ≡ Some (view x).1) × (are_alike (view x).0 (view x).1 ≡ true)
FindsAlike view left right (Err fault) = FailsBefore fault (wave_of_both left right)

-- the samples of a pair whose WAVE file is wanted for a sample
pub record IsPairFor (samples : List Sample) (number : ℕ) (left right : Sample) : Type 0 where
  pub text : pair_wave_of samples number (slice_get samples number) ≡ Ok (pair_wave left right)
  pub same : length left.points ≡ length right.points
  pub place : ℕ
  pub member : Some left ≡ slice_get samples place

abbrev pub FindsPair : {X : Type 0} → (X → Sample × Sample) → List Sample → ℕ → Result X RunFault → Type 0
FindsPair view samples number (Ok x) = IsPairFor samples number (view x).0 (view x).1
FindsPair view samples number (Err fault) = FailsBefore fault (pair_wave_of samples number (slice_get samples number))
