-- The invariant of every bank at run time.
use Rattle.bank_parts.specs.declared.parts.Parts.{Parts}
use Rattle.bank_parts.specs.Valid.{IsValid}
use Rattle.bank_parts.specs.Fits.{Fits}

-- valid, with each number, name and text in the range of its field
pub record IsSound (b : Parts) : Type 0 where
  pub valid : IsValid b
  pub fits : Fits b
