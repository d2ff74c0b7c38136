-- How much of a text is written, with and without a fault.
use Rattle.std.specs.Prelude.{◌≡◌, ◌<◌, ◌≤◌, ◌+◌, ℕ, List, length, take, Option, Result, Ok, Err}
use Rattle.std.specs.Io.KnownBytes.{Appends, Keeps}
use Rattle.base_outputs.specs.declared.writing.WriteFault.{WriteFault}

-- After `sent` earlier bytes, exactly a proper prefix of the text is written. The fault counts both.
pub record StopsIn (old new : Option (List ℕ)) (sent : ℕ) (text : List ℕ) (written : ℕ) : Type 0 where
  pub part : ℕ
  pub within : part < length text
  pub counted : written ≡ sent + part
  pub front : Appends old new (take part text)

-- After `sent` earlier bytes, the whole text is written, and the total counts both; or the writer stops within the
-- text.
abbrev pub WritesAfter : Option (List ℕ) → Option (List ℕ) → ℕ → List ℕ → Result ℕ WriteFault → Type 0
WritesAfter old new sent text (Ok total) = (total ≡ sent + length text) × Appends old new text
WritesAfter old new sent text (Err fault) = StopsIn old new sent text fault.written

-- The whole text is written, or exactly its first `written` bytes, which are not all.
abbrev pub Writes : {U : Type 0} → Option (List ℕ) → Option (List ℕ) → List ℕ → Result U WriteFault → Type 0
Writes old new text (Ok u) = Appends old new text
Writes old new text (Err fault) = (fault.written < length text) × Appends old new (take fault.written text)

-- A flush writes no further bytes, and its fault comes after all `sent` bytes.
abbrev pub Flushes : {U : Type 0} → Option (List ℕ) → Option (List ℕ) → ℕ → Result U WriteFault → Type 0
Flushes old new sent (Ok u) = Keeps old new
Flushes old new sent (Err fault) = (fault.written ≡ sent) × Keeps old new

-- The whole text is written, or exactly its first `written` bytes. These may be all: the fault may be a flush's, which
-- writes no further bytes.
abbrev pub Delivers : {U : Type 0} → Option (List ℕ) → Option (List ℕ) → List ℕ → Result U WriteFault → Type 0
Delivers old new text (Ok u) = Appends old new text
Delivers old new text (Err fault) = (fault.written ≤ length text) × Appends old new (take fault.written text)
