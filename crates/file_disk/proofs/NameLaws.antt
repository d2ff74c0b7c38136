-- The names of temporary files.
use Rattle.std.proofs.Common.{ℕ, List, Result, Ok, Err, codes, inl, inr}
use Rattle.std.specs.Prelude.{OnOk}
use Rattle.file_disk.specs.Devices.{IsTemporary}
use Rattle.file_disk.specs.Names.{IsNumbered}

-- a numbered name of a new file is a temporary one
pub new_is_temporary : {U E : Type 0} (r : Result U E) (path : List ℕ) (number : ℕ)
    → IsNumbered path (codes "/sfbank-new-") number → OnOk r (IsTemporary path)
new_is_temporary (Ok u) path number n = record { folder = n.folder; number = number; name = inl n.name }
new_is_temporary (Err e) path number n = tt

-- a numbered name of an old file is a temporary one
pub old_is_temporary : (path : List ℕ) (number : ℕ) → IsNumbered path (codes "/sfbank-old-") number → IsTemporary path
old_is_temporary path number n = record { folder = n.folder; number = number; name = inr n.name }
