-- The first bytes of files.
use Rattle.std.specs.Prelude.{◌≡◌, ◌<◌, ℕ, List, length, take, Option, Some, None, Result, Ok, Err}
use Rattle.std.specs.Prelude.{Bool, true, false, ⊤}
use Rattle.file_host.specs.declared.input_fault.InputFault.{InputFault}
use Rattle.file_host.specs.declared.input_fault.InputFault.TheVariants.{NotFound}
use Rattle.file_host.specs.World.{World, held_at}
use Rattle.file_host.specs.Checks.{begins_as_bank}

-- whether a file has as many bytes as these, and begins with them; one that can't be read to its end may
abbrev pub HasHead : List ℕ → Result (List ℕ) InputFault → Bool → Type 0
HasHead head (Ok bytes) true = take (length head) bytes ≡ head
HasHead head (Ok bytes) false = length bytes < length head
HasHead head (Err fault) found = fault ≡ NotFound → found ≡ false

-- the same of the file at a path, as far as is known
abbrev pub ReadsHead : Option World → List ℕ → List ℕ → Bool → Type 0
ReadsHead None path head found = ⊤
ReadsHead (Some world) path head found = HasHead head (held_at world path) found

-- whether a file begins as a bank; one that can't be read to its end may
abbrev pub Begins : Result (List ℕ) InputFault → Bool → Type 0
Begins (Ok bytes) found = found ≡ begins_as_bank bytes
Begins (Err fault) found = fault ≡ NotFound → found ≡ false

-- the same of the file at a path, as far as is known
abbrev pub BeginsAt : Option World → List ℕ → Bool → Type 0
BeginsAt None path found = ⊤
BeginsAt (Some world) path found = Begins (held_at world path) found
