-- What a failed call may leave in the world of files.
use Rattle.std.specs.Prelude.{◌≡◌, ◌≢◌, ◌⊎◌, ℕ, List, Option, Some, None, Ok, Err, true, ⊤}
use Rattle.base_outputs.specs.declared.writing.WriteFault.{WriteFault}
use Rattle.sf_base.specs.declared.memory.Failure.{Failure}
use Rattle.sf_base.specs.declared.memory.Failure.TheVariants.{Fault, OutOfMemory}
use Rattle.file_host.specs.declared.input_fault.InputFault.{InputFault}
use Rattle.file_host.specs.declared.input_fault.InputFault.TheVariants.{NotFound}
use Rattle.file_host.specs.declared.faults.PairFault.{PairFault}
use Rattle.file_host.specs.declared.faults.PairFault.TheVariants as pair
use Rattle.file_host.specs.World.{World, Gives, held_at, place_of, stores_at}

-- A read failed with the fault that the file at this path has, or since an allocation failed.
abbrev pub ReadFails : Option World → List ℕ → Failure InputFault → Type 0
ReadFails world path (Fault fault) = Gives world path (Err fault)
ReadFails world path OutOfMemory = ⊤

-- Each file that was there at another place stays. The one at this path is as it was, or holds the whole text.
pub record SpoilsOne (old new : World) (path text : List ℕ) : Type 0 where
  pub paths : new.paths ≡ old.paths
  pub here : stores_at old path ≡ true → (held_at new path ≡ held_at old path) ⊎ (held_at new path ≡ Ok text)
  pub others : (place : List ℕ) → place ≢ place_of old path → old.files place ≢ Err NotFound
      → new.files place ≡ old.files place

-- the same, as far as is known
abbrev pub Spoils : Option World → Option World → List ℕ → List ℕ → Type 0
Spoils None new path text = ⊤
Spoils (Some old) None path text = ⊥
Spoils (Some old) (Some new) path text = SpoilsOne old new path text

-- a failed save: out of memory changes nothing
abbrev pub SaveFails : Option World → Option World → List ℕ → List ℕ → Failure WriteFault → Type 0
SaveFails old new path text (Fault fault) = Spoils old new path text
SaveFails old new path text OutOfMemory = new ≡ old

-- The old file at this path was moved to a place where nothing was.
pub record IsMovedAway (old new : World) (path : List ℕ) : Type 0 where
  pub gone : held_at new path ≡ Err NotFound
  pub kept : List ℕ
  pub free : old.files kept ≡ Err NotFound
  pub holds : new.files kept ≡ held_at old path

-- Each file that was there at another place stays. Where the two paths lead to two places that store: the file of the
-- undo script is as it was, or holds the whole script, or was moved away; the other file is as it was, or holds the whole
-- text, and then the undo script is whole.
pub record SpoilsTwo (old new : World) (undo_path undo path text : List ℕ) : Type 0 where
  pub paths : new.paths ≡ old.paths
  pub undo_here : place_of old undo_path ≢ place_of old path → stores_at old undo_path ≡ true
      → (held_at new undo_path ≡ held_at old undo_path) ⊎ (held_at new undo_path ≡ Ok undo)
      ⊎ IsMovedAway old new undo_path
  pub text_here : place_of old undo_path ≢ place_of old path → stores_at old path ≡ true
      → (held_at new path ≡ held_at old path)
      ⊎ ((held_at new path ≡ Ok text) × (stores_at old undo_path ≡ true → held_at new undo_path ≡ Ok undo))
  pub others : (place : List ℕ) → place ≢ place_of old undo_path → place ≢ place_of old path → old.files place ≢ Err NotFound
      → new.files place ≡ old.files place

-- the same, as far as is known
abbrev pub SpoilsPair : Option World → Option World → List ℕ → List ℕ → List ℕ → List ℕ → Type 0
SpoilsPair None new undo_path undo path text = ⊤
SpoilsPair (Some old) None undo_path undo path text = ⊥
SpoilsPair (Some old) (Some new) undo_path undo path text = SpoilsTwo old new undo_path undo path text

-- a failed save of a pair: out of memory changes nothing
abbrev pub PairFails : Option World → Option World → List ℕ → List ℕ → List ℕ → List ℕ → PairFault → Type 0
PairFails old new undo_path undo path text (pair.Write which written) = SpoilsPair old new undo_path undo path text
PairFails old new undo_path undo path text pair.OutOfMemory = new ≡ old

-- a write fault counts this many bytes
abbrev pub Counts : ℕ → Failure WriteFault → Type 0
Counts n (Fault fault) = fault.written ≡ n
Counts n OutOfMemory = ⊤

abbrev pub CountsPair : ℕ → PairFault → Type 0
CountsPair n (pair.Write which written) = written ≡ n
CountsPair n pair.OutOfMemory = ⊤
