-- What a failed save of two files may leave.
use Rattle.std.specs.Prelude.{◌≡◌, ◌≢◌, ◌⊎◌, ℕ, List, Option, Some, None, Ok, Err, Bool, true, false, if◌then◌else◌, ⊤}
use Rattle.std.specs.Option.{option_map}
use Rattle.file_host.specs.declared.input_fault.InputFault.TheVariants.{NotFound}
use Rattle.file_host.specs.World.{World, place_of, held_at, with_file, without_file}
use Rattle.file_host.specs.declared.faults.PairFault.{PairFault}
use Rattle.file_host.specs.declared.faults.PairFault.TheVariants as pair
use Rattle.file_host.specs.Saving.{IsMovedAway, Spoils}
use Rattle.file_disk.specs.declared.keeping.KeepFault.{KeepFault}
use Rattle.file_disk.specs.declared.keeping.KeepFault.TheVariants.{NameTaken, Failed}
use Rattle.file_disk.specs.Devices.{moved, dropped}
use Rattle.file_disk.specs.Frames.{IsFileOrLasting, IfKnown, Litters}

-- a file is at this path, as far as is known
abbrev pub IsThere : Option World → List ℕ → Type 0
IsThere None path = ⊤
IsThere (Some world) path = held_at world path ≢ Err NotFound

-- two paths lead to two places, as far as is known
abbrev pub AreApart : Option World → List ℕ → List ℕ → Type 0
AreApart None one other = ⊤
AreApart (Some world) one other = place_of world one ≢ place_of world other

-- an old file could not be kept: nothing changed where the name is taken
abbrev pub KeepFails : Option World → Option World → KeepFault → Type 0
KeepFails old new NameTaken = new ≡ old
KeepFails old new Failed = IfKnown Litters old new

-- The new file could not be put at this path: the old one is as it was, or was moved away.
pub record UndoFails (path : List ℕ) (old new : World) : Type 0 where
  pub paths : new.paths ≡ old.paths
  pub here : (held_at new path ≡ held_at old path) ⊎ IsMovedAway old new path
  pub others : (place : List ℕ) → place ≢ place_of old path → IsFileOrLasting old place
      → new.files place ≡ old.files place

-- an old file is put back, or, where none was, a new one is removed
abbrev pub put_back : Bool → List ℕ → List ℕ → World → World
put_back true path kept world = moved kept path world
put_back false path kept world = without_file path world

-- nothing changed, or an old file is back
abbrev pub MayPutBack : Bool → List ℕ → List ℕ → Option World → Option World → Type 0
MayPutBack is_there path kept old new = (new ≡ old) ⊎ (new ≡ option_map (put_back is_there path kept) old)

-- the new text is in place, and the old undo script is gone
abbrev pub text_put : Bool → List ℕ → List ℕ → List ℕ → World → World
text_put is_there kept path new_text world = dropped is_there kept (moved new_text path world)

-- both new files are in place
abbrev pub puts_both : List ℕ → List ℕ → List ℕ → List ℕ → World → World
puts_both undo_path new_undo path new_text world = moved new_text path (moved new_undo undo_path world)

-- The file of the undo script, whose old one was kept where one was, is as it was put, or the old one is back.
pub record PutsBack (is_there : Bool) (path kept new_text : List ℕ) (old new : World) : Type 0 where
  pub paths : new.paths ≡ old.paths
  pub here : (held_at new path ≡ held_at old path)
      ⊎ (held_at new path ≡ (if is_there then held_at old kept else Err NotFound))
  pub others : (place : List ℕ) → place ≢ place_of old path → (is_there ≡ true → place ≢ place_of old kept)
      → place ≢ place_of old new_text → new.files place ≡ old.files place

-- The text could not be put in place, or the old undo script could not be removed after it was.
abbrev pub TextFails : Bool → List ℕ → List ℕ → List ℕ → List ℕ → World → World → Type 0
TextFails is_there undo_path kept path new_text old new =
    (new ≡ moved new_text path old) ⊎ PutsBack is_there undo_path kept new_text old new

-- Two new files could not both be put in place.
pub record BothFail (undo_path new_undo path new_text : List ℕ) (old new : World) : Type 0 where
  pub paths : new.paths ≡ old.paths
  pub undo_here : place_of old undo_path ≢ place_of old path
      → (held_at new undo_path ≡ held_at old undo_path) ⊎ (held_at new undo_path ≡ held_at old new_undo)
      ⊎ IsMovedAway old new undo_path
  pub text_here : place_of old undo_path ≢ place_of old path
      → (held_at new path ≡ held_at old path)
      ⊎ ((held_at new path ≡ held_at old new_text) × (held_at new undo_path ≡ held_at old new_undo))
  pub others : (place : List ℕ) → place ≢ place_of old undo_path → place ≢ place_of old path → place ≢ place_of old new_undo
      → place ≢ place_of old new_text → IsFileOrLasting old place → new.files place ≡ old.files place

-- both texts are the files at these paths
abbrev pub both_saved : List ℕ → List ℕ → List ℕ → List ℕ → World → World
both_saved undo_path undo path text world = with_file path (Ok text) (with_file undo_path (Ok undo) world)

-- a failed save of a text after its undo script was written to a pipe or a device
abbrev pub AfterUndo : Option World → Option World → List ℕ → List ℕ → PairFault → Type 0
AfterUndo old new path text (pair.Write which written) = Spoils old new path text
AfterUndo old new path text pair.OutOfMemory = new ≡ old

-- a failed save of an undo script, whose text is written to a pipe or a device
abbrev pub OnlyLitters : Option World → Option World → PairFault → Type 0
OnlyLitters old new (pair.Write which written) = IfKnown Litters old new
OnlyLitters old new pair.OutOfMemory = new ≡ old
