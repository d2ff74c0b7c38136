-- What stays while one file is written.
use Rattle.std.specs.Prelude.{◌≡◌, ◌≢◌, ◌⊎◌, ℕ, List, [], Option, Some, None, Result, Ok, Err, ⊤}
use Rattle.std.specs.Option.{option_map}
use Rattle.base_outputs.specs.declared.writing.WriteFault.{WriteFault}
use Rattle.sf_base.specs.declared.memory.Failure.{Failure}
use Rattle.sf_base.specs.declared.memory.Failure.TheVariants.{Fault, OutOfMemory}
use Rattle.file_host.specs.declared.input_fault.InputFault.{InputFault}
use Rattle.file_host.specs.declared.input_fault.InputFault.TheVariants.{NotFound}
use Rattle.file_host.specs.World.{World, place_of, held_at, with_file, without_file}
use Rattle.file_disk.specs.Devices.{IsTemporary, IsNew}

-- what the file at a path holds, in a world that may not be known
abbrev pub held_of : Option World → List ℕ → Result (List ℕ) InputFault
held_of None path = Err NotFound
held_of (Some world) path = held_at world path

-- all but the file at this path is as it was
abbrev pub Frame : Option World → Option World → List ℕ → Type 0
Frame before now path = now ≡ option_map (with_file path (held_of now path)) before

-- the bytes of a file that can be read
abbrev pub known_bytes : Result (List ℕ) InputFault → Option (List ℕ)
known_bytes (Ok bytes) = Some bytes
known_bytes (Err fault) = None

-- the bytes of the file at a path, None where they aren't known
abbrev pub known_at : Option World → List ℕ → Option (List ℕ)
known_at None path = None
known_at (Some world) path = known_bytes (held_at world path)

-- At a place there is a file, or no temporary file can be.
abbrev pub IsFileOrLasting : World → List ℕ → Type 0
IsFileOrLasting world place =
    (world.files place ≢ Err NotFound) ⊎ ((other : List ℕ) → IsTemporary other → place_of world other ≢ place)

-- All is as it was, but at places of temporary files where nothing was.
pub record Litters (before now : World) : Type 0 where
  pub paths : now.paths ≡ before.paths
  pub files : (place : List ℕ) → IsFileOrLasting before place → now.files place ≡ before.files place

-- a relation of two worlds, as far as is known
abbrev pub IfKnown : (World → World → Type 0) → Option World → Option World → Type 0
IfKnown R None None = ⊤
IfKnown R None (Some now) = ⊥
IfKnown R (Some before) None = ⊥
IfKnown R (Some before) (Some now) = R before now

-- A temporary file with this text was made where nothing was.
pub record Makes (before now : Option World) (path text : List ℕ) : Type 0 where
  pub named : IsTemporary path
  pub free : IsNew before path
  pub world : now ≡ option_map (with_file path (Ok text)) before

-- nothing changed, or the file at this path is gone
abbrev pub MayLose : Option World → Option World → List ℕ → Type 0
MayLose before now path = (now ≡ before) ⊎ (now ≡ option_map (without_file path) before)

-- a fault after which this holds; out of memory is none
abbrev pub IfFault : Type 0 → Failure WriteFault → Type 0
IfFault P (Fault fault) = P
IfFault P OutOfMemory = ⊥

-- the file at this path is empty, as far as is known
abbrev pub IsEmptyAt : Option World → List ℕ → Type 0
IsEmptyAt None path = ⊤
IsEmptyAt (Some world) path = held_at world path ≡ Ok []
