-- What the calls of a device do to the world of files.
use Rattle.std.specs.Prelude.{◌≡◌, ◌≢◌, ◌⊎◌, ℕ, List, [], ◌++◌, Option, Some, None, Result, Ok, Err, Bool, true, false}
use Rattle.std.specs.Prelude.{codes, decimal, string_bytes, ⊤}
use Rattle.file_host.specs.declared.input_fault.InputFault.{InputFault}
use Rattle.file_host.specs.declared.input_fault.InputFault.TheVariants.{NotFound}
use Rattle.file_host.specs.World.{World, place_of, held_at, stores_at, with_file, without_file}
use Rattle.file_disk.specs.declared.target.StoredFile.{StoredFile}
use Rattle.file_disk.specs.declared.target.Target.{Target}
use Rattle.file_disk.specs.declared.target.Target.TheVariants.{Stores, InPlace}

-- a name of a new file, or of an old file that is kept, in a folder
abbrev pub new_name : List ℕ → ℕ → List ℕ
new_name folder number = folder ++ codes "/sfbank-new-" ++ decimal number

abbrev pub old_name : List ℕ → ℕ → List ℕ
old_name folder number = folder ++ codes "/sfbank-old-" ++ decimal number

-- A path names a temporary file.
pub record IsTemporary (path : List ℕ) : Type 0 where
  pub folder : List ℕ
  pub number : ℕ
  pub name : (path ≡ new_name folder number) ⊎ (path ≡ old_name folder number)

-- The second path leads to the place of the first, which stores. It is no link itself, and no temporary file is at that
-- place.
pub record LeadsTo (world : World) (path real : List ℕ) (is_there : Bool) : Type 0 where
  pub place : place_of world real ≡ place_of world path
  pub stores : stores_at world path ≡ true
  pub direct : world.paths.is_link real ≡ false
  pub apart : (other : List ℕ) → IsTemporary other → place_of world other ≢ place_of world path
  pub there : is_there ≡ true → held_at world path ≢ Err NotFound
  pub nothing : is_there ≡ false → held_at world path ≡ Err NotFound

-- what a path leads to, in a world that is known
abbrev pub LeadsIn : World → List ℕ → Target → Type 0
LeadsIn world path (Stores file) = LeadsTo world path (string_bytes file.path) file.is_there
LeadsIn world path InPlace = stores_at world path ≡ false

-- what a path leads to, as far as is known
abbrev pub Leads : Option World → List ℕ → Target → Type 0
Leads None path target = ⊤
Leads (Some world) path target = LeadsIn world path target

-- A file is where its path says, in a world that may not be known: the path leads to its own place.
abbrev pub IsTarget : Option World → StoredFile → Type 0
IsTarget None file = ⊤
IsTarget (Some world) file = LeadsTo world (string_bytes file.path) (string_bytes file.path) file.is_there

-- Nothing is at this path, which is no link and can hold a file.
pub record IsFree (world : World) (path : List ℕ) : Type 0 where
  pub nothing : held_at world path ≡ Err NotFound
  pub stores : stores_at world path ≡ true
  pub direct : world.paths.is_link path ≡ false

-- the same, as far as is known
abbrev pub IsNew : Option World → List ℕ → Type 0
IsNew None path = ⊤
IsNew (Some world) path = IsFree world path

-- no temporary file is at the place of a path, as far as is known
abbrev pub IsLasting : Option World → List ℕ → Type 0
IsLasting None path = ⊤
IsLasting (Some world) path = (other : List ℕ) → IsTemporary other → place_of world other ≢ place_of world path

-- a path is no link, as far as is known
abbrev pub IsDirect : Option World → List ℕ → Type 0
IsDirect None path = ⊤
IsDirect (Some world) path = world.paths.is_link path ≡ false

-- a path, where the world is known
abbrev pub if_known : Option World → Option (List ℕ) → Option (List ℕ)
if_known None path = None
if_known (Some world) path = path

-- This file is open for writing, or None for one that doesn't store, as far as the world is known.
abbrev pub IsOpen : Option World → Option (List ℕ) → Option (List ℕ) → Type 0
IsOpen world now path = if_known world now ≡ if_known world path

-- the bytes of a file, none where it can't be read
abbrev pub bytes_in : Result (List ℕ) InputFault → List ℕ
bytes_in (Ok bytes) = bytes
bytes_in (Err fault) = []

-- more bytes at the end of the open file
abbrev pub grown : Option (List ℕ) → List ℕ → World → World
grown None bytes world = world
grown (Some path) bytes world = with_file path (Ok (bytes_in (held_at world path) ++ bytes)) world

-- whether the open file has bytes that are not synced, after more are appended: one that doesn't store has none
abbrev pub dirty_after : Option (List ℕ) → Bool → Bool
dirty_after None dirty = dirty
dirty_after (Some path) dirty = true

-- the file at one path, at another one
abbrev pub moved : List ℕ → List ℕ → World → World
moved from to world = with_file to (held_at world from) (without_file from world)

-- the file at one path, at another one too
abbrev pub linked : List ℕ → List ℕ → World → World
linked from to world = with_file to (held_at world from) world

-- the file at one path, at another one, whose old file is kept at a third where one is there
abbrev pub kept_moved : Bool → List ℕ → List ℕ → List ℕ → World → World
kept_moved true from to kept world = with_file kept (held_at world to) (moved from to world)
kept_moved false from to kept world = moved from to world

-- an old file is kept at another path by a link, or by a move
abbrev pub kept_as : Bool → List ℕ → List ℕ → World → World
kept_as true path kept world = linked path kept world
kept_as false path kept world = moved path kept world

-- an old file is kept no more, where one was
abbrev pub dropped : Bool → List ℕ → World → World
dropped true kept world = without_file kept world
dropped false kept world = world

-- the world of a device, if there is one
abbrev pub world_in : {D : Type 0} → (D → Option World) → Option D → Option World
world_in world None = None
world_in world (Some device) = world device
