-- The world of files, and how it changes. None stands for a world of which nothing is known.
use Rattle.std.specs.Prelude.{◌≡◌, ℕ, List, length, Option, Some, None, Result, Ok, Err, Bool, true, false}
use Rattle.std.specs.Prelude.{if◌then◌else◌, nat_le, ⊤}
use Rattle.std.specs.Str.{bytes_eq}
use Rattle.file_host.specs.declared.input_fault.InputFault.{InputFault}
use Rattle.file_host.specs.declared.input_fault.InputFault.TheVariants.{NotFound, IsFolder, TooLong}

-- where paths lead
pub record Paths : Type 0 where
  -- the place of the file that a path leads to: two paths may lead to one file
  pub place : List ℕ → List ℕ
  -- whether a path is itself a link, which leads to the place of another path
  pub is_link : List ℕ → Bool
  -- whether a path leads to the standard output of the program
  pub is_output : List ℕ → Bool
  -- whether what is written at a place is what a later read gives there: a regular file or nothing yet, and no pipe,
  -- device or folder
  pub stores : List ℕ → Bool
  -- whether several outputs may be at a place: a character device, which keeps nothing
  pub is_shared : List ℕ → Bool

pub record World : Type 0 where
  pub paths : Paths
  -- what the file at each place holds, or why it can't be read: NotFound where there is none
  pub files : List ℕ → Result (List ℕ) InputFault

-- The most bytes of a file that can be read.
abbrev pub most_bytes : ℕ
most_bytes = 4294967303

-- what a read gives of a file that holds this
abbrev pub read_of : Result (List ℕ) InputFault → Result (List ℕ) InputFault
read_of (Ok bytes) = if nat_le (length bytes) most_bytes then Ok bytes else Err TooLong
read_of (Err fault) = Err fault

-- the place that a path leads to
abbrev pub place_of : World → List ℕ → List ℕ
place_of world path = world.paths.place path

-- what the file at the place of a path holds
abbrev pub held_at : World → List ℕ → Result (List ℕ) InputFault
held_at world path = world.files (place_of world path)

-- what a read at a path gives
abbrev pub file_at : World → List ℕ → Result (List ℕ) InputFault
file_at world path = read_of (held_at world path)

-- whether what is written at a path is what a later read gives there
abbrev pub stores_at : World → List ℕ → Bool
stores_at world path = world.paths.stores (place_of world path)

-- files, of which the one at this place holds this
abbrev pub file_put : (List ℕ → Result (List ℕ) InputFault) → List ℕ → Result (List ℕ) InputFault → List ℕ
    → Result (List ℕ) InputFault
file_put files place left asked = if bytes_eq asked place then left else files asked

-- a world whose file at this path holds this
abbrev pub with_file : List ℕ → Result (List ℕ) InputFault → World → World
with_file path left world = record {
  paths = world.paths;
  files = file_put world.files (place_of world path) left;
}

-- a world without a file at this path
abbrev pub without_file : List ℕ → World → World
without_file path world = with_file path (Err NotFound) world

-- the world after a text was saved at this path: where its place stores, the file holds the text
abbrev pub with_text : List ℕ → List ℕ → World → World
with_text path text world = if stores_at world path then with_file path (Ok text) world else world

-- the world after an undo script was saved, and then a text
abbrev pub with_pair : List ℕ → List ℕ → List ℕ → List ℕ → World → World
with_pair undo_path undo path text world = with_text path text (with_text undo_path undo world)

-- the places that store, but for one that is written as a stream
abbrev pub stores_but : (List ℕ → Bool) → List ℕ → List ℕ → Bool
stores_but stores place asked = if bytes_eq asked place then false else stores asked

-- a world in which the file at this path is written as a stream: what a later read gives there isn't known
abbrev pub with_stream : List ℕ → World → World
with_stream path world = record {
  paths = record world.paths { stores = stores_but world.paths.stores (place_of world path) };
  files = world.files;
}

-- whether nothing is there
abbrev pub is_nothing : Result (List ℕ) InputFault → Bool
is_nothing (Ok bytes) = false
is_nothing (Err NotFound) = true
is_nothing (Err _) = false

-- a world with a new folder at this path: nothing that is written at its place can be read there
abbrev pub with_folder : List ℕ → World → World
with_folder path world = record {
  paths = record world.paths { stores = stores_but world.paths.stores (place_of world path) };
  files = file_put world.files (place_of world path) (Err IsFolder);
}

-- the same, where nothing is at this path; else the world as it is
abbrev pub with_folder_there : List ℕ → World → World
with_folder_there path world = if is_nothing (held_at world path) then with_folder path world else world

-- a read at this path gives this, as far as is known
abbrev pub Gives : Option World → List ℕ → Result (List ℕ) InputFault → Type 0
Gives None path given = ⊤
Gives (Some world) path given = stores_at world path ≡ true → file_at world path ≡ given

-- a folder was made at this path just if nothing was there, as far as is known
abbrev pub IsMade : Option World → List ℕ → Bool → Type 0
IsMade None path made = ⊤
IsMade (Some world) path made = made ≡ is_nothing (held_at world path)
