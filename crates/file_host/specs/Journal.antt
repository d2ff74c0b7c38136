-- What is at each path after some files were saved and some folders made.
use Rattle.std.specs.Prelude.{◌≡◌, ◌⊎◌, ℕ, List, [], ◌∷◌, ◌++◌, Option, Some, None, Result, Ok, Err, string_bytes}
use Rattle.std.specs.Prelude.{Bool, true, false}
use Rattle.file_host.specs.declared.input_fault.InputFault.{InputFault}
use Rattle.file_host.specs.declared.input_fault.InputFault.TheVariants.{NotFound, IsFolder}
use Rattle.file_host.specs.declared.saved.Content.{Content}
use Rattle.file_host.specs.declared.saved.Content.TheVariants.{File, Folder}
use Rattle.file_host.specs.declared.saved.Entry.{Entry}
use Rattle.file_host.specs.World.{Paths, World, file_put}

-- no files
abbrev pub no_files : List ℕ → Result (List ℕ) InputFault
no_files path = Err NotFound

-- what a file or a folder holds
abbrev pub held_in : Content → Result (List ℕ) InputFault
held_in (File bytes) = Ok bytes.items
held_in Folder = Err IsFolder

-- after these were saved or made, the newest last
abbrev pub held_after : (List ℕ → Result (List ℕ) InputFault) → List Entry → List ℕ → Result (List ℕ) InputFault
held_after held [] = held
held_after held (entry ∷ entries) = held_after (file_put held (string_bytes entry.path) (held_in entry.content)) entries

-- whether a text can be saved where this is: a file or nothing yet, and no folder
abbrev pub can_store : Result (List ℕ) InputFault → Bool
can_store (Ok bytes) = true
can_store (Err IsFolder) = false
can_store (Err _) = true

-- the paths of a host in memory: each is a place of its own, which stores unless a folder is there
abbrev pub plain_paths : (List ℕ → Result (List ℕ) InputFault) → Paths
plain_paths held = record {
  place = λ path. path;
  is_link = λ path. false;
  is_output = λ path. false;
  stores = λ place. can_store (held place);
  is_shared = λ place. false;
}

abbrev pub plain_world : (List ℕ → Result (List ℕ) InputFault) → World
plain_world held = record { paths = plain_paths held; files = held }

abbrev pub world_of : List Entry → World
world_of entries = plain_world (held_after no_files entries)

-- what was found, or that there is nothing
abbrev pub found_or_not : Option Content → Result (List ℕ) InputFault
found_or_not None = Err NotFound
found_or_not (Some content) = held_in content

-- the bytes of the file that is there, or that there is no file
abbrev pub IsFile : Result (List ℕ) InputFault → Option (List ℕ) → Type 0
IsFile held (Some bytes) = held ≡ Ok bytes
IsFile held None = (held ≡ Err NotFound) ⊎ (held ≡ Err IsFolder)

-- One more file was saved, or folder made, which holds this.
pub record Pushes (old new : List Entry) (path : List ℕ) (held : Result (List ℕ) InputFault) : Type 0 where
  pub entry : Entry
  pub items : new ≡ old ++ entry ∷ []
  pub named : string_bytes entry.path ≡ path
  pub holds : held_in entry.content ≡ held
