-- The input, the outputs and the files of a session.
use Rattle.std.specs.Prelude.{◌≡◌, ℕ, List, Option}
use Rattle.file_host.specs.World.{World}

pub record Streams : Type 0 where
  -- the remaining bytes of the input
  pub input : Option (List ℕ)
  -- the bytes of each writer
  pub answers : Option (List ℕ)
  pub pcm : Option (List ℕ)
  -- the world of files
  pub files : Option World
  -- how many bytes of its text the last save wrote that failed by a write fault
  pub written : ℕ

-- no save was tried
abbrev pub SavesNothing : Streams → Streams → Type 0
SavesNothing old new = (new.files ≡ old.files) × (new.written ≡ old.written)
