-- The chunks of the lists INFO, sdta and pdta.
use Rattle.std.specs.Prelude.{ℕ, List}
use Rattle.riff_chunks.specs.Walk.{Chunk}
use Rattle.bank_format.specs.Ids as id
use Rattle.bank_format.specs.Chunks.{chunks_of}

-- the chunks of each list
pub record ListChunks : Type 0 where
  pub info : List Chunk
  pub sdta : List Chunk
  pub pdta : List Chunk

-- from the first list of each form in the window of a file
unfoldable pub chunks_in_lists : List ℕ → ListChunks
chunks_in_lists w = record { info = chunks_of id.INFO w; sdta = chunks_of id.SDTA w; pdta = chunks_of id.PDTA w }
