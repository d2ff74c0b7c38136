-- The bytes of a chunk.
use Rattle.std.specs.Prelude.{◌≡◌, ◌<◌, ◌%◌, ◌^◌, ℕ, List, [], ◌∷◌, ◌++◌, length, ◌==◌, if◌then◌else◌}
use Rattle.std.specs.List.{flat_map}
use Rattle.byteorder.specs.Endian.{little_bytes}
use Rattle.riff_chunks.specs.Walk.{Chunk}

-- A zero byte after a body of odd size.
unfoldable pub pad : ℕ → List ℕ
pad size = if size % 2 == 1 then 0 ∷ [] else []

-- A chunk header: an id and a size.
unfoldable pub chunk_head : List ℕ → ℕ → List ℕ
chunk_head id size = id ++ little_bytes 4 size

-- A chunk: an id, the size of the body, the body, and a zero byte if the size is odd.
abbrev pub chunk : List ℕ → List ℕ → List ℕ
chunk id body = chunk_head id (length body) ++ (body ++ pad (length body))

-- The bytes of consecutive chunks.
abbrev pub encode : List Chunk → List ℕ
encode cs = flat_map (λ (c : Chunk). chunk c.id c.body) cs

-- An id of four bytes, and a body whose size fits into 32 bits.
pub record FitsChunk (c : Chunk) : Type 0 where
  pub id : length c.id ≡ 4
  pub body : length c.body < 2 ^ 32
