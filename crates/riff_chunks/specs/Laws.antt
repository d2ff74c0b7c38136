-- Laws of walking and encoding.
use Rattle.std.specs.Prelude.{◌≡◌, ◌≢◌, ◌↔◌, ◌<◌, ◌+◌, ◌^◌, ℕ, List, [], ◌∷◌, ◌++◌, length, map, Ok, Err, true}
use Rattle.std.specs.List.{AllByRecursion}
use Rattle.riff_chunks.specs.Walk.{Chunk, Item, LIST, truncated, Walks, walk}
use Rattle.riff_chunks.specs.Finding.{chunks_in, is_whole}
use Rattle.riff_chunks.specs.Encoding.{chunk_head, encode, FitsChunk}

-- These are the items of the window if and only if `walk` returns them.
abbrev pub WalkIsUnique : Type 0
WalkIsUnique = (w : List ℕ) (items : List Item) → Walks w items ↔ (items ≡ walk w)

-- Encoded chunks are the first items of a window, whatever follows them.
abbrev pub EncodedAreFound : Type 0
EncodedAreFound =
    (cs : List Chunk) (rest : List ℕ) → AllByRecursion FitsChunk cs
    → walk (encode cs ++ rest) ≡ map Ok cs ++ walk rest

-- A window of encoded chunks has these chunks and nothing else.
abbrev pub EncodedReadBack : Type 0
EncodedReadBack =
    (cs : List Chunk) → AllByRecursion FitsChunk cs
    → (chunks_in (walk (encode cs)) ≡ cs) × (is_whole (walk (encode cs)) ≡ true)

-- The items of a window with an id, a size, and then this body alone.
abbrev pub walk_headed : List ℕ → ℕ → List ℕ → List Item
walk_headed id size body = walk (chunk_head id size ++ body)

-- A last chunk without its pad byte is found. With a size that is one too large, a list is found, and another chunk is
-- a fault.
abbrev pub UnpaddedAreFound : Type 0
UnpaddedAreFound =
    (id body : List ℕ) → length id ≡ 4 → length body + 1 < 2 ^ 32
    → (walk_headed id (length body) body ≡ Ok (record { id = id; body = body }) ∷ [])
    × (id ≡ LIST → walk_headed id (length body + 1) body ≡ Ok (record { id = id; body = body }) ∷ [])
    × (id ≢ LIST → walk_headed id (length body + 1) body ≡ Err truncated ∷ [])
