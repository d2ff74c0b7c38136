-- The first chunk of each of some ids, each kept at the index of its id.
use Rattle.std.specs.Prelude.{◌≡◌, ◌<◌, ℕ, List, [], ◌∷◌, get_or, Option, Some, None, bytes_eq}
use Rattle.std.specs.Borrow.{Bor}
use Rattle.std.specs.List.{position}
use Rattle.std.specs.Option.{option_copied, option_or}
use Rattle.riff_chunks.specs.Walk.{Chunk}
use Rattle.riff_chunks.specs.Finding.{first_body}

-- The first index of an id.
abbrev pub index_of : List ℕ → List (List ℕ) → Option ℕ
index_of id ids = position (λ (other : List ℕ). bytes_eq other id) ids

-- The kept bodies, borrowed from the window.
abbrev pub KeptBodies : Type 0
KeptBodies = List (Option (Bor (List ℕ)))

-- The kept body at an index.
abbrev pub kept_at : KeptBodies → ℕ → Option (List ℕ)
kept_at bodies id_index = option_copied (get_or bodies id_index None)

-- P holds for each id with one of the nine indexes.
abbrev pub AtEachIndex : List (List ℕ) → (List ℕ → ℕ → Type 0) → Type 0
AtEachIndex ids P = (id : List ℕ) (id_index : ℕ) → index_of id ids ≡ Some id_index → id_index < 9 → P id id_index

-- The kept body of each id is that of its first chunk.
abbrev pub AreFirst : List (List ℕ) → KeptBodies → List Chunk → Type 0
AreFirst ids bodies chunks = AtEachIndex ids (λ id id_index. kept_at bodies id_index ≡ first_body id chunks)

-- The kept body of each id, or else that of its first chunk in the rest, is that of its first chunk of all.
abbrev pub AreFirstSoFar : List (List ℕ) → KeptBodies → List Chunk → List Chunk → Type 0
AreFirstSoFar ids bodies rest all =
    AtEachIndex ids (λ id id_index. option_or (kept_at bodies id_index) (first_body id rest) ≡ first_body id all)

-- The chunk's body is kept if it is the first with its id.
abbrev pub KeepsFirst : List (List ℕ) → KeptBodies → KeptBodies → Chunk → Type 0
KeepsFirst ids old new c =
    AtEachIndex ids (λ id id_index. kept_at new id_index ≡ option_or (kept_at old id_index) (first_body id (c ∷ [])))
