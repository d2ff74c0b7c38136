-- The chunks of a window.
use Rattle.std.specs.Prelude.{◌≡◌, ◌≤◌, ◌<◌, ◌+◌, ◌%◌, ℕ, zero, suc, ◌⊎◌, List, [], ◌∷◌, length, take, drop, codes}
use Rattle.std.specs.Prelude.{Result, Ok, Err, Bool, nat_le, nat_lt, bytes_eq, if◌then◌else◌}
use Rattle.std.specs.Borrow.{Bor}
use Rattle.std.specs.Result.{result_map_both}
use Rattle.sf_base.specs.Fields.{field_at}
use Rattle.riff_chunks.specs.declared.chunks.Truncated.{Truncated}

-- A chunk: an id and a body.
pub record Chunk : Type 0 where
  pub id : List ℕ
  pub body : List ℕ

abbrev pub truncated : Truncated
truncated = record {}

-- An item of a walk: a chunk or the fault.
abbrev pub Item : Type 0
Item = Result Chunk Truncated

-- The item that the walk returns as an id and a slice, or the fault.
abbrev pub borrowed_item : Result (List ℕ × Bor (List ℕ)) Truncated → Item
borrowed_item r = result_map_both (λ c. record { id = c.0; body = c.1.now }) (λ e. e) r

-- The id of a list.
unfoldable pub LIST : List ℕ
LIST = codes "LIST"

-- The size in the chunk header at the start of a window.
abbrev pub size_at : List ℕ → ℕ
size_at w = field_at 4 4 w

-- The chunk at the start of a window.
abbrev pub chunk_at : List ℕ → Chunk
chunk_at w = record { id = take 4 w; body = take (size_at w) (drop 8 w) }

-- The window after that chunk and the pad byte of an odd size.
abbrev pub after : List ℕ → List ℕ
after w = drop (8 + size_at w + size_at w % 2) w

-- The first body ends within the window, or is that of a list and ends one byte past it.
abbrev pub BodyFits : List ℕ → Type 0
BodyFits w = (8 + size_at w ≤ length w) ⊎ ((take 4 w ≡ LIST) × (8 + size_at w ≡ length w + 1))

-- These are all items of the window: its chunks in order, and then the fault of the first body that doesn't fit, or a
-- rest of fewer than eight bytes.
abbrev pub Walks : List ℕ → List Item → Type 0
Walks w [] = length w < 8
Walks w (Ok c ∷ items) = (8 ≤ length w) × BodyFits w × (c ≡ chunk_at w) × Walks (after w) items
Walks w (Err t ∷ items) = (8 ≤ length w) × ¬ (BodyFits w) × (items ≡ [])

-- The largest permitted end of the first body: a list may lack its last pad byte.
abbrev pub end_of : List ℕ → ℕ
end_of w = if bytes_eq (take 4 w) LIST then length w + 1 else length w

-- Whether the first body fits.
abbrev pub body_fits : List ℕ → Bool
body_fits w = nat_le (8 + size_at w) (end_of w)

-- The items of a window, at most n.
unfoldable pub walk_for : ℕ → List ℕ → List Item
walk_for zero w = []
walk_for (suc n) w =
    if nat_lt (length w) 8 then []
    else if body_fits w then Ok (chunk_at w) ∷ walk_for n (after w)
    else Err truncated ∷ []

-- The items of a window.
unfoldable pub walk : List ℕ → List Item
walk w = walk_for (length w) w
