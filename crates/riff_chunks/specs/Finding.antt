-- Finding chunks of a window.
use Rattle.std.specs.Prelude.{ℕ, List, [], ◌∷◌, length, take, drop, find, Option, option_map, Ok, Err, is_ok, Bool}
use Rattle.std.specs.Prelude.{nat_le, ◌&&◌, bytes_eq}
use Rattle.std.specs.List.{list_all}
use Rattle.riff_chunks.specs.Walk.{Chunk, Item, LIST}

-- No body passes the end of the window.
abbrev pub is_whole : List Item → Bool
is_whole items = list_all is_ok items

-- The chunks before the fault.
abbrev pub chunks_in : List Item → List Chunk
chunks_in [] = []
chunks_in (Ok c ∷ items) = c ∷ chunks_in items
chunks_in (Err t ∷ items) = []

-- The body of the first chunk with an id.
abbrev pub first_body : List ℕ → List Chunk → Option (List ℕ)
first_body id cs = option_map (λ (c : Chunk). c.body) (find (λ (c : Chunk). bytes_eq c.id id) cs)

-- A list whose body begins with the form.
abbrev pub is_list : List ℕ → Chunk → Bool
is_list form c = bytes_eq c.id LIST && nat_le 4 (length c.body) && bytes_eq (take 4 c.body) form

-- The body, after the form, of the first list with that form.
abbrev pub first_list : List ℕ → List Chunk → Option (List ℕ)
first_list form cs = option_map (λ (c : Chunk). drop 4 c.body) (find (is_list form) cs)
