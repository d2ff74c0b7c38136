-- The chunks and lists in a sequence of bytes consist of bytes.
use Rattle.std.proofs.Common.{◌<◌, ◌+◌, ◌%◌, ℕ, zero, suc, Bool, true, false, cond, ltb, List, [], ◌∷◌, length, take}
use Rattle.std.proofs.Common.{drop, Option, Some, Ok, Err}
use Rattle.std.specs.Prelude.{unwrap_or, find, bytes_eq}
use Rattle.std.specs.Option.{option_map}
use Rattle.std.specs.List.{AllByRecursion}
use Rattle.std.proofs.lemmas.List.Elements.{All-nil, All-take, All-drop, recursion_from_All}
use Rattle.riff_chunks.specs.Walk.{Chunk, Item, truncated, size_at, body_fits, chunk_at, after, walk_for, walk}
use Rattle.riff_chunks.specs.Finding.{chunks_in, is_list}
use Rattle.hydra_records.specs.Records.{AreBytes}
use Rattle.bank_format.specs.Chunks.{riff_size, window, list_window, body_in, chunks_of}

abbrev pub IsByte : ℕ → Type 0
IsByte b = b < 256

pub take_bytes : (n : ℕ) (xs : List ℕ) → AreBytes xs → AreBytes (take n xs)
take_bytes n xs h = All-take IsByte n xs h

pub drop_bytes : (n : ℕ) (xs : List ℕ) → AreBytes xs → AreBytes (drop n xs)
drop_bytes n xs h = All-drop IsByte n xs h

no_bytes : AreBytes []
no_bytes = All-nil IsByte

-- All, by recursion over the list
pub in_turn : (xs : List ℕ) → AreBytes xs → AllByRecursion IsByte xs
in_turn xs h = recursion_from_All IsByte xs h

-- ---- chunks

abbrev pub OfBytes : Chunk → Type 0
OfBytes c = AreBytes c.body

-- one iteration of a walk over chunks
turn_bytes : (short fits : Bool) (c : Chunk) (items : List Item) → OfBytes c → AllByRecursion OfBytes (chunks_in items)
    → AllByRecursion OfBytes (chunks_in (cond short [] (cond fits (Ok c ∷ items) (Err truncated ∷ []))))
turn_bytes true fits c items one rest = tt
turn_bytes false true c items one rest = (one, rest)
turn_bytes false false c items one rest = tt

walked : (n : ℕ) (w : List ℕ) → AreBytes w → AllByRecursion OfBytes (chunks_in (walk_for n w))
unfolding walk_for
walked zero w h = tt
walked (suc n) w h =
    turn_bytes (ltb (length w) 8) (body_fits w) (chunk_at w) (walk_for n (after w))
    (take_bytes (size_at w) (drop 8 w) (drop_bytes 8 w h))
    (walked n (after w) (drop_bytes (8 + size_at w + size_at w % 2) w h))

pub walk_bytes : (w : List ℕ) → AreBytes w → AllByRecursion OfBytes (chunks_in (walk w))
unfolding walk
walk_bytes w h = walked (length w) w h

-- the body of a chunk after its first n bytes
abbrev found_body : ℕ → Option Chunk → List ℕ
found_body n o = unwrap_or (option_map (λ (c : Chunk). drop n c.body) o) []

one_found : (n : ℕ) (b : Bool) (c : Chunk) (rest : Option Chunk) → OfBytes c → AreBytes (found_body n rest)
    → AreBytes (found_body n (cond b (Some c) rest))
one_found n true c rest one h = drop_bytes n c.body one
one_found n false c rest one h = h

found : (n : ℕ) (test : Chunk → Bool) (cs : List Chunk) → AllByRecursion OfBytes cs
    → AreBytes (found_body n (find test cs))
found n test [] h = no_bytes
found n test (c ∷ cs) h = one_found n (test c) c (find test cs) h.0 (found n test cs h.1)

pub body_bytes : (name : List ℕ) (cs : List Chunk) → AllByRecursion OfBytes cs → AreBytes (body_in name cs)
body_bytes name cs h = found 0 (λ (c : Chunk). bytes_eq c.id name) cs h

pub list_bytes : (form w : List ℕ) → AreBytes w → AreBytes (list_window form w)
unfolding list_window
list_bytes form w h = found 4 (is_list form) (chunks_in (walk w)) (walk_bytes w h)

pub chunk_bytes : (form w : List ℕ) → AreBytes w → AllByRecursion OfBytes (chunks_of form w)
chunk_bytes form w h = walk_bytes (list_window form w) (list_bytes form w h)

pub window_bytes : (file : List ℕ) → AreBytes file → AreBytes (window file)
unfolding window
window_bytes file h = drop_bytes 12 (take (8 + riff_size file) file) (take_bytes (8 + riff_size file) file h)
