-- Encoded chunks are found again.
use Rattle.std.proofs.Common.{◌≡◌, ◌≤◌, ◌<◌, ◌+◌, ◌%◌, ◌^◌, ℕ, true, false, eqb, List, [], ◌∷◌, ◌++◌, length, take}
use Rattle.std.proofs.Common.{drop, map, Ok, refl, sym, ap, ◌∙◌, append_assoc, arith, inl, inr}
use Rattle.std.specs.List.{AllByRecursion}
use Rattle.std.proofs.lemmas.Bool.{cases_eq, eq-eqb, ne_eqb}
use Rattle.std.proofs.lemmas.List.{length-append, take_at, drop_at, drop-drop, take_all, drop_all, append-nil}
use Rattle.byteorder.specs.Endian.{little_number, little_bytes}
use Rattle.byteorder.specs.Numbers.{little_number-reads_back}
use Rattle.riff_chunks.specs.Walk.{Chunk, Item, size_at, BodyFits, walk}
use Rattle.riff_chunks.specs.Finding.{chunks_in, is_whole}
use Rattle.riff_chunks.specs.Encoding.{pad, chunk_head, chunk, encode, FitsChunk}
use Rattle.riff_chunks.specs.Laws.{walk_headed, UnpaddedAreFound}
use Rattle.riff_chunks.proofs.WalkLaws.{body_fits-true, body_fits-false, walk-short, walk-next, walk-cut}

-- ---- lengths

pub length-pad : (n : ℕ) → length (pad n) ≡ n % 2
unfolding pad
length-pad n = elim (cases_eq (n % 2) 1) [
  | inl odd ↦ (let e : eqb (n % 2) 1 ≡ true = eq-eqb _ _ odd in rw e (sym odd))
  | inr even ↦ (let e : eqb (n % 2) 1 ≡ false = ne_eqb _ _ even in rw e (omega arith))
]

pub length-chunk_head : (id : List ℕ) (n : ℕ) → length id ≡ 4 → length (chunk_head id n) ≡ 8
unfolding chunk_head
length-chunk_head id n e = omega (arith, e, length-append id (little_bytes 4 n))

pub length-chunk : (id body : List ℕ) → length id ≡ 4 → length (chunk id body) ≡ 8 + length body + length body % 2
length-chunk id body e =
    let whole = length-append (chunk_head id (length body)) (body ++ pad (length body)) in
    let padded = length-append body (pad (length body)) in
    omega (arith, whole, padded, length-pad (length body), length-chunk_head id (length body) e)

-- ---- a window that begins with a chunk header

-- A window that is an id, a size and a tail.
pub record Headed (w id : List ℕ) (size : ℕ) (tail : List ℕ) : Type 0 where
  pub whole : length w ≡ 8 + length tail
  pub sized : size ≡ size_at w
  pub named : id ≡ take 4 w
  pub rest : drop 8 w ≡ tail

id_first : (id : List ℕ) (size : ℕ) (tail : List ℕ) → chunk_head id size ++ tail ≡ id ++ (little_bytes 4 size ++ tail)
unfolding chunk_head
id_first id size tail = append_assoc id (little_bytes 4 size) tail

pub chunk_head-Headed : (id : List ℕ) (size : ℕ) (tail : List ℕ) → length id ≡ 4 → size < 2 ^ 32
    → Headed (chunk_head id size ++ tail) id size tail
chunk_head-Headed id size tail e lt = record {
  whole = omega (arith, length-append (chunk_head id size) tail, length-chunk_head id size e);
  sized =
      sym
      (ap (little_number 4) (ap (drop 4) (id_first id size tail) ∙ drop_at id (little_bytes 4 size ++ tail) 4 e)
      ∙ little_number-reads_back 4 size tail lt);
  named = sym (ap (take 4) (id_first id size tail) ∙ take_at id (little_bytes 4 size ++ tail) 4 e);
  rest = drop_at (chunk_head id size) tail 8 (length-chunk_head id size e);
}

-- A body that fits is the first item.
Headed-found : (w id : List ℕ) (size : ℕ) (tail : List ℕ) → Headed w id size tail → BodyFits w
    → walk w ≡ Ok (record { id = id; body = take size tail }) ∷ walk (drop (size + size % 2) tail)
Headed-found w id size tail h f =
    let whole = h.whole in
    walk-next w size id (take size tail) (drop (size + size % 2) tail) (omega (arith, whole)) (body_fits-true w f)
    h.sized h.named
    (ap (take size) (sym h.rest))
    (ap (drop (size + size % 2)) (sym h.rest) ∙ drop-drop (size + size % 2) 8 w
    ∙ ap (λ (k : ℕ). drop k w) (omega arith))

-- ---- chunks in a row

pub walk-chunk : (id body rest : List ℕ) → length id ≡ 4 → length body < 2 ^ 32
    → walk (chunk id body ++ rest) ≡ Ok (record { id = id; body = body }) ∷ walk rest
walk-chunk id body rest e lt =
    let n = length body in
    let tail = body ++ (pad n ++ rest) in
    let w = chunk_head id n ++ tail in
    let grouped : chunk id body ++ rest ≡ w =
    append_assoc (chunk_head id n) (body ++ pad n) rest
    ∙ ap (λ (t : List ℕ). chunk_head id n ++ t) (append_assoc body (pad n) rest) in
    let headed = chunk_head-Headed id n tail e lt in
    let inside : 8 + size_at w ≤ length w =
    (let whole =
    headed.whole in let sized =
    headed.sized in omega (arith, whole, sized, length-append body (pad n ++ rest)))
    in
    let next : drop (n + n % 2) tail ≡ rest =
    ap (drop (n + n % 2)) (sym (append_assoc body (pad n) rest))
    ∙ drop_at (body ++ pad n) rest (n + n % 2) (omega (arith, length-append body (pad n), length-pad n)) in
    ap walk grouped
    ∙ Headed-found w id n tail headed (inl inside)
    ∙ ap (λ (b : List ℕ). Ok (record { id = id; body = b }) ∷ walk (drop (n + n % 2) tail))
    (take_at body (pad n ++ rest) n refl)
    ∙ ap (λ (r : List ℕ). Ok (record { id = id; body = body }) ∷ walk r) next

pub walk-encode-append : (cs : List Chunk) (rest : List ℕ) → AllByRecursion FitsChunk cs
    → walk (encode cs ++ rest) ≡ map Ok cs ++ walk rest
walk-encode-append [] rest v = refl
walk-encode-append (c ∷ cs) rest v =
    ap walk (append_assoc (chunk c.id c.body) (encode cs) rest)
    ∙ walk-chunk c.id c.body (encode cs ++ rest) v.0.id v.0.body
    ∙ ap (λ (items : List Item). Ok c ∷ items) (walk-encode-append cs rest v.1)

pub walk-encode : (cs : List Chunk) → AllByRecursion FitsChunk cs → walk (encode cs) ≡ map Ok cs
walk-encode cs v =
    ap walk (sym (append-nil (encode cs)))
    ∙ walk-encode-append cs [] v
    ∙ ap (λ (items : List Item). map Ok cs ++ items) (walk-short [] (omega arith))
    ∙ append-nil (map Ok cs)

chunks_in-all : (cs : List Chunk) → chunks_in (map Ok cs) ≡ cs
chunks_in-all [] = refl
chunks_in-all (c ∷ cs) = ap (λ (xs : List Chunk). c ∷ xs) (chunks_in-all cs)

is_whole-all : (cs : List Chunk) → is_whole (map Ok cs) ≡ true
is_whole-all [] = refl
is_whole-all (c ∷ cs) = is_whole-all cs

-- All chunks of an encoded window.
pub chunks_in-encode : (cs : List Chunk) → AllByRecursion FitsChunk cs → chunks_in (walk (encode cs)) ≡ cs
chunks_in-encode cs v = ap chunks_in (walk-encode cs v) ∙ chunks_in-all cs

pub is_whole-encode : (cs : List Chunk) → AllByRecursion FitsChunk cs → is_whole (walk (encode cs)) ≡ true
is_whole-encode cs v = ap is_whole (walk-encode cs v) ∙ is_whole-all cs

-- ---- a last chunk without its pad byte

-- The body ends with the window, or would end one byte past it.
last-found : (id body : List ℕ) (size : ℕ) → length id ≡ 4 → size < 2 ^ 32 → length body ≤ size
    → BodyFits (chunk_head id size ++ body) → walk_headed id size body ≡ Ok (record { id = id; body = body }) ∷ []
last-found id body size e lt le f =
    Headed-found (chunk_head id size ++ body) id size body (chunk_head-Headed id size body e lt) f
    ∙ ap (λ (b : List ℕ). Ok (record { id = id; body = b }) ∷ walk (drop (size + size % 2) body))
    (take_all size body le)
    ∙ ap (λ (r : List ℕ). Ok (record { id = id; body = body }) ∷ walk r) (drop_all (size + size % 2) body (omega arith))
    ∙ ap (λ (items : List Item). Ok (record { id = id; body = body }) ∷ items) (walk-short [] (omega arith))

pub unpadded : UnpaddedAreFound
unpadded id body e lt =
    let n = length body in
    let exact = chunk_head-Headed id n body e (omega arith) in
    let short = chunk_head-Headed id (n + 1) body e lt in
    let fits_whole : 8 + size_at (chunk_head id n ++ body) ≤ length (chunk_head id n ++ body) =
    (let whole = exact.whole in let sized = exact.sized in omega (arith, whole, sized)) in
    let w = chunk_head id (n + 1) ++ body in
    let one_past : 8 + size_at w ≡ length w + 1 =
    (let whole = short.whole in let sized = short.sized in omega (arith, whole, sized)) in (
      last-found id body n e (omega arith) (omega arith) (inl fits_whole),
      (λ list. last-found id body (n + 1) e lt (omega arith) (inr (sym short.named ∙ list, one_past))),
      (λ other. walk-cut w (let whole = short.whole in omega (arith, whole)) (body_fits-false w (λ f. elim f [
        | inl inside ↦ omega (arith, inside, one_past)
        | inr list ↦ other (short.named ∙ list.0)
      ]))),
    )
