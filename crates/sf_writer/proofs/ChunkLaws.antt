-- Chunks with bodies of even length, and loops over lists.
use Rattle.std.proofs.Common.{◌≡◌, ◌+◌, ◌<◌, ◌%◌, ℕ, List, ◌++◌, length, get_or, drop, refl, ap, sym, ◌∙◌}
use Rattle.std.proofs.Common.{append_assoc, arith, false, eqb, Option}
use Rattle.std.specs.List.{flat_map}
use Rattle.std.proofs.lemmas.Bool.{ne_eqb}
use Rattle.std.proofs.lemmas.List.{length-append, append-nil, at_drop_more}
use Rattle.std.proofs.lemmas.List.Concat.{flat_map-append}
use Rattle.riff_chunks.specs.Walk.{LIST}
use Rattle.riff_chunks.specs.Encoding.{pad, chunk, chunk_head}
use Rattle.riff_chunks.proofs.EncodingLaws.{length-chunk}
use Rattle.base_outputs.specs.declared.output.Output.{Output}
use Rattle.base_outputs.specs.Output.{Puts}
use Rattle.base_outputs.proofs.OutputLaws.{puts_row}

-- ---- chunks

-- a body of even length has no pad byte
pub pad-even : (body : List ℕ) (n : ℕ) → n % 2 ≡ 0 → body ++ pad n ≡ body
unfolding pad
pad-even body n e = let t : eqb (n % 2) 1 ≡ false = ne_eqb _ _ (omega arith) in rw t (append-nil body)

-- a chunk with a body of even length is its header and its body
pub chunk-even : (id body : List ℕ) → length body % 2 ≡ 0 → chunk id body ≡ chunk_head id (length body) ++ body
chunk-even id body e = ap (λ (t : List ℕ). chunk_head id (length body) ++ t) (pad-even body (length body) e)

pub length-chunk-even : (id body : List ℕ) → length id ≡ 4 → length body % 2 ≡ 0
    → length (chunk id body) ≡ 8 + length body
length-chunk-even id body e even = omega (arith, even, length-chunk id body e)

pub length-LIST : length LIST ≡ 4
unfolding LIST
length-LIST = refl

-- a chunk with a form and an even body is its header, its form, and the rest
pub form-even : (id form chunks : List ℕ) → length form ≡ 4 → length chunks % 2 ≡ 0
    → chunk id (form ++ chunks) ≡ (chunk_head id (length (form ++ chunks)) ++ form) ++ chunks
form-even id form chunks e even =
    chunk-even id (form ++ chunks) (omega (arith, e, even, length-append form chunks))
    ∙ sym (append_assoc (chunk_head id (length (form ++ chunks))) form chunks)

pub length-form-even : (id form chunks : List ℕ) → length id ≡ 4 → length form ≡ 4 → length chunks % 2 ≡ 0
    → length (chunk id (form ++ chunks)) ≡ 8 + length (form ++ chunks)
length-form-even id form chunks named e even =
    omega (arith, e, even, length-append form chunks, length-chunk id (form ++ chunks) named)

module _ {W : Type 0} {c : W → Option (List ℕ)} {o p q : Output W} where
  -- writing a header, and a body of even length
  pub put_even : (name id body : List ℕ) (size : ℕ) → name ≡ id → length body % 2 ≡ 0 → size ≡ length body
      → Puts c o p (chunk_head name size) → Puts c p q body → Puts c o q (chunk id body)
  put_even name id body size named even sized =
      puts_row (chunk id body) (chunk_head name size) body
      (chunk-even id body even ∙ (λ i. chunk_head (sym named i) (sym sized i) ++ body))

  -- writing a header with a form, and chunks of even length
  pub put_form : (id form chunks : List ℕ) (size : ℕ) → length form ≡ 4 → length chunks % 2 ≡ 0
      → size ≡ length (form ++ chunks) → Puts c o p (chunk_head id size ++ form) → Puts c p q chunks
      → Puts c o q (chunk id (form ++ chunks))
  put_form id form chunks size e even sized =
      puts_row (chunk id (form ++ chunks)) (chunk_head id size ++ form) chunks
      (form-even id form chunks e even ∙ ap (λ (n : ℕ). (chunk_head id n ++ form) ++ chunks) (sym sized))

-- ---- loops over lists

-- the flat map of the elements from index i on is that of element i, and of those after it
pub flat_map-next : {X Y : Type 0} (f : X → List Y) (xs : List X) (i : ℕ) (d : X) → i < length xs
    → flat_map f (drop i xs) ≡ f (get_or xs i d) ++ flat_map f (drop (i + 1) xs)
flat_map-next f xs i d lt = at_drop_more (flat_map f) xs i d lt

-- the same for bytes of a flat map
pub encoding-next : {X Y Z : Type 0} (g : Y → List Z) (f : X → List Y) (xs : List X) (i : ℕ) (d : X) → i < length xs
    → flat_map g (flat_map f (drop i xs)) ≡ flat_map g (f (get_or xs i d)) ++ flat_map g (flat_map f (drop (i + 1) xs))
encoding-next g f xs i d lt =
    ap (flat_map g) (flat_map-next f xs i d lt)
    ∙ flat_map-append g (f (get_or xs i d)) (flat_map f (drop (i + 1) xs))

-- the same for an element that was read
pub encoding-read : {X Y Z : Type 0} (g : Y → List Z) (f : X → List Y) (xs : List X) (i : ℕ) (x : X) → i < length xs
    → x ≡ get_or xs i x
    → flat_map g (flat_map f (drop i xs)) ≡ flat_map g (f x) ++ flat_map g (flat_map f (drop (i + 1) xs))
encoding-read g f xs i x lt is =
    encoding-next g f xs i x lt ∙ ap (λ y. flat_map g (f y) ++ flat_map g (flat_map f (drop (i + 1) xs))) (sym is)
