-- The chunks of texts, and their lengths.
use Rattle.std.proofs.Common.{◌≡◌, ◌≢◌, ◌≤◌, ◌+◌, ◌*◌, ◌/◌, ◌%◌, ℕ, List, [], ◌∷◌, ◌++◌, length, replicate, refl, ap}
use Rattle.std.proofs.Common.{arith, true, false, eqb, inl, inr}
use Rattle.std.specs.List.{flat_map}
use Rattle.std.proofs.lemmas.Bool.{cases_eq, eq-eqb, ne_eqb}
use Rattle.std.proofs.lemmas.List.{length-append, append-nil}
use Rattle.std.proofs.lemmas.List.Concat.{flat_map-append}
use Rattle.riff_chunks.specs.Walk.{Chunk, LIST}
use Rattle.riff_chunks.specs.Encoding.{chunk, encode}
use Rattle.bank_parts.specs.declared.parts.Parts.{Parts}
use Rattle.bank_parts.specs.declared.texts.InfoId.{InfoId}
use Rattle.bank_parts.specs.declared.texts.InfoId.TheVariants.{Engine, Name, Date, Engineers, Product, Copyright}
use Rattle.bank_parts.specs.declared.texts.InfoId.TheVariants.{Comment, Software}
use Rattle.bank_parts.specs.Texts.{text_of}
use Rattle.bank_parts.specs.Valid.{IsValid}
use Rattle.bank_format.specs.Ids.{INFO, IFIL, ISNG, INAM, ICRD, IENG, IPRD, ICOP, ICMT, ISFT}
use Rattle.bank_format.specs.Texts.{text_body}
use Rattle.bank_format.specs.Canon.{version, text_chunk_if, info}
use Rattle.sf_writer.specs.Info.{text_id, optional_chunk}
use Rattle.sf_writer.proofs.ChunkLaws.{length-chunk-even, length-form-even, length-LIST}

-- ---- one text

pub length-text_body : (text : List ℕ) → length (text_body text) ≡ 2 * (length text / 2 + 1)
length-text_body text = elim (cases_eq (length text % 2) 1) [
  | inl odd ↦
      (let e : eqb (length text % 2) 1 ≡ true =
      eq-eqb _ _ odd in rw e (omega (arith, length-append text (replicate 1 0))))
  | inr even ↦
      (let e : eqb (length text % 2) 1 ≡ false =
      ne_eqb _ _ even in rw e (omega (arith, length-append text (replicate 2 0))))
]

pub text_body-even : (text : List ℕ) → length (text_body text) % 2 ≡ 0
text_body-even text = omega (arith, length-text_body text)

pub length-text_id : (which : InfoId) → length (text_id which) ≡ 4
unfolding ISNG INAM ICRD IENG IPRD ICOP ICMT ISFT
length-text_id Engine = refl
length-text_id Name = refl
length-text_id Date = refl
length-text_id Engineers = refl
length-text_id Product = refl
length-text_id Copyright = refl
length-text_id Comment = refl
length-text_id Software = refl

pub length-text_of-le : (b : Parts) (which : InfoId) → IsValid b → length (text_of b.texts which) ≤ 65535
length-text_of-le b Engine v = let h = v.texts.engine in omega (arith, h)
length-text_of-le b Name v = let h = v.texts.name in omega (arith, h)
length-text_of-le b Date v = let h = v.texts.date in omega (arith, h)
length-text_of-le b Engineers v = let h = v.texts.engineers in omega (arith, h)
length-text_of-le b Product v = let h = v.texts.product in omega (arith, h)
length-text_of-le b Copyright v = let h = v.texts.copyright in omega (arith, h)
length-text_of-le b Comment v = let h = v.texts.comment in omega (arith, h)
length-text_of-le b Software v = let h = v.texts.software in omega (arith, h)

pub length-text : (which : InfoId) (text : List ℕ)
    → length (chunk (text_id which) (text_body text)) ≡ 8 + length (text_body text)
length-text which text = length-chunk-even (text_id which) (text_body text) (length-text_id which) (text_body-even text)

-- ---- a text that is omitted if empty

text_chunk_if-empty : (id text : List ℕ) → length text ≡ 0 → encode (text_chunk_if id text) ≡ []
text_chunk_if-empty id [] e = refl
text_chunk_if-empty id (c ∷ text) e = absurd (omega arith)

text_chunk_if-there : (id text : List ℕ) → length text ≢ 0 → encode (text_chunk_if id text) ≡ chunk id (text_body text)
text_chunk_if-there id [] there = absurd (there refl)
text_chunk_if-there id (c ∷ text) there = append-nil (chunk id (text_body (c ∷ text)))

pub optional-empty : (b : Parts) (which : InfoId) → length (text_of b.texts which) ≡ 0
    → encode (optional_chunk b which) ≡ []
optional-empty b which e = text_chunk_if-empty (text_id which) (text_of b.texts which) e

pub optional-there : (b : Parts) (which : InfoId) → length (text_of b.texts which) ≢ 0
    → encode (optional_chunk b which) ≡ chunk (text_id which) (text_body (text_of b.texts which))
optional-there b which there = text_chunk_if-there (text_id which) (text_of b.texts which) there

pub ruleset texts = (length-text_of-le, length-text_body, length-text, optional-empty, optional-there)

-- ---- all chunks of the list

abbrev optional_texts : List InfoId
optional_texts = Date ∷ Engineers ∷ Product ∷ Copyright ∷ Comment ∷ Software ∷ []

abbrev spelled_text : Parts → InfoId → List ℕ
spelled_text b which = chunk (text_id which) (text_body (text_of b.texts which))

-- the version, the engine, the name, and the texts that may be omitted
pub info-parts : (b : Parts)
    → encode (info b)
    ≡ chunk IFIL (version b)
    ++ (spelled_text b Engine ++ (spelled_text b Name ++ encode (flat_map (optional_chunk b) optional_texts)))
unfolding info
info-parts b = refl

pub length-version : (b : Parts) → length (chunk IFIL (version b)) ≡ 12
unfolding IFIL
length-version b = length-chunk-even IFIL (version b) refl refl

pub length-info : (b : Parts)
    → length (encode (info b))
    ≡ 12 + length (spelled_text b Engine) + length (spelled_text b Name)
    + length (encode (flat_map (optional_chunk b) optional_texts))
length-info b =
    let others = encode (flat_map (optional_chunk b) optional_texts) in
    omega (
      arith,
      ap length (info-parts b),
      length-version b,
      length-append (chunk IFIL (version b)) (spelled_text b Engine ++ (spelled_text b Name ++ others)),
      length-append (spelled_text b Engine) (spelled_text b Name ++ others),
      length-append (spelled_text b Name) others,
    )

text_chunk_if-even : (which : InfoId) (text : List ℕ) → length (encode (text_chunk_if (text_id which) text)) % 2 ≡ 0
text_chunk_if-even which [] = refl
text_chunk_if-even which (c ∷ text) =
    omega (
      arith,
      text_body-even (c ∷ text),
      length-text which (c ∷ text),
      length-append (chunk (text_id which) (text_body (c ∷ text))) [],
    )

optional-even : (b : Parts) (ws : List InfoId) → length (encode (flat_map (optional_chunk b) ws)) % 2 ≡ 0
optional-even b [] = refl
optional-even b (w ∷ ws) =
    let rest = flat_map (optional_chunk b) ws in
    omega (
      arith,
      ap length (flat_map-append (λ (c : Chunk). chunk c.id c.body) (optional_chunk b w) rest),
      length-append (encode (optional_chunk b w)) (encode rest),
      text_chunk_if-even w (text_of b.texts w),
      optional-even b ws,
    )

pub info-even : (b : Parts) → length (encode (info b)) % 2 ≡ 0
info-even b =
    omega (
      arith,
      length-info b,
      length-text Engine b.texts.engine,
      length-text Name b.texts.name,
      text_body-even b.texts.engine,
      text_body-even b.texts.name,
      optional-even b optional_texts,
    )

pub ruleset info_size = (length-info, length-version)

pub length-INFO : length INFO ≡ 4
unfolding INFO
length-INFO = refl

-- the list
pub length-info_list : (b : Parts) → length (chunk LIST (INFO ++ encode (info b))) ≡ 8 + length (INFO ++ encode (info b))
length-info_list b = length-form-even LIST INFO (encode (info b)) length-LIST length-INFO (info-even b)
