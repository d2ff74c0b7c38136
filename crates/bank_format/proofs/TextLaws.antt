-- Reading the written texts returns them, and none is truncated.
use Rattle.std.proofs.Common.{◌≡◌, ◌≤◌, ◌<◌, ◌+◌, ◌^◌, ℕ, true, false, ltb, List, [], ◌∷◌, ◌++◌, length, take, drop}
use Rattle.std.proofs.Common.{Option, Some, None, refl, ap, ◌∙◌, arith}
use Rattle.std.specs.Prelude.{unwrap_or}
use Rattle.std.specs.List.{AllByRecursion}
use Rattle.std.specs.Str.{bytes_eq}
use Rattle.std.proofs.lemmas.Bool.{le-ltb}
use Rattle.std.proofs.lemmas.List.{take_all}
use Rattle.byteorder.specs.Endian.{little_number}
use Rattle.byteorder.specs.Numbers.{little_number-reads_back}
use Rattle.riff_chunks.specs.Walk.{Chunk}
use Rattle.riff_chunks.specs.Finding.{first_body}
use Rattle.sf_base.specs.Fields.{field_at}
use Rattle.sf_base.specs.Names.{IsTextByte, before_zero}
use Rattle.bank_parts.specs.Valid.{AreTexts}
use Rattle.bank_parts.specs.declared.parts.Parts.{Parts}
use Rattle.bank_format.specs.Ids.{IFIL, ISNG, INAM, ICRD, IENG, IPRD, ICOP, ICMT, ISFT}
use Rattle.bank_format.specs.Canon.{text_chunk_if, version, info}
use Rattle.bank_format.specs.Chunks.{body_in}
use Rattle.bank_format.specs.Texts.{text_body, text_in, engine_read, texts_read, over, truncated_text_count}
use Rattle.bank_format.proofs.NameLaws.{before_zero-zeros}

before_zero-body : (t : List ℕ) → AllByRecursion IsTextByte t → before_zero (text_body t) ≡ t
before_zero-body t h = before_zero-zeros t _ h

skip : (other name t : List ℕ) (rest : List Chunk) → bytes_eq other name ≡ false
    → first_body name (text_chunk_if other t ++ rest) ≡ first_body name rest
skip other name [] rest e = refl
skip other name (c ∷ t) rest e = rw e refl

found : (name t : List ℕ) (rest : List Chunk) → bytes_eq name name ≡ true → first_body name rest ≡ None
    → AllByRecursion IsTextByte t → before_zero (unwrap_or (first_body name (text_chunk_if name t ++ rest)) []) ≡ t
found name [] rest e n h = rw n refl
found name (c ∷ t) rest e n h = rw e (before_zero-body (c ∷ t) h)

abbrev text_of : Option (List ℕ) → List ℕ
text_of o = before_zero (unwrap_or o [])

module _ (b : Parts) (v : AreTexts b.texts) where
  abbrev r6 : List Chunk
  r6 = text_chunk_if ISFT b.texts.software ++ []

  abbrev r5 : List Chunk
  r5 = text_chunk_if ICMT b.texts.comment ++ r6

  abbrev r4 : List Chunk
  r4 = text_chunk_if ICOP b.texts.copyright ++ r5

  abbrev r3 : List Chunk
  r3 = text_chunk_if IPRD b.texts.product ++ r4

  abbrev r2 : List Chunk
  r2 = text_chunk_if IENG b.texts.engineers ++ r3

  pub engine_in : text_in ISNG (info b) ≡ b.texts.engine
  unfolding info IFIL ISNG
  engine_in = before_zero-body b.texts.engine v.engine.1

  pub name_in : text_in INAM (info b) ≡ b.texts.name
  unfolding info IFIL ISNG INAM
  name_in = before_zero-body b.texts.name v.name.1

  pub date_in : text_in ICRD (info b) ≡ b.texts.date
  unfolding info IFIL ISNG INAM ICRD IENG IPRD ICOP ICMT ISFT
  date_in =
      found ICRD b.texts.date r2 refl
      (skip IENG ICRD b.texts.engineers r3 refl
      ∙
      (skip IPRD ICRD b.texts.product r4 refl
      ∙
      (skip ICOP ICRD b.texts.copyright r5 refl
      ∙ (skip ICMT ICRD b.texts.comment r6 refl ∙ skip ISFT ICRD b.texts.software [] refl))))
      v.date.1

  pub engineers_in : text_in IENG (info b) ≡ b.texts.engineers
  unfolding info IFIL ISNG INAM ICRD IENG IPRD ICOP ICMT ISFT
  engineers_in =
      ap text_of (skip ICRD IENG b.texts.date r2 refl)
      ∙ found IENG b.texts.engineers r3 refl
      (skip IPRD IENG b.texts.product r4 refl
      ∙
      (skip ICOP IENG b.texts.copyright r5 refl
      ∙ (skip ICMT IENG b.texts.comment r6 refl ∙ skip ISFT IENG b.texts.software [] refl)))
      v.engineers.1

  pub product_in : text_in IPRD (info b) ≡ b.texts.product
  unfolding info IFIL ISNG INAM ICRD IENG IPRD ICOP ICMT ISFT
  product_in =
      ap text_of (skip ICRD IPRD b.texts.date r2 refl ∙ skip IENG IPRD b.texts.engineers r3 refl)
      ∙ found IPRD b.texts.product r4 refl
      (skip ICOP IPRD b.texts.copyright r5 refl
      ∙ (skip ICMT IPRD b.texts.comment r6 refl ∙ skip ISFT IPRD b.texts.software [] refl))
      v.product.1

  pub copyright_in : text_in ICOP (info b) ≡ b.texts.copyright
  unfolding info IFIL ISNG INAM ICRD IENG IPRD ICOP ICMT ISFT
  copyright_in =
      ap text_of
      (skip ICRD ICOP b.texts.date r2 refl
      ∙ (skip IENG ICOP b.texts.engineers r3 refl ∙ skip IPRD ICOP b.texts.product r4 refl))
      ∙ found ICOP b.texts.copyright r5 refl
      (skip ICMT ICOP b.texts.comment r6 refl ∙ skip ISFT ICOP b.texts.software [] refl) v.copyright.1

  pub comment_in : text_in ICMT (info b) ≡ b.texts.comment
  unfolding info IFIL ISNG INAM ICRD IENG IPRD ICOP ICMT ISFT
  comment_in =
      ap text_of
      (skip ICRD ICMT b.texts.date r2 refl
      ∙
      (skip IENG ICMT b.texts.engineers r3 refl
      ∙ (skip IPRD ICMT b.texts.product r4 refl ∙ skip ICOP ICMT b.texts.copyright r5 refl)))
      ∙ found ICMT b.texts.comment r6 refl (skip ISFT ICMT b.texts.software [] refl) v.comment.1

  pub software_in : text_in ISFT (info b) ≡ b.texts.software
  unfolding info IFIL ISNG INAM ICRD IENG IPRD ICOP ICMT ISFT
  software_in =
      ap text_of
      (skip ICRD ISFT b.texts.date r2 refl
      ∙
      (skip IENG ISFT b.texts.engineers r3 refl
      ∙
      (skip IPRD ISFT b.texts.product r4 refl
      ∙ (skip ICOP ISFT b.texts.copyright r5 refl ∙ skip ICMT ISFT b.texts.comment r6 refl))))
      ∙ found ISFT b.texts.software [] refl refl v.software.1

  read_whole : (n : ℕ) (x t : List ℕ) → x ≡ t → length t ≤ n → take n x ≡ t
  read_whole n x t e le = ap (take n) e ∙ take_all n t le

  engine_again : (x : List ℕ) → 0 < length x → engine_read x ≡ x
  engine_again [] h = absurd (omega arith)
  engine_again (c ∷ x) h = refl

  pub texts-again : texts_read (info b) ≡ b.texts
  unfolding texts_read
  texts-again =
      let engine =
      ap engine_read (read_whole 255 (text_in ISNG (info b)) b.texts.engine engine_in v.engine.0)
      ∙ engine_again b.texts.engine v.engine_there in
      λ i. record {
        engine = engine i;
        name = read_whole 255 (text_in INAM (info b)) b.texts.name name_in v.name.0 i;
        date = read_whole 255 (text_in ICRD (info b)) b.texts.date date_in v.date.0 i;
        engineers = read_whole 255 (text_in IENG (info b)) b.texts.engineers engineers_in v.engineers.0 i;
        product = read_whole 255 (text_in IPRD (info b)) b.texts.product product_in v.product.0 i;
        copyright = read_whole 255 (text_in ICOP (info b)) b.texts.copyright copyright_in v.copyright.0 i;
        comment = read_whole 65535 (text_in ICMT (info b)) b.texts.comment comment_in v.comment.0 i;
        software = read_whole 255 (text_in ISFT (info b)) b.texts.software software_in v.software.0 i;
      }

  not_over : (n : ℕ) (x t : List ℕ) → x ≡ t → length t ≤ n → over n x ≡ 0
  not_over n x t e le = ap (over n) e ∙ (let f : ltb n (length t) ≡ false = le-ltb _ _ le in rw f refl)

  pub texts_counted : truncated_text_count (info b) ≡ 0
  unfolding truncated_text_count
  texts_counted =
      let a1 = not_over 255 (text_in ISNG (info b)) b.texts.engine engine_in v.engine.0 in
      let a2 = not_over 255 (text_in INAM (info b)) b.texts.name name_in v.name.0 in
      let a3 = not_over 255 (text_in ICRD (info b)) b.texts.date date_in v.date.0 in
      let a4 = not_over 255 (text_in IENG (info b)) b.texts.engineers engineers_in v.engineers.0 in
      let a5 = not_over 255 (text_in IPRD (info b)) b.texts.product product_in v.product.0 in
      let a6 = not_over 255 (text_in ICOP (info b)) b.texts.copyright copyright_in v.copyright.0 in
      let a7 = not_over 65535 (text_in ICMT (info b)) b.texts.comment comment_in v.comment.0 in
      let a8 = not_over 255 (text_in ISFT (info b)) b.texts.software software_in v.software.0 in
      λ i. a1 i + a2 i + a3 i + a4 i + a5 i + a6 i + a7 i + a8 i

  pub version_in : first_body IFIL (info b) ≡ Some (version b)
  unfolding info IFIL
  version_in = refl

  pub minor-again : b.minor < 2 ^ 16 → field_at 2 2 (body_in IFIL (info b)) ≡ b.minor
  minor-again lt =
      ap (λ (o : Option (List ℕ)). little_number 2 (drop 2 (unwrap_or o []))) version_in
      ∙ little_number-reads_back 2 b.minor [] lt
