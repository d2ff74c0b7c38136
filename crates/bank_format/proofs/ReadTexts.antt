-- The texts and names read from bytes are valid, and consist of bytes.
use Rattle.std.proofs.Common.{◌≡◌, ◌<◌, ℕ, List, [], ◌∷◌, length, take, arith}
use Rattle.std.specs.List.{AllByRecursion}
use Rattle.std.proofs.lemmas.List.{length-take}
use Rattle.sf_base.specs.Names.{IsTextByte, IsText, IsName, before_zero}
use Rattle.riff_chunks.specs.Walk.{Chunk}
use Rattle.bank_parts.specs.declared.texts.Texts.{Texts}
use Rattle.bank_parts.specs.Valid.{AreTexts}
use Rattle.bank_parts.specs.Fits.{FitsText, FitTexts}
use Rattle.hydra_records.specs.Records.{AreBytes}
use Rattle.bank_format.specs.Ids.{ISNG, INAM, ICRD, IENG, IPRD, ICOP, ICMT, ISFT, EMU8000}
use Rattle.bank_format.specs.Texts.{text_in, engine_read, texts_read}
use Rattle.bank_format.specs.Chunks.{body_in}
use Rattle.bank_format.proofs.NameLaws.{before_zero-bytes, length-before_zero}
use Rattle.bank_format.proofs.ReadBytes.{OfBytes, in_turn, body_bytes}
use Rattle.bank_format.proofs.ReadWindows.{all_of_take}

pub name_valid : (name : List ℕ) → AreBytes name → length name ≡ 20 → IsName (before_zero name)
name_valid name b e = (omega (arith, e, length-before_zero name), before_zero-bytes name (in_turn name b))

text_valid : (n : ℕ) (name : List ℕ) (info : List Chunk) → AllByRecursion OfBytes info
    → IsText n (take n (text_in name info))
text_valid n name info h =
    let bytes = in_turn (body_in name info) (body_bytes name info h) in (
      omega (arith, length-take n (text_in name info)),
      all_of_take IsTextByte n (text_in name info) (before_zero-bytes (body_in name info) bytes),
    )

engine_valid : (text : List ℕ) → IsText 255 text → IsText 255 (engine_read text) × (0 < length (engine_read text))
unfolding EMU8000
engine_valid [] h = (
  (
    omega arith,
    (
      (omega arith, omega arith),
      (
        (omega arith, omega arith),
        (
          (omega arith, omega arith),
          (
            (omega arith, omega arith),
            ((omega arith, omega arith), ((omega arith, omega arith), ((omega arith, omega arith), tt))),
          ),
        ),
      ),
    ),
  ),
  omega arith,
)
engine_valid (c ∷ text) h = (h, omega arith)

pub texts_valid : (info : List Chunk) → AllByRecursion OfBytes info → AreTexts (texts_read info)
unfolding texts_read
texts_valid info h =
    let engine = engine_valid (take 255 (text_in ISNG info)) (text_valid 255 ISNG info h) in
    record {
      engine = engine.0;
      engine_there = engine.1;
      name = text_valid 255 INAM info h;
      date = text_valid 255 ICRD info h;
      engineers = text_valid 255 IENG info h;
      product = text_valid 255 IPRD info h;
      copyright = text_valid 255 ICOP info h;
      comment = text_valid 65535 ICMT info h;
      software = text_valid 255 ISFT info h;
    }

-- ---- bytes

bytes_fit : (text : List ℕ) → AllByRecursion IsTextByte text → FitsText text
bytes_fit [] v = tt
bytes_fit (b ∷ text) v = (omega (arith, v.0.1), bytes_fit text v.1)

pub texts_fit : (t : Texts) → AreTexts t → FitTexts t
texts_fit t v = record {
  engine = bytes_fit t.engine v.engine.1;
  name = bytes_fit t.name v.name.1;
  date = bytes_fit t.date v.date.1;
  engineers = bytes_fit t.engineers v.engineers.1;
  product = bytes_fit t.product v.product.1;
  copyright = bytes_fit t.copyright v.copyright.1;
  comment = bytes_fit t.comment v.comment.1;
  software = bytes_fit t.software v.software.1;
}
