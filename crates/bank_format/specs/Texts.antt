-- Writing and reading the texts of INFO.
use Rattle.std.specs.Prelude.{◌+◌, ◌%◌, ◌==◌, ℕ, List, [], ◌∷◌, ◌++◌, length, take, replicate, unwrap_or, nat_lt}
use Rattle.std.specs.Prelude.{if◌then◌else◌}
use Rattle.sf_base.specs.Names.{before_zero}
use Rattle.sf_base.specs.declared.limits.TheConstants.{TEXT_LENGTH, COMMENT_LENGTH}
use Rattle.riff_chunks.specs.Walk.{Chunk}
use Rattle.riff_chunks.specs.Finding.{first_body}
use Rattle.bank_parts.specs.declared.texts.Texts.{Texts}
use Rattle.bank_format.specs.Ids as id

-- a text is padded with one zero byte if its length is odd, otherwise with two
abbrev pub text_body : List ℕ → List ℕ
text_body text = text ++ replicate (if length text % 2 == 1 then 1 else 2) 0

-- the text of the first chunk with an id, before it is truncated; empty if there is none
abbrev pub text_in : List ℕ → List Chunk → List ℕ
text_in name info = before_zero (unwrap_or (first_body name info) [])

-- an empty engine reads as EMU8000
abbrev pub engine_read : List ℕ → List ℕ
engine_read [] = id.EMU8000
engine_read (c ∷ text) = c ∷ text

-- the eight texts, each truncated to its maximum length
unfoldable pub texts_read : List Chunk → Texts
texts_read info = record {
  engine = engine_read (take TEXT_LENGTH (text_in id.ISNG info));
  name = take TEXT_LENGTH (text_in id.INAM info);
  date = take TEXT_LENGTH (text_in id.ICRD info);
  engineers = take TEXT_LENGTH (text_in id.IENG info);
  product = take TEXT_LENGTH (text_in id.IPRD info);
  copyright = take TEXT_LENGTH (text_in id.ICOP info);
  comment = take COMMENT_LENGTH (text_in id.ICMT info);
  software = take TEXT_LENGTH (text_in id.ISFT info);
}

-- 1 if the text is longer than `most`
abbrev pub over : ℕ → List ℕ → ℕ
over most text = if nat_lt most (length text) then 1 else 0

-- how many texts are truncated
unfoldable pub truncated_text_count : List Chunk → ℕ
truncated_text_count info =
    over TEXT_LENGTH (text_in id.ISNG info)
    + over TEXT_LENGTH (text_in id.INAM info)
    + over TEXT_LENGTH (text_in id.ICRD info)
    + over TEXT_LENGTH (text_in id.IENG info)
    + over TEXT_LENGTH (text_in id.IPRD info)
    + over TEXT_LENGTH (text_in id.ICOP info)
    + over COMMENT_LENGTH (text_in id.ICMT info)
    + over TEXT_LENGTH (text_in id.ISFT info)
