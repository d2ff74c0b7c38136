-- The eight texts of a file, before and after they are truncated.
use Rattle.std.specs.Prelude.{◌+◌, ℕ, List, take}
use Rattle.sf_base.specs.declared.limits.TheConstants.{TEXT_LENGTH, COMMENT_LENGTH}
use Rattle.riff_chunks.specs.Walk.{Chunk}
use Rattle.bank_parts.specs.declared.texts.Texts.{Texts}
use Rattle.bank_format.specs.Ids as id
use Rattle.bank_format.specs.Texts.{text_in, engine_read, over}

-- before they are truncated
unfoldable pub texts_in : List Chunk → Texts
texts_in info = record {
  engine = text_in id.ISNG info;
  name = text_in id.INAM info;
  date = text_in id.ICRD info;
  engineers = text_in id.IENG info;
  product = text_in id.IPRD info;
  copyright = text_in id.ICOP info;
  comment = text_in id.ICMT info;
  software = text_in id.ISFT info;
}

-- truncated to their maximum lengths, with a default engine
unfoldable pub truncated_to_limits : Texts → Texts
truncated_to_limits t = record {
  engine = engine_read (take TEXT_LENGTH t.engine);
  name = take TEXT_LENGTH t.name;
  date = take TEXT_LENGTH t.date;
  engineers = take TEXT_LENGTH t.engineers;
  product = take TEXT_LENGTH t.product;
  copyright = take TEXT_LENGTH t.copyright;
  comment = take COMMENT_LENGTH t.comment;
  software = take TEXT_LENGTH t.software;
}

-- how many are too long
unfoldable pub too_long_count : Texts → ℕ
too_long_count t =
    over TEXT_LENGTH t.engine + over TEXT_LENGTH t.name + over TEXT_LENGTH t.date + over TEXT_LENGTH t.engineers
    + over TEXT_LENGTH t.product + over TEXT_LENGTH t.copyright + over COMMENT_LENGTH t.comment
    + over TEXT_LENGTH t.software
