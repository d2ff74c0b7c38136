-- The texts of a bank as chunks, by `InfoId`.
use Rattle.std.specs.Prelude.{ℕ, List}
use Rattle.riff_chunks.specs.Walk.{Chunk}
use Rattle.riff_chunks.specs.Encoding.{chunk}
use Rattle.bank_parts.specs.declared.parts.Parts.{Parts}
use Rattle.bank_parts.specs.declared.texts.InfoId.{InfoId}
use Rattle.bank_parts.specs.declared.texts.InfoId.TheVariants.{Engine, Name, Date, Engineers, Product, Copyright}
use Rattle.bank_parts.specs.declared.texts.InfoId.TheVariants.{Comment, Software}
use Rattle.bank_parts.specs.Texts.{text_of}
use Rattle.bank_format.specs.Texts.{text_body}
use Rattle.bank_format.specs.Canon.{text_chunk_if}
use Rattle.bank_format.specs.Ids as id

-- the id of a text's chunk
abbrev pub text_id : InfoId → List ℕ
text_id Engine = id.ISNG
text_id Name = id.INAM
text_id Date = id.ICRD
text_id Engineers = id.IENG
text_id Product = id.IPRD
text_id Copyright = id.ICOP
text_id Comment = id.ICMT
text_id Software = id.ISFT

-- the chunk of a text, as bytes
abbrev pub text_bytes : Parts → InfoId → List ℕ
text_bytes b which = chunk (text_id which) (text_body (text_of b.texts which))

-- the chunk of a text, omitted if the text is empty
abbrev pub optional_chunk : Parts → InfoId → List Chunk
optional_chunk b which = text_chunk_if (text_id which) (text_of b.texts which)
