-- The canonical file of a bank.
use Rattle.std.specs.Prelude.{ℕ, List, [], ◌∷◌, ◌++◌, flat_map}
use Rattle.byteorder.specs.Endian.{little_bytes}
use Rattle.sample_view.specs.Words.{word_bytes}
use Rattle.riff_chunks.specs.Walk.{Chunk, LIST}
use Rattle.riff_chunks.specs.Encoding.{chunk, encode}
use Rattle.hydra_records.specs.Encoding.{preset_head_bytes, bag_bytes, modulator_bytes, generator_bytes}
use Rattle.hydra_records.specs.Encoding.{instrument_head_bytes, sample_head_bytes}
use Rattle.bank_parts.specs.declared.parts.Parts.{Parts}
use Rattle.bank_format.specs.Ids as id
use Rattle.bank_format.specs.Texts.{text_body}
use Rattle.bank_format.specs.Tables.{Tables, tables_of, all_points}

abbrev pub chunk_of : List ℕ → List ℕ → Chunk
chunk_of name body = record { id = name; body = body }

-- a LIST chunk of a form
abbrev pub list_of : List ℕ → List Chunk → Chunk
list_of form chunks = chunk_of LIST (form ++ encode chunks)

abbrev pub text_chunk : List ℕ → List ℕ → Chunk
text_chunk name text = chunk_of name (text_body text)

-- a text chunk, omitted if the text is empty
abbrev pub text_chunk_if : List ℕ → List ℕ → List Chunk
text_chunk_if name [] = []
text_chunk_if name (c ∷ text) = text_chunk name (c ∷ text) ∷ []

-- `ifil`: the major version 2, and the minor version
abbrev pub version : Parts → List ℕ
version b = little_bytes 2 2 ++ little_bytes 2 b.minor

unfoldable pub info : Parts → List Chunk
info b =
    chunk_of id.IFIL (version b)
    ∷ text_chunk id.ISNG b.texts.engine
    ∷ text_chunk id.INAM b.texts.name
    ∷ (text_chunk_if id.ICRD b.texts.date
    ++ (text_chunk_if id.IENG b.texts.engineers
    ++ (text_chunk_if id.IPRD b.texts.product
    ++ (text_chunk_if id.ICOP b.texts.copyright
    ++ (text_chunk_if id.ICMT b.texts.comment
    ++ (text_chunk_if id.ISFT b.texts.software ++ []))))))

unfoldable pub sdta : Parts → List Chunk
sdta b = chunk_of id.SMPL (flat_map word_bytes (all_points b)) ∷ []

-- the nine lists of records, in their order
unfoldable pub pdta : Tables → List Chunk
pdta t =
    chunk_of id.PHDR (flat_map preset_head_bytes t.phdr)
    ∷ chunk_of id.PBAG (flat_map bag_bytes t.pbag)
    ∷ chunk_of id.PMOD (flat_map modulator_bytes t.pmod)
    ∷ chunk_of id.PGEN (flat_map generator_bytes t.pgen)
    ∷ chunk_of id.INST (flat_map instrument_head_bytes t.inst)
    ∷ chunk_of id.IBAG (flat_map bag_bytes t.ibag)
    ∷ chunk_of id.IMOD (flat_map modulator_bytes t.imod)
    ∷ chunk_of id.IGEN (flat_map generator_bytes t.igen)
    ∷ chunk_of id.SHDR (flat_map sample_head_bytes t.shdr)
    ∷ []

unfoldable pub lists : Parts → List Chunk
lists b = list_of id.INFO (info b) ∷ list_of id.SDTA (sdta b) ∷ list_of id.PDTA (pdta (tables_of b)) ∷ []

-- the canonical file
unfoldable pub canon : Parts → List ℕ
canon b = chunk id.RIFF (id.SFBK ++ encode (lists b))
