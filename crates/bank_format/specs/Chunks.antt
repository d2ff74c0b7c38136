-- Chunks, lists and tables of a file. The window of a file is the body of its RIFF chunk after the form.
use Rattle.std.specs.Prelude.{◌+◌, ℕ, List, [], ◌∷◌, take, drop, unwrap_or}
use Rattle.sf_base.specs.Fields.{field_at}
use Rattle.sample_view.specs.Words.{words}
use Rattle.riff_chunks.specs.Walk.{Chunk, walk}
use Rattle.riff_chunks.specs.Finding.{chunks_in, first_body, first_list}
use Rattle.modulators.specs.declared.modulator.Modulator.{Modulator}
use Rattle.hydra_records.specs.Records.{records}
use Rattle.hydra_records.specs.Encoding.{preset_head_of, bag_of, modulator_of, generator_of, instrument_head_of}
use Rattle.hydra_records.specs.Encoding.{sample_head_of}
use Rattle.bank_format.specs.Ids as id
use Rattle.bank_format.specs.Tables.{Tables, modulator_end}

-- ---- windows

abbrev pub riff_size : List ℕ → ℕ
riff_size file = field_at 4 4 file

-- the body of the RIFF chunk after its form
unfoldable pub window : List ℕ → List ℕ
window file = drop 12 (take (8 + riff_size file) file)

-- the body of the first LIST chunk of a form, after the form; empty if there is none
unfoldable pub list_window : List ℕ → List ℕ → List ℕ
list_window form w = unwrap_or (first_list form (chunks_in (walk w))) []

-- the chunks of that list
abbrev pub chunks_of : List ℕ → List ℕ → List Chunk
chunks_of form w = chunks_in (walk (list_window form w))

-- the body of the first chunk with an id; empty if there is none
abbrev pub body_in : List ℕ → List Chunk → List ℕ
body_in name chunks = unwrap_or (first_body name chunks) []

-- ---- the nine lists of records

-- an empty list of modulators reads as one zero record, its terminal
abbrev pub or_terminal : List Modulator → List Modulator
or_terminal [] = modulator_end ∷ []
or_terminal (m ∷ modulators) = m ∷ modulators

unfoldable pub tables_in : List Chunk → Tables
tables_in pdta = record {
  phdr = records 38 preset_head_of (body_in id.PHDR pdta);
  pbag = records 4 bag_of (body_in id.PBAG pdta);
  pmod = or_terminal (records 10 modulator_of (body_in id.PMOD pdta));
  pgen = records 4 generator_of (body_in id.PGEN pdta);
  inst = records 22 instrument_head_of (body_in id.INST pdta);
  ibag = records 4 bag_of (body_in id.IBAG pdta);
  imod = or_terminal (records 10 modulator_of (body_in id.IMOD pdta));
  igen = records 4 generator_of (body_in id.IGEN pdta);
  shdr = records 46 sample_head_of (body_in id.SHDR pdta);
}

-- the points of `smpl` as 16-bit words; none if the chunk is missing
unfoldable pub points_in : List Chunk → List ℕ
points_in sdta = words (body_in id.SMPL sdta)
