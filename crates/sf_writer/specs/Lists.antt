-- The bytes of LIST chunks, and the bag, modulator and generator lists of a level.
use Rattle.std.specs.Prelude.{ℕ, List, [], ◌∷◌, ◌++◌, flat_map}
use Rattle.generators.specs.declared.level.Level.{Level}
use Rattle.generators.specs.declared.level.Level.TheVariants.{Preset, Inst}
use Rattle.riff_chunks.specs.Walk.{Chunk, LIST}
use Rattle.riff_chunks.specs.Encoding.{chunk, encode}
use Rattle.hydra_records.specs.Encoding.{bag_bytes, modulator_bytes, generator_bytes}
use Rattle.bank_format.specs.Ids as id
use Rattle.bank_format.specs.Zones.{Bagged}
use Rattle.bank_format.specs.Tables.{bag_list, mod_list, gen_list}
use Rattle.bank_format.specs.Canon.{chunk_of}

-- a LIST chunk of a form, as bytes
abbrev pub list_bytes : List ℕ → List Chunk → List ℕ
list_bytes form chunks = chunk LIST (form ++ encode chunks)

-- a chunk of records, as bytes
abbrev pub table_bytes : {R : Type 0} → List ℕ → (R → List ℕ) → List R → List ℕ
table_bytes name bytes_of records = chunk name (flat_map bytes_of records)

-- the ids of the lists of a level

abbrev pub bag_id : Level → List ℕ
bag_id Preset = id.PBAG
bag_id Inst = id.IBAG

abbrev pub mod_id : Level → List ℕ
mod_id Preset = id.PMOD
mod_id Inst = id.IMOD

abbrev pub gen_id : Level → List ℕ
gen_id Preset = id.PGEN
gen_id Inst = id.IGEN

-- the bag, modulator and generator lists of a level
unfoldable pub zone_lists : Level → List Bagged → List Chunk
zone_lists at bags =
    chunk_of (bag_id at) (flat_map bag_bytes (bag_list bags))
    ∷ chunk_of (mod_id at) (flat_map modulator_bytes (mod_list bags))
    ∷ chunk_of (gen_id at) (flat_map generator_bytes (gen_list bags))
    ∷ []
