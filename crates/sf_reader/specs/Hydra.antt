-- The nine record lists of `pdta`, as bytes and as records.
use Rattle.std.specs.Prelude.{◌≡◌, ◌==◌, ◌%◌, ◌++◌, ℕ, List, [], ◌∷◌, length}
use Rattle.riff_chunks.specs.Walk.{Chunk}
use Rattle.modulators.specs.declared.modulator.Modulator.{Modulator}
use Rattle.hydra_records.specs.declared.zone.Bag.{Bag}
use Rattle.hydra_records.specs.declared.zone.Generator.{Generator}
use Rattle.hydra_records.specs.Records.{records}
use Rattle.hydra_records.specs.Encoding.{preset_head_of, bag_of, modulator_of, generator_of, instrument_head_of}
use Rattle.hydra_records.specs.Encoding.{sample_head_of}
use Rattle.bank_format.specs.declared.fault.ReadFault.{ReadFault}
use Rattle.bank_format.specs.declared.fault.ReadFault.TheVariants.{RecordSize}
use Rattle.bank_format.specs.Ids as id
use Rattle.bank_format.specs.FaultChecks.{Check, check}
use Rattle.bank_format.specs.Tables.{Tables}
use Rattle.bank_format.specs.Chunks.{body_in, or_terminal}
use Rattle.bank_format.specs.ReadChecks.{index_checks, bag_checks}
use Rattle.sf_reader.specs.declared.hydra.LevelChunks.{LevelChunks}
use Rattle.sf_reader.specs.declared.hydra.LevelTables.{LevelTables}

-- ---- bytes

-- the bodies of the nine chunks
pub record Bodies : Type 0 where
  pub phdr : List ℕ
  pub pbag : List ℕ
  pub pmod : List ℕ
  pub pgen : List ℕ
  pub inst : List ℕ
  pub ibag : List ℕ
  pub imod : List ℕ
  pub igen : List ℕ
  pub shdr : List ℕ

-- the body of the first chunk with each id
unfoldable pub bodies_in : List Chunk → Bodies
bodies_in pdta = record {
  phdr = body_in id.PHDR pdta;
  pbag = body_in id.PBAG pdta;
  pmod = body_in id.PMOD pdta;
  pgen = body_in id.PGEN pdta;
  inst = body_in id.INST pdta;
  ibag = body_in id.IBAG pdta;
  imod = body_in id.IMOD pdta;
  igen = body_in id.IGEN pdta;
  shdr = body_in id.SHDR pdta;
}

-- ---- records

-- the length of a body is a multiple of the record size
abbrev pub body_size_check : ℕ → List ℕ → Check ReadFault
body_size_check size body = check (length body % size == 0) RecordSize

-- the size check of each of the nine bodies
unfoldable pub body_size_checks : Bodies → List (Check ReadFault)
body_size_checks b =
    body_size_check 38 b.phdr ∷ body_size_check 4 b.pbag ∷ body_size_check 10 b.pmod ∷ body_size_check 4 b.pgen
    ∷ body_size_check 22 b.inst ∷ body_size_check 4 b.ibag ∷ body_size_check 10 b.imod ∷ body_size_check 4 b.igen
    ∷ body_size_check 46 b.shdr
    ∷ []

-- the nine lists of records
unfoldable pub tables_from : Bodies → Tables
tables_from b = record {
  phdr = records 38 preset_head_of b.phdr;
  pbag = records 4 bag_of b.pbag;
  pmod = or_terminal (records 10 modulator_of b.pmod);
  pgen = records 4 generator_of b.pgen;
  inst = records 22 instrument_head_of b.inst;
  ibag = records 4 bag_of b.ibag;
  imod = or_terminal (records 10 modulator_of b.imod);
  igen = records 4 generator_of b.igen;
  shdr = records 46 sample_head_of b.shdr;
}

-- ---- presets or instruments

-- the size checks of the four bodies, where `size` is the size of a header
abbrev pub level_size_checks : ℕ → LevelChunks → List (Check ReadFault)
level_size_checks size c =
    body_size_check size c.heads.now ∷ body_size_check 4 c.bags.now ∷ body_size_check 10 c.modulators.now
    ∷ body_size_check 4 c.generators.now ∷ []

-- the four lists of records
abbrev pub level_of : {H : Type 0} → ℕ → (List ℕ → H) → LevelChunks → LevelTables H
level_of size of_bytes c = record {
  heads = records size of_bytes c.heads.now;
  bags = records 4 bag_of c.bags.now;
  modulators = records 10 modulator_of c.modulators.now;
  generators = records 4 generator_of c.generators.now;
}

-- the checks of the indexes in headers and bags
abbrev pub level_index_checks : {H : Type 0} → List ℕ → LevelTables H → List (Check ReadFault)
level_index_checks first_bags l =
    index_checks first_bags (length l.bags) ++ bag_checks l.bags (length l.generators) (length (or_terminal l.modulators))

-- the four lists are these; an empty list of modulators reads as one zero record
pub record AreLists {H : Type 0} (l : LevelTables H) (heads : List H) (bags : List Bag) (generators : List Generator)
    (modulators : List Modulator) : Type 0 where
  pub heads_are : l.heads ≡ heads
  pub bags_are : l.bags ≡ bags
  pub generators_are : l.generators ≡ generators
  pub modulators_are : or_terminal l.modulators ≡ modulators
