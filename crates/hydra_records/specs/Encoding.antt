-- The bytes of each record type and the record of bytes: field after field, numbers little-endian.
use Rattle.std.specs.Prelude.{ℕ, List, [], ◌∷◌, take}
use Rattle.std.specs.List.{concat}
use Rattle.std.specs.Int.{w8, w16, cast_signed, cast_unsigned}
use Rattle.byteorder.specs.Endian.{little_bytes}
use Rattle.sf_base.specs.Fields.{field_at}
use Rattle.modulators.specs.declared.modulator.Modulator.{Modulator}
use Rattle.hydra_records.specs.declared.head.InstrumentHead.{InstrumentHead}
use Rattle.hydra_records.specs.declared.head.PresetHead.{PresetHead}
use Rattle.hydra_records.specs.declared.head.SampleHead.{SampleHead}
use Rattle.hydra_records.specs.declared.zone.Bag.{Bag}
use Rattle.hydra_records.specs.declared.zone.Generator.{Generator}

-- ---- a preset, in phdr

-- The record in the bytes.
unfoldable pub preset_head_of : List ℕ → PresetHead
preset_head_of b = record {
  name = take 20 b;
  number = field_at 20 2 b;
  bank = field_at 22 2 b;
  bag = field_at 24 2 b;
  library = field_at 26 4 b;
  genre = field_at 30 4 b;
  morphology = field_at 34 4 b;
}

-- The bytes of the record.
unfoldable pub preset_head_bytes : PresetHead → List ℕ
preset_head_bytes h = concat (
    h.name ∷
    little_bytes 2 h.number ∷
    little_bytes 2 h.bank ∷
    little_bytes 2 h.bag ∷
    little_bytes 4 h.library ∷
    little_bytes 4 h.genre ∷
    little_bytes 4 h.morphology ∷
    [])

-- ---- a zone, in pbag and ibag

-- The record in the bytes.
unfoldable pub bag_of : List ℕ → Bag
bag_of b = record { gens = field_at 0 2 b; mods = field_at 2 2 b }

-- The bytes of the record.
unfoldable pub bag_bytes : Bag → List ℕ
bag_bytes r = concat (little_bytes 2 r.gens ∷ little_bytes 2 r.mods ∷ [])

-- ---- a modulator, in pmod and imod

-- The record in the bytes.
unfoldable pub modulator_of : List ℕ → Modulator
modulator_of b = record {
  source = field_at 0 2 b;
  dest = field_at 2 2 b;
  amount = cast_signed w16 (field_at 4 2 b);
  amount_source = field_at 6 2 b;
  transform = field_at 8 2 b;
}

-- The bytes of the record.
unfoldable pub modulator_bytes : Modulator → List ℕ
modulator_bytes m = concat (
    little_bytes 2 m.source ∷
    little_bytes 2 m.dest ∷
    little_bytes 2 (cast_unsigned w16 m.amount) ∷
    little_bytes 2 m.amount_source ∷
    little_bytes 2 m.transform ∷
    [])

-- ---- a generator, in pgen and igen

-- The record in the bytes.
unfoldable pub generator_of : List ℕ → Generator
generator_of b = record { operator = field_at 0 2 b; amount = field_at 2 2 b }

-- The bytes of the record.
unfoldable pub generator_bytes : Generator → List ℕ
generator_bytes g = concat (little_bytes 2 g.operator ∷ little_bytes 2 g.amount ∷ [])

-- ---- an instrument, in inst

-- The record in the bytes.
unfoldable pub instrument_head_of : List ℕ → InstrumentHead
instrument_head_of b = record { name = take 20 b; bag = field_at 20 2 b }

-- The bytes of the record.
unfoldable pub instrument_head_bytes : InstrumentHead → List ℕ
instrument_head_bytes h = concat (h.name ∷ little_bytes 2 h.bag ∷ [])

-- ---- a sample, in shdr

-- The record in the bytes.
unfoldable pub sample_head_of : List ℕ → SampleHead
sample_head_of b = record {
  name = take 20 b;
  start = field_at 20 4 b;
  end = field_at 24 4 b;
  loop_start = field_at 28 4 b;
  loop_end = field_at 32 4 b;
  rate = field_at 36 4 b;
  key = field_at 40 1 b;
  correction = cast_signed w8 (field_at 41 1 b);
  link = field_at 42 2 b;
  kind = field_at 44 2 b;
}

-- The bytes of the record.
unfoldable pub sample_head_bytes : SampleHead → List ℕ
sample_head_bytes h = concat (
    h.name ∷
    little_bytes 4 h.start ∷
    little_bytes 4 h.end ∷
    little_bytes 4 h.loop_start ∷
    little_bytes 4 h.loop_end ∷
    little_bytes 4 h.rate ∷
    little_bytes 1 h.key ∷
    little_bytes 1 (cast_unsigned w8 h.correction) ∷
    little_bytes 2 h.link ∷
    little_bytes 2 h.kind ∷
    [])
