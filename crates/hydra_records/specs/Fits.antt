-- Each number of a record is in the range of its field, and a name has its 20 bytes. For modulators this is
-- `FitsModulator` of `modulators`.
use Rattle.std.specs.Prelude.{◌≡◌, ◌<◌, ◌^◌, length, FitsSigned}
use Rattle.std.specs.Int.{w8}
use Rattle.hydra_records.specs.declared.head.InstrumentHead.{InstrumentHead}
use Rattle.hydra_records.specs.declared.head.PresetHead.{PresetHead}
use Rattle.hydra_records.specs.declared.head.SampleHead.{SampleHead}
use Rattle.hydra_records.specs.declared.zone.Bag.{Bag}
use Rattle.hydra_records.specs.declared.zone.Generator.{Generator}

-- A record of phdr.
pub record FitsPresetHead (h : PresetHead) : Type 0 where
  pub name : length h.name ≡ 20
  pub number : h.number < 2 ^ 16
  pub bank : h.bank < 2 ^ 16
  pub bag : h.bag < 2 ^ 16
  pub library : h.library < 2 ^ 32
  pub genre : h.genre < 2 ^ 32
  pub morphology : h.morphology < 2 ^ 32

-- A record of pbag or ibag.
pub record FitsBag (b : Bag) : Type 0 where
  pub gens : b.gens < 2 ^ 16
  pub mods : b.mods < 2 ^ 16

-- A record of pgen or igen.
pub record FitsGenerator (g : Generator) : Type 0 where
  pub operator : g.operator < 2 ^ 16
  pub amount : g.amount < 2 ^ 16

-- A record of inst.
pub record FitsInstrumentHead (h : InstrumentHead) : Type 0 where
  pub name : length h.name ≡ 20
  pub bag : h.bag < 2 ^ 16

-- A record of shdr.
pub record FitsSampleHead (h : SampleHead) : Type 0 where
  pub name : length h.name ≡ 20
  pub start : h.start < 2 ^ 32
  pub end : h.end < 2 ^ 32
  pub loop_start : h.loop_start < 2 ^ 32
  pub loop_end : h.loop_end < 2 ^ 32
  pub rate : h.rate < 2 ^ 32
  pub key : h.key < 2 ^ 8
  pub correction : FitsSigned w8 h.correction
  pub link : h.link < 2 ^ 16
  pub kind : h.kind < 2 ^ 16
