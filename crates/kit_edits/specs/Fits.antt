-- What a kit is made of is in the ranges of its types.
use Rattle.std.specs.Prelude.{◌<◌, ◌^◌, ℕ, ℤ, Option, Some, None, FitsSigned}
use Rattle.std.specs.Int.{w16}
use Rattle.sf_base.specs.Names.{IsName}
use Rattle.generators.specs.declared.range.Range.{Range}
use Rattle.kit_tables.specs.declared.zone.KitZone.{KitZone}
use Rattle.kit_edits.specs.declared.kit.KitMembers.{KitMembers}
use Rattle.kit_edits.specs.declared.kit.KitPreset.{KitPreset}

-- a byte, if there is one
abbrev pub FitsByte : Option ℕ → Type 0
FitsByte None = Unit {0}
FitsByte (Some n) = n < 2 ^ 8

-- a pan of 16 bits, if there is one
abbrev pub FitsPan : Option ℤ → Type 0
FitsPan None = Unit {0}
FitsPan (Some z) = FitsSigned w16 z

pub record FitsRange (r : Range) : Type 0 where
  pub low : r.low < 2 ^ 8
  pub high : r.high < 2 ^ 8

pub record FitsKitZone (z : KitZone) : Type 0 where
  pub keys : FitsRange z.keys
  pub velocities : FitsRange z.velocities
  pub root : FitsByte z.root
  pub pan : FitsPan z.pan
  pub class : FitsByte z.class

pub record FitsPreset (p : KitPreset) : Type 0 where
  pub name : IsName p.name
  pub number : p.numbers.number < 2 ^ 16
  pub bank : p.numbers.bank < 2 ^ 16

-- this holds of the value, if there is one
abbrev pub FitsMaybe : {X : Type 0} → (X → Type 0) → Option X → Type 0
FitsMaybe P None = Unit {0}
FitsMaybe P (Some x) = P x

pub record FitMembers (m : KitMembers) : Type 0 where
  pub instrument : FitsMaybe IsName m.instrument
  pub preset : FitsMaybe FitsPreset m.preset
