-- Values whose numbers, names and texts lie in the ranges of their fields. Every value at run time is such a value; a
-- law about banks as data has to require it.
use Rattle.std.specs.Prelude.{◌<◌, ◌^◌, ℕ, List, Option, Some, None, FitsSigned}
use Rattle.std.specs.List.{AllByRecursion}
use Rattle.std.specs.Int.{w8}
use Rattle.sf_base.specs.Names.{IsName}
use Rattle.generators.specs.Gens.{FitGens}
use Rattle.modulators.specs.Modulators.{FitsModulator}
use Rattle.bank_parts.specs.declared.texts.Texts.{Texts}
use Rattle.bank_parts.specs.declared.parts.Kind.{Kind}
use Rattle.bank_parts.specs.Links.{IfLinked}
use Rattle.bank_parts.specs.declared.parts.GlobalZone.{GlobalZone}
use Rattle.bank_parts.specs.declared.parts.Zone.{Zone}
use Rattle.bank_parts.specs.declared.parts.Head.{Head}
use Rattle.bank_parts.specs.declared.parts.ZoneOwner.{ZoneOwner}
use Rattle.bank_parts.specs.declared.parts.Sample.{Sample}
use Rattle.bank_parts.specs.declared.parts.Parts.{Parts}

-- a sequence of bytes
abbrev pub FitsText : List ℕ → Type 0
FitsText text = AllByRecursion (λ b. b < 2 ^ 8) text

pub record FitTexts (texts : Texts) : Type 0 where
  pub engine : FitsText texts.engine
  pub name : FitsText texts.name
  pub date : FitsText texts.date
  pub engineers : FitsText texts.engineers
  pub product : FitsText texts.product
  pub copyright : FitsText texts.copyright
  pub comment : FitsText texts.comment
  pub software : FitsText texts.software

pub record FitsGlobal (g : GlobalZone) : Type 0 where
  pub gens : FitGens g.gens
  pub mods : AllByRecursion FitsModulator g.mods

pub record FitsZone (z : Zone) : Type 0 where
  pub target : z.target < 2 ^ 16
  pub gens : FitGens z.gens
  pub mods : AllByRecursion FitsModulator z.mods

pub record FitsHead (h : Head) : Type 0 where
  pub name : IsName h.name
  pub number : h.number < 2 ^ 16
  pub bank : h.bank < 2 ^ 16
  pub library : h.library < 2 ^ 32
  pub genre : h.genre < 2 ^ 32
  pub morphology : h.morphology < 2 ^ 32

-- a preset or an instrument
pub record FitsOwner {H : Type 0} (IsFit : H → Type 0) (x : ZoneOwner H) : Type 0 where
  pub head : IsFit x.head
  pub global : FitsGlobal x.global
  pub zones : AllByRecursion FitsZone x.zones

-- both ends of the loop, if there is one
abbrev pub FitsLoop : Option (ℕ × ℕ) → Type 0
FitsLoop None = Unit {0}
FitsLoop (Some looped) = (looped.0 < 2 ^ 32) × (looped.1 < 2 ^ 32)

-- the number of the linked sample, if there is one
abbrev pub FitsKind : Kind → Type 0
FitsKind kind = IfLinked (λ link. link < 2 ^ 16) kind

pub record FitsSample (s : Sample) : Type 0 where
  pub name : IsName s.name
  pub points : AllByRecursion (λ p. p < 2 ^ 16) s.points
  pub looped : FitsLoop s.looped
  pub rate : s.rate < 2 ^ 32
  pub key : s.key < 2 ^ 8
  pub correction : FitsSigned w8 s.correction
  pub kind : FitsKind s.kind

-- a whole bank
pub record Fits (b : Parts) : Type 0 where
  pub minor : b.minor < 2 ^ 16
  pub texts : FitTexts b.texts
  pub presets : AllByRecursion (FitsOwner FitsHead) b.presets
  pub instruments : AllByRecursion (FitsOwner IsName) b.instruments
  pub samples : AllByRecursion FitsSample b.samples
