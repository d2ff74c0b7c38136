-- A bank as the flat lists of a file.
use Rattle.std.specs.Prelude.{◌≡◌}
use Rattle.generators.specs.declared.level.Level.TheVariants as level
use Rattle.bank_parts.specs.declared.parts.Parts.{Parts}
use Rattle.bank_core.specs.declared.flat.Flat.{Flat}
use Rattle.bank_core.specs.Heads.{AreFlatOf}

-- these are the flat lists of the bank
pub record IsFlatOf (f : Flat) (b : Parts) : Type 0 where
  pub minor : f.minor ≡ b.minor
  pub texts : f.texts ≡ b.texts
  pub presets : AreFlatOf level.Preset f.preset_heads f.preset b.presets
  pub instruments : AreFlatOf level.Inst f.inst_heads f.inst b.instruments
  pub samples : f.samples ≡ b.samples
