-- Members of a bank after those of another bank: the numbers that they name are increased.
use Rattle.std.specs.Prelude.{◌+◌, ◌++◌, ℕ, length, map}
use Rattle.bank_parts.specs.declared.parts.Kind.{Kind}
use Rattle.bank_parts.specs.declared.parts.Kind.TheVariants.{Mono, Right, Left, Linked}
use Rattle.bank_parts.specs.declared.parts.Zone.{Zone}
use Rattle.bank_parts.specs.declared.parts.Head.{Head}
use Rattle.bank_parts.specs.declared.parts.ZoneOwner.{ZoneOwner}
use Rattle.bank_parts.specs.declared.parts.Sample.{Sample}
use Rattle.bank_parts.specs.declared.parts.Parts.{Parts}
use Rattle.bank_parts.specs.Owners.{with_head}

-- the kind, with the number of the linked sample increased by n
abbrev pub kind_shifted : ℕ → Kind → Kind
kind_shifted n Mono = Mono
kind_shifted n (Right link) = Right (n + link)
kind_shifted n (Left link) = Left (n + link)
kind_shifted n (Linked link) = Linked (n + link)

-- a sample with its link increased by n
abbrev pub sample_shifted : ℕ → Sample → Sample
sample_shifted n s = record s { kind = kind_shifted n s.kind }

-- a zone with its target increased by n
abbrev pub zone_shifted : ℕ → Zone → Zone
zone_shifted n z = record z { target = n + z.target }

-- a preset or an instrument with its targets increased by n
abbrev pub targets_shifted : {H : Type 0} → ℕ → ZoneOwner H → ZoneOwner H
targets_shifted n x = record x { zones = map (zone_shifted n) x.zones }

-- a head with its bank number increased
abbrev pub bank_shifted : ℕ → Head → Head
bank_shifted shift h = record h { bank = h.bank + shift }

-- a preset with its bank number increased, and its targets by n
abbrev pub preset_shifted : ℕ → ℕ → ZoneOwner Head → ZoneOwner Head
preset_shifted shift n p = with_head (bank_shifted shift p.head) (targets_shifted n p)

-- All samples, instruments and presets of `from` follow those of b, in order. Links and targets of the former are
-- increased by the counts of b, and bank numbers by the shift.
unfoldable pub merged : Parts → ℕ → Parts → Parts
merged from shift b = record b {
  presets = b.presets ++ map (preset_shifted shift (length b.instruments)) from.presets;
  instruments = b.instruments ++ map (targets_shifted (length b.samples)) from.instruments;
  samples = b.samples ++ map (sample_shifted (length b.samples)) from.samples;
}
