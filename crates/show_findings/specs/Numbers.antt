-- The numbers of the members of a bank.
use Rattle.std.specs.Prelude.{ℕ, List, map, length, ◌++◌}
use Rattle.std.specs.List.{range_with_len}
use Rattle.bank_parts.specs.declared.parts.Parts.{Parts}
use Rattle.bank_changes.specs.declared.members.Owner.{Owner}
use Rattle.bank_changes.specs.declared.members.Owner.TheVariants as owner

-- those below n
abbrev pub numbers : ℕ → List ℕ
numbers n = range_with_len 0 n

abbrev pub preset_owners : Parts → List Owner
preset_owners b = map owner.Preset (numbers (length b.presets))

abbrev pub instrument_owners : Parts → List Owner
instrument_owners b = map owner.Inst (numbers (length b.instruments))

-- the presets, then the instruments
abbrev pub owners : Parts → List Owner
owners b = preset_owners b ++ instrument_owners b
