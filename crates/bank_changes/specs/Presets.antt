-- The raw changes of presets. Nothing in a bank refers to presets by number.
use Rattle.std.specs.Prelude.{ℕ, List, insert, remove}
use Rattle.base_numbered_lists.specs.Moved.{changed, moved}
use Rattle.bank_parts.specs.declared.parts.Head.{Head}
use Rattle.bank_parts.specs.declared.parts.ZoneOwner.{ZoneOwner}
use Rattle.bank_parts.specs.declared.parts.Parts.{Parts}
use Rattle.bank_parts.specs.Owners.{with_head}

-- the preset is inserted as number i
abbrev pub preset_added : Parts → ℕ → ZoneOwner Head → Parts
preset_added b i p = record b { presets = insert b.presets i p }

-- the preset is removed
abbrev pub preset_removed : Parts → ℕ → Parts
preset_removed b i = record b { presets = remove b.presets i }

-- preset i becomes number j, and the others keep their order
abbrev pub preset_moved : Parts → ℕ → ℕ → Parts
preset_moved b i j = record b { presets = moved b.presets i j }

-- a head with another name and other numbers, and the same three reserved words
abbrev pub with_name_and_numbers : List ℕ → ℕ → ℕ → Head → Head
with_name_and_numbers name number bank h = record h { name = name; number = number; bank = bank }

-- the preset has this name and these numbers, and nothing else changes
abbrev pub head_set : Parts → ℕ → List ℕ → ℕ → ℕ → Parts
head_set b p name number bank =
    record b { presets = changed b.presets p (λ x. with_head (with_name_and_numbers name number bank x.head) x) }
