-- The lengths of the lists of records of a file.
use Rattle.std.specs.Prelude.{ℕ, length}
use Rattle.bank_parts.specs.FlatLists.{FlatLists}
use Rattle.bank_core.specs.declared.records.Part.{Part}
use Rattle.bank_core.specs.declared.records.Part.TheVariants.{Heads, Bags, Gens, Mods}

-- the length of a list, with its terminal
abbrev pub record_count : FlatLists → Part → ℕ
record_count l Heads = length l.first_bags
record_count l Bags = length l.bags
record_count l Gens = length l.gens
record_count l Mods = length l.mods
