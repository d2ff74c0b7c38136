-- The raw changes of samples, and whether a sample is in use.
use Rattle.std.specs.Prelude.{ℕ, Bool, ◌||◌, List, insert, remove}
use Rattle.std.specs.List.{list_any}
use Rattle.base_numbered_lists.specs.declared.renumbering.Renumbering.TheVariants.{Insertion, Removal, Move}
use Rattle.base_numbered_lists.specs.Moved.{changed, moved}
use Rattle.bank_parts.specs.declared.parts.Sample.{Sample}
use Rattle.bank_parts.specs.declared.parts.Parts.{Parts}
use Rattle.bank_parts.specs.Links.{links_to}
use Rattle.bank_parts.specs.Owners.{targets}
use Rattle.bank_parts.specs.Renumbered.{samples_renumbered}

-- a sample with this name
abbrev pub named : List ℕ → Sample → Sample
named name s = record s { name = name }

-- the sample has this name, and nothing else changes
abbrev pub sample_renamed : Parts → ℕ → List ℕ → Parts
sample_renamed b number name = record b { samples = changed b.samples number (named name) }

-- the sample is inserted as number i, and targets and links follow; its own link is a number after the insertion
abbrev pub sample_added : Parts → ℕ → Sample → Parts
sample_added b i s = let r = samples_renumbered (Insertion i) b in record r { samples = insert r.samples i s }

-- the sample is removed, and targets and links follow
abbrev pub sample_removed : Parts → ℕ → Parts
sample_removed b i = samples_renumbered (Removal i) (record b { samples = remove b.samples i })

-- sample i becomes number j; the others keep their order, and targets and links follow
abbrev pub sample_moved : Parts → ℕ → ℕ → Parts
sample_moved b i j = samples_renumbered (Move i j) (record b { samples = moved b.samples i j })

-- some zone targets the sample, or another sample is linked to it
unfoldable pub sample_in_use : Parts → ℕ → Bool
sample_in_use b number =
    list_any (targets number) b.instruments
    || list_any (λ (s : Sample). links_to number s.kind) (remove b.samples number)
