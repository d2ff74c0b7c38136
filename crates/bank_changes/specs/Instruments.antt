-- The raw changes of instruments, and whether an instrument is in use.
use Rattle.std.specs.Prelude.{ℕ, Bool, List, insert, remove}
use Rattle.std.specs.List.{list_any}
use Rattle.base_numbered_lists.specs.declared.renumbering.Renumbering.TheVariants.{Insertion, Removal, Move}
use Rattle.base_numbered_lists.specs.Moved.{changed, moved}
use Rattle.bank_parts.specs.declared.parts.ZoneOwner.{ZoneOwner}
use Rattle.bank_parts.specs.declared.parts.Parts.{Parts}
use Rattle.bank_parts.specs.Owners.{with_head, targets}
use Rattle.bank_parts.specs.Renumbered.{instruments_renumbered}

-- the instrument has this name, and nothing else changes
abbrev pub instrument_renamed : Parts → ℕ → List ℕ → Parts
instrument_renamed b number name = record b { instruments = changed b.instruments number (with_head name) }

-- the instrument is inserted as number i, and targets follow
abbrev pub instrument_added : Parts → ℕ → ZoneOwner (List ℕ) → Parts
instrument_added b i x =
    let r = instruments_renumbered (Insertion i) b in record r { instruments = insert r.instruments i x }

-- the instrument is removed, and targets follow
abbrev pub instrument_removed : Parts → ℕ → Parts
instrument_removed b i = instruments_renumbered (Removal i) (record b { instruments = remove b.instruments i })

-- instrument i becomes number j; the others keep their order, and targets follow
abbrev pub instrument_moved : Parts → ℕ → ℕ → Parts
instrument_moved b i j = instruments_renumbered (Move i j) (record b { instruments = moved b.instruments i j })

-- some zone of a preset targets the instrument
unfoldable pub instrument_in_use : Parts → ℕ → Bool
instrument_in_use b number = list_any (targets number) b.presets
