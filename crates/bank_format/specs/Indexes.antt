-- The indexes in the tables of a bank are sums over the bank's own lists.
use Rattle.std.specs.Prelude.{◌≡◌, ◌≤◌, ◌<◌, ◌+◌, ℕ, List, length, map, take, slice_get, Some}
use Rattle.bank_parts.specs.Valid.{zone_count, gen_count, mod_count, owner_total}
use Rattle.bank_parts.specs.declared.parts.GlobalZone.{GlobalZone}
use Rattle.bank_parts.specs.declared.parts.Zone.{Zone}
use Rattle.bank_parts.specs.declared.parts.ZoneOwner.{ZoneOwner}
use Rattle.bank_parts.specs.declared.parts.Parts.{Parts}
use Rattle.hydra_records.specs.declared.head.PresetHead.{PresetHead}
use Rattle.hydra_records.specs.declared.head.InstrumentHead.{InstrumentHead}
use Rattle.hydra_records.specs.declared.zone.Bag.{Bag}
use Rattle.bank_format.specs.Tables.{bag, tables_of}

-- a count over a global zone and zones: of written bags, of generators or of modulators
abbrev pub Count : Type 0
Count = GlobalZone → List Zone → ℕ

-- `before` gives each count for the zones that precede a bag. The index of the bag is the count of bags, and its
-- generator and modulator indexes are the counts of generators and modulators.
abbrev pub BagCounts : List Bag → (Count → ℕ) → Type 0
BagCounts bags before = slice_get bags (before zone_count) ≡ Some (bag (before gen_count) (before mod_count))

-- For presets, or for instruments: the bag indexes of their headers, and their bags.
pub record AreSums {H : Type 0} (owners : List (ZoneOwner H)) (first_bags : List ℕ) (bags : List Bag) : Type 0 where
  -- one header for each owner, and the terminal; one bag for each written zone, and the terminal
  pub header_count : length first_bags ≡ length owners + 1
  pub bag_count : length bags ≡ owner_total zone_count owners + 1
  -- header i has the number of bags before owner i; the terminal has the total
  pub headers : (i : ℕ) → i ≤ length owners → slice_get first_bags i ≡ Some (owner_total zone_count (take i owners))
  -- the indexes of the first bag of owner i count what precedes owner i; those of the terminal are the totals
  pub at_start : (i : ℕ) → i ≤ length owners → BagCounts bags (λ count. owner_total count (take i owners))
  -- the indexes of the bag of zone j of owner i also count what precedes zone j in that owner
  pub at_zone : (i j : ℕ) (o : ZoneOwner H) → slice_get owners i ≡ Some o → j < length o.zones
      → BagCounts bags (λ count. owner_total count (take i owners) + count o.global (take j o.zones))

pub record IndexesAreSums (b : Parts) : Type 0 where
  pub presets : AreSums b.presets (map (λ (h : PresetHead). h.bag) (tables_of b).phdr) (tables_of b).pbag
  pub instruments : AreSums b.instruments (map (λ (h : InstrumentHead). h.bag) (tables_of b).inst) (tables_of b).ibag
