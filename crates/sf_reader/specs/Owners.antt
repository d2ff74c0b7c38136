-- Presets and instruments with their zones, as the reader builds them.
use Rattle.std.specs.Prelude.{◌≡◌, ◌+◌, ◌-◌, ◌++◌, ◌∷◌, [], ◌<◌, ◌^◌, ℕ, List, length, map, flat_map, sum_by}
use Rattle.std.specs.List.{slice_range}
use Rattle.generators.specs.declared.level.Level.{Level}
use Rattle.generators.specs.declared.level.Level.TheVariants as level
use Rattle.flat_records.specs.Runs.{starts}
use Rattle.flat_records.specs.Bags.{Bag, tables_of}
use Rattle.flat_records.specs.Bags as flat
use Rattle.flat_records.specs.Owned.{past_owner, all_bags, flat_of}
use Rattle.bank_parts.specs.declared.parts.Head.{Head}
use Rattle.bank_core.specs.declared.flat_heads.HeadRecord.{HeadRecord}
use Rattle.bank_core.specs.Heads.{head_records}
use Rattle.bank_format.specs.declared.fault.ReadFault.{ReadFault}
use Rattle.bank_format.specs.declared.fault.ReadFault.TheVariants.{BadInstrument, BadSample}
use Rattle.bank_format.specs.FaultChecks.{Check}
use Rattle.bank_format.specs.Windows.{windows, without_terminal}
use Rattle.bank_format.specs.Zones.{Bagged, zones_read, ignored, gens_dropped, repaired_range_count}
use Rattle.bank_format.specs.Tables.{Tables, Headers, presets, instruments}
use Rattle.bank_format.specs.Reading.{bags_in, preset_windows, instrument_windows}
use Rattle.bank_format.specs.ReadChecks.{target_check}
use Rattle.sf_reader.specs.declared.zones.ZoneCounts.{ZoneCounts}
use Rattle.sf_reader.specs.Bags.{own_bags}
use Rattle.sf_reader.specs.Records.{AreSoFar, Appends}
use Rattle.sf_reader.specs.declared.hydra.LevelTables.{LevelTables}
use Rattle.sf_reader.specs.declared.owners.OwnersSoFar.{OwnersSoFar}
use Rattle.sf_reader.specs.declared.owners.OwnersRead.{OwnersRead}
use Rattle.sf_reader.specs.declared.owners.BankOwners.{BankOwners}

-- ---- counts

abbrev pub added : ZoneCounts → ZoneCounts → ZoneCounts
added a b = record { zones = a.zones + b.zones; gens = a.gens + b.gens; ranges = a.ranges + b.ranges }

-- each count fits in 64 bits
pub record AreSmall (c : ZoneCounts) : Type 0 where
  pub zones : c.zones < 2 ^ 64
  pub gens : c.gens < 2 ^ 64
  pub ranges : c.ranges < 2 ^ 64

-- the counts of the bags of all headers
abbrev pub counts_over : Level → List (List Bagged) → ZoneCounts
counts_over at ws =
    record
    { zones = sum_by (ignored at) ws; gens = sum_by (gens_dropped at) ws; ranges = sum_by (repaired_range_count at) ws }

-- ---- lists under construction

-- the lists have these heads and bags, and these counts
pub record AreOwnersSoFar {H : Type 0} (r : OwnersSoFar H) (hs : List H) (owners : List (List Bag))
    (c : ZoneCounts) : Type 0 where
  pub heads_are : r.heads.items ≡ hs
  pub first_bags_are : r.first_bags.items ≡ starts past_owner 0 owners
  pub records_are : AreSoFar r.records (all_bags owners)
  pub counts_are : r.counts ≡ c

-- an owner with this head and these bags is appended, and its counts are added
pub record AppendsOwner {H : Type 0} (old new : OwnersSoFar H) (head : H) (own : List Bag) (more : ZoneCounts) : Type 0
  where
    pub heads_grow : new.heads.items ≡ old.heads.items ++ head ∷ []
    pub first_bags_grow : new.first_bags.items ≡ old.first_bags.items ++ (length new.records.bags.items - 1) ∷ []
    pub records_grow : Appends old.records new.records own
    pub counts_grow : new.counts ≡ added old.counts more

-- the lists are completed by their terminals
pub record AreEnded {H : Type 0} (r : OwnersSoFar H) (e : OwnersRead H) : Type 0 where
  pub heads_are : e.heads ≡ head_records r.heads.items r.first_bags.items
  pub records_are : (all : List Bag) → AreSoFar r.records all → e.records ≡ tables_of all
  pub counts_are : e.counts ≡ r.counts

-- ---- the presets, or the instruments

-- the bags from the first bag of one header up to that of the next
abbrev pub window_of : {H : Type 0} → (H → ℕ) → LevelTables H → H → H → List Bagged
window_of first_bag l h next = slice_range (bags_in l.bags l.generators l.modulators) (first_bag h) (first_bag next)

-- the bags of each header
abbrev pub windows_of : {H : Type 0} → (H → ℕ) → LevelTables H → List (List Bagged)
windows_of first_bag l = windows (bags_in l.bags l.generators l.modulators) (map first_bag l.heads)

-- all owners in flat lists, and the counts of their zones
pub record FlatOwners (H : Type 0) : Type 0 where
  pub heads : List (HeadRecord H)
  pub records : flat.Tables
  pub counts : ZoneCounts

abbrev pub owners_seen : {H : Type 0} → OwnersRead H → FlatOwners H
owners_seen r = record { heads = r.heads; records = r.records; counts = r.counts }

-- the owners with these heads and bags
abbrev pub flat_owners : {H : Type 0} → List H → List (List Bag) → ZoneCounts → FlatOwners H
flat_owners hs owners counts =
    record
    { heads = head_records hs (flat_of owners).begins; records = tables_of (all_bags owners); counts = counts }

abbrev pub owners_with_counts : {H R : Type 0} → Headers H R → List R → List (List Bagged) → FlatOwners H
owners_with_counts h rs ws = flat_owners (map h.read (without_terminal rs)) (map (own_bags h.level) ws) (counts_over h.level ws)

-- the target checks of the zones
abbrev pub zone_checks : Level → ℕ → ReadFault → List (List Bagged) → List (Check ReadFault)
zone_checks at targets missing ws = map (target_check targets missing) (flat_map (zones_read at) ws)

-- ---- both levels

pub record FlatBankOwners : Type 0 where
  pub presets : FlatOwners Head
  pub instruments : FlatOwners (List ℕ)

abbrev pub bank_owners_seen : BankOwners → FlatBankOwners
bank_owners_seen m = record { presets = owners_seen m.presets; instruments = owners_seen m.instruments }

abbrev pub bank_owners_of : Tables → FlatBankOwners
bank_owners_of t = record {
  presets = owners_with_counts presets t.phdr (preset_windows t);
  instruments = owners_with_counts instruments t.inst (instrument_windows t);
}

-- the target checks of presets, then those of instruments
abbrev pub bank_owner_checks : Tables → List (Check ReadFault)
bank_owner_checks t =
    zone_checks level.Preset (length (without_terminal t.inst)) BadInstrument (preset_windows t)
    ++ zone_checks level.Inst (length (without_terminal t.shdr)) BadSample (instrument_windows t)
