-- The nine lists as those of presets, of instruments, and of samples.
use Rattle.std.proofs.Common.{◌≡◌, ◌≤◌, ◌-◌, ◌++◌, ℕ, Bool, true, leb, List, [], ◌∷◌, length, map, Some, None}
use Rattle.std.proofs.Common.{Result, refl, sym, ap}
use Rattle.std.specs.List.{AllByRecursion, list_all}
use Rattle.std.proofs.lemmas.Bool.{leb-true}
use Rattle.modulators.specs.declared.modulator.Modulator.{Modulator}
use Rattle.hydra_records.specs.declared.zone.Bag.{Bag}
use Rattle.hydra_records.specs.declared.zone.Generator.{Generator}
use Rattle.std.specs.Result.{IsErrAnd}
use Rattle.hydra_records.specs.declared.head.PresetHead.{PresetHead}
use Rattle.hydra_records.specs.declared.head.InstrumentHead.{InstrumentHead}
use Rattle.hydra_records.specs.declared.head.SampleHead.{SampleHead}
use Rattle.bank_format.specs.declared.fault.ReadFault.{ReadFault}
use Rattle.bank_format.specs.declared.fault.ReadFault.TheVariants as fault
use Rattle.bank_format.specs.FaultChecks.{Check, check, first_fault, Passes}
use Rattle.bank_format.specs.Windows.{windows}
use Rattle.bank_format.specs.Zones.{Bagged}
use Rattle.bank_format.specs.Tables.{Tables}
use Rattle.bank_format.specs.Chunks.{or_terminal}
use Rattle.bank_format.specs.Reading.{bags_in}
use Rattle.bank_format.specs.ReadChecks.{record_counts, count_checks, is_rising, index_checks, bag_checks, all_index_checks}
use Rattle.sf_reader.specs.declared.hydra.LevelTables.{LevelTables}
use Rattle.sf_reader.specs.Hydra.{level_index_checks, AreLists}
use Rattle.sf_reader.specs.Owners.{windows_of}
use Rattle.bank_format.proofs.CheckLaws.{split_none, both_none, passes_front, passes_after}
use Rattle.sf_reader.proofs.WindowLaws.{or_terminal-bags}

-- the nine lists, from those of presets, instruments and samples
abbrev pub seen : LevelTables PresetHead → LevelTables InstrumentHead → List SampleHead → Tables
seen p i s = record {
  phdr = p.heads;
  pbag = p.bags;
  pmod = or_terminal p.modulators;
  pgen = p.generators;
  inst = i.heads;
  ibag = i.bags;
  imod = or_terminal i.modulators;
  igen = i.generators;
  shdr = s;
}

-- the index checks of presets
abbrev preset_indexes : LevelTables PresetHead → List (Check ReadFault)
preset_indexes p = level_index_checks (map (λ (h : PresetHead). h.bag) p.heads) p

abbrev instrument_indexes : LevelTables InstrumentHead → List (Check ReadFault)
instrument_indexes i = level_index_checks (map (λ (h : InstrumentHead). h.bag) i.heads) i

index_parts : (p : LevelTables PresetHead) (i : LevelTables InstrumentHead) (s : List SampleHead)
    → all_index_checks (seen p i s) ≡ preset_indexes p ++ instrument_indexes i
unfolding all_index_checks index_checks
index_parts p i s = refl

pub preset_indexes_fail : (p : LevelTables PresetHead) (i : LevelTables InstrumentHead) (s : List SampleHead)
    (t : Tables) (r : Result (Unit {0}) ReadFault) (e : ReadFault)
    → seen p i s ≡ t → IsErrAnd r (λ f. f ≡ e) → first_fault (preset_indexes p) ≡ Some e
    → Passes (λ (u : Unit {0}). u) r (all_index_checks t) tt
preset_indexes_fail p i s t r e is err h =
    rw (← is, index_parts p i s)
    (passes_front (λ (u : Unit {0}). u) tt r e (preset_indexes p) (instrument_indexes i) err h)

pub instrument_indexes_pass : (p : LevelTables PresetHead) (i : LevelTables InstrumentHead) (s : List SampleHead)
    (t : Tables) (r : Result (Unit {0}) ReadFault)
    → seen p i s ≡ t → first_fault (preset_indexes p) ≡ None
    → Passes (λ (u : Unit {0}). u) r (instrument_indexes i) tt
    → Passes (λ (u : Unit {0}). u) r (all_index_checks t) tt
instrument_indexes_pass p i s t r is none h =
    rw (← is, index_parts p i s)
    (passes_after (λ (u : Unit {0}). u) tt r (preset_indexes p) (instrument_indexes i) none h)

-- ---- the record counts

held : (test : ℕ → Bool) (f : ReadFault) (ns : List ℕ) → first_fault (map (λ n. check (test n) f) ns) ≡ None
    → AllByRecursion (λ n. test n ≡ true) ns
held test f [] e = tt
held test f (n ∷ ns) e =
    let both = split_none (test n) (first_fault (map (λ k. check (test k) f) ns)) f e in
    (both.0, held test f ns both.1)

-- the lists of presets and instruments have at most 65,536 records
pub record AreFewRecords (t : Tables) : Type 0 where
  pub phdr : length t.phdr ≤ 65536
  pub pbag : length t.pbag ≤ 65536
  pub pgen : length t.pgen ≤ 65536
  pub inst : length t.inst ≤ 65536
  pub ibag : length t.ibag ≤ 65536
  pub igen : length t.igen ≤ 65536

pub few_records : (t : Tables) → first_fault (count_checks t) ≡ None → AreFewRecords t
unfolding count_checks
few_records t e =
    let counts = record_counts t in
    let most =
    both_none (map (λ n. check (leb 1 n) fault.NoTerminal) counts)
    (map (λ n. check (leb n 65536) fault.TooMany) counts) e in
    let all = held (λ n. leb n 65536) fault.TooMany counts most.1 in
    record {
      phdr = leb-true _ _ all.0;
      pbag = leb-true _ _ all.1.0;
      pgen = leb-true _ _ all.1.1.1.0;
      inst = leb-true _ _ all.1.1.1.1.0;
      ibag = leb-true _ _ all.1.1.1.1.1.0;
      igen = leb-true _ _ all.1.1.1.1.1.1.1.0;
    }

-- ---- the modulators of bags are in their list

inside : (is : List ℕ) (n : ℕ) → first_fault (index_checks is n) ≡ None → list_all (λ i. leb i (n - 1)) is ≡ true
unfolding index_checks
inside is n e =
    let within =
    split_none (is_rising is) (first_fault (check (list_all (λ i. leb i (n - 1)) is) fault.IndexOutside ∷ []))
    fault.BagOrder e in
    let both = split_none (list_all (λ i. leb i (n - 1)) is) None fault.IndexOutside within.1 in
    both.0

mods_inside : (bags : List Bag) (gens mods : ℕ) → first_fault (bag_checks bags gens mods) ≡ None
    → list_all (λ i. leb i (mods - 1)) (map (λ (r : Bag). r.mods) bags) ≡ true
mods_inside bags gens mods e =
    let both =
    both_none (index_checks (map (λ (r : Bag). r.gens) bags) gens)
    (index_checks (map (λ (r : Bag). r.mods) bags) mods) e in
    inside (map (λ (r : Bag). r.mods) bags) mods both.1

abbrev pub ModsInside : List Bag → List Modulator → Type 0
ModsInside bags mods = list_all (λ i. leb i (length mods - 1)) (map (λ (r : Bag). r.mods) bags) ≡ true

pub all_mods_inside : (t : Tables) → first_fault (all_index_checks t) ≡ None
    → ModsInside t.pbag t.pmod × ModsInside t.ibag t.imod
unfolding all_index_checks
all_mods_inside t e =
    let preset_bags = bag_checks t.pbag (length t.pgen) (length t.pmod) in
    let instruments = index_checks (map (λ (h : InstrumentHead). h.bag) t.inst) (length t.ibag) in
    let instrument_bags = bag_checks t.ibag (length t.igen) (length t.imod) in
    let first =
    both_none (index_checks (map (λ (h : PresetHead). h.bag) t.phdr) (length t.pbag))
    (preset_bags ++ (instruments ++ instrument_bags)) e in
    let second = both_none preset_bags (instruments ++ instrument_bags) first.1 in
    let third = both_none instruments instrument_bags second.1 in (
      mods_inside t.pbag (length t.pgen) (length t.pmod) second.0,
      mods_inside t.ibag (length t.igen) (length t.imod) third.1,
    )

-- the bags of each header; an empty list of modulators reads as one zero record
pub windows_are : {H : Type 0} (first_bag : H → ℕ) (l : LevelTables H) (heads : List H) (bags : List Bag)
    (gens : List Generator) (mods : List Modulator)
    → AreLists l heads bags gens mods → ModsInside bags mods
    → windows_of first_bag l ≡ windows (bags_in bags gens mods) (map first_bag heads)
windows_are first_bag l heads bags gens mods a within =
    let held : ModsInside l.bags (or_terminal l.modulators) = rw (a.bags_are, a.modulators_are) within in
    let zero = or_terminal-bags l.bags l.generators l.modulators held in
    rw (← a.heads_are, ← a.bags_are, ← a.generators_are, ← a.modulators_are)
    (ap (λ (t : List Bagged). windows t (map first_bag l.heads)) (sym zero))
