-- What the checks of reading imply: record counts within limits, windows with no more records than the lists, and
-- sample headers with ordered ranges.
use Rattle.std.proofs.Common.{◌≡◌, ◌≤◌, ◌-◌, ℕ, Bool, true, leb, List, [], ◌∷◌, length, map, None, arith}
use Rattle.std.specs.Prelude.{flat_map}
use Rattle.std.specs.List.{AllByRecursion}
use Rattle.std.proofs.lemmas.Bool.{leb-true}
use Rattle.std.proofs.lemmas.List.{length-take}
use Rattle.riff_chunks.specs.Walk.{Chunk}
use Rattle.hydra_records.specs.declared.head.PresetHead.{PresetHead}
use Rattle.hydra_records.specs.declared.head.InstrumentHead.{InstrumentHead}
use Rattle.hydra_records.specs.declared.head.SampleHead.{SampleHead}
use Rattle.bank_format.specs.Ids.{INFO, SDTA, PDTA}
use Rattle.bank_format.specs.declared.fault.ReadFault.{ReadFault}
use Rattle.bank_format.specs.declared.fault.ReadFault.TheVariants as fault
use Rattle.bank_format.specs.FaultChecks.{check, first_fault}
use Rattle.bank_format.specs.Windows.{without_terminal}
use Rattle.bank_format.specs.Tables.{Tables}
use Rattle.bank_format.specs.Chunks.{window, chunks_of, tables_in, points_in}
use Rattle.bank_format.specs.Reading.{preset_windows, instrument_windows, bank_of}
use Rattle.bank_format.specs.ReadChecks.{frame_checks, list_checks, chunk_checks, size_checks, count_checks, record_counts}
use Rattle.bank_format.specs.ReadChecks.{point_checks, index_checks, bag_checks, all_index_checks, sample_checks}
use Rattle.bank_format.specs.ReadChecks.{target_checks, total_checks, content_checks, window_checks, checks, fault_of}
use Rattle.bank_format.proofs.CheckLaws.{split_none, both_none}
use Rattle.bank_format.proofs.ReadSamples.{GoodHead, good_head}
use Rattle.bank_format.proofs.ReadWindows.{indexes_held}
use Rattle.bank_format.proofs.ReadTables.{AreFew, AreWithin, windows_within}

-- the checks that validity depends on
pub record Unbroken (info sdta : List Chunk) (t : Tables) : Type 0 where
  pub counts : first_fault (count_checks t) ≡ None
  pub indexes : first_fault (all_index_checks t) ≡ None
  pub samples : first_fault (flat_map (sample_checks (length (points_in sdta))) (without_terminal t.shdr)) ≡ None
  pub targets : first_fault (target_checks (bank_of info sdta t)) ≡ None
  pub total : first_fault (total_checks (without_terminal t.shdr)) ≡ None

content_unbroken : (info sdta pdta : List Chunk) (t : Tables) → first_fault (content_checks info sdta pdta t) ≡ None
    → Unbroken info sdta t
unfolding content_checks
content_unbroken info sdta pdta t e =
    let chunks = both_none (chunk_checks info pdta) _ e in
    let sizes = both_none (size_checks pdta) _ chunks.1 in
    let counts = both_none (count_checks t) _ sizes.1 in
    let points = both_none (point_checks sdta) _ counts.1 in
    let indexes = both_none (all_index_checks t) _ points.1 in
    let samples = both_none (flat_map (sample_checks (length (points_in sdta))) (without_terminal t.shdr)) _ indexes.1 in
    let targets = both_none (target_checks (bank_of info sdta t)) _ samples.1 in
    record { counts = counts.0; indexes = indexes.0; samples = samples.0; targets = targets.0; total = targets.1 }

pub file_unbroken : (file : List ℕ) → fault_of file ≡ None
    → Unbroken (chunks_of INFO (window file)) (chunks_of SDTA (window file)) (tables_in (chunks_of PDTA (window file)))
unfolding checks window_checks
file_unbroken file e =
    let frame = both_none (frame_checks file) _ e in
    let lists = both_none (list_checks (window file)) _ frame.1 in
    content_unbroken (chunks_of INFO (window file)) (chunks_of SDTA (window file)) (chunks_of PDTA (window file))
    (tables_in (chunks_of PDTA (window file))) lists.1

held : (test : ℕ → Bool) (f : ReadFault) (ns : List ℕ) → first_fault (map (λ n. check (test n) f) ns) ≡ None
    → AllByRecursion (λ n. test n ≡ true) ns
held test f [] e = tt
held test f (n ∷ ns) e =
    let both = split_none (test n) (first_fault (map (λ n. check (test n) f) ns)) f e in
    (both.0, held test f ns both.1)

-- upper bounds on the record counts
pub record FewRecords (t : Tables) : Type 0 where
  pub phdr : length t.phdr ≤ 65536
  pub presets : AreFew t.pbag t.pgen t.pmod
  pub inst : length t.inst ≤ 65536
  pub instruments : AreFew t.ibag t.igen t.imod
  pub shdr : length t.shdr ≤ 65536

pub few_records : (t : Tables) → first_fault (count_checks t) ≡ None → FewRecords t
unfolding count_checks
few_records t e =
    let counts = record_counts t in
    let most =
    both_none (map (λ n. check (leb 1 n) fault.NoTerminal) counts)
    (map (λ n. check (leb n 65536) fault.TooMany) counts) e in
    let all = held (λ n. leb n 65536) fault.TooMany counts most.1 in
    let later = all.1.1.1.1 in
    record {
      phdr = leb-true _ _ all.0;
      presets = record { bags = leb-true _ _ all.1.0; gens = leb-true _ _ all.1.1.1.0; mods = leb-true _ _ all.1.1.0 };
      inst = leb-true _ _ later.0;
      instruments =
          record
          { bags = leb-true _ _ later.1.0; gens = leb-true _ _ later.1.1.1.0; mods = leb-true _ _ later.1.1.0 };
      shdr = leb-true _ _ later.1.1.1.1.0;
    }

-- the zones, generators and modulators of each level
pub few_in_windows : (t : Tables) → FewRecords t → first_fault (all_index_checks t) ≡ None
    → AreWithin (preset_windows t) × AreWithin (instrument_windows t)
unfolding all_index_checks preset_windows instrument_windows
few_in_windows t few e =
    let preset_indexes = map (λ (h : PresetHead). h.bag) t.phdr in
    let instrument_indexes = map (λ (h : InstrumentHead). h.bag) t.inst in
    let presets = both_none (index_checks preset_indexes (length t.pbag)) _ e in
    let preset_bags = both_none (bag_checks t.pbag (length t.pgen) (length t.pmod)) _ presets.1 in
    let instruments = both_none (index_checks instrument_indexes (length t.ibag)) _ preset_bags.1 in (
      windows_within t.pbag t.pgen t.pmod preset_indexes few.presets
          (indexes_held preset_indexes (length t.pbag) presets.0) preset_bags.0,
      windows_within t.ibag t.igen t.imod instrument_indexes few.instruments
          (indexes_held instrument_indexes (length t.ibag) instruments.0) instruments.1,
    )

pub length-without_terminal : {X : Type 0} (xs : List X) → length (without_terminal xs) ≤ length xs - 1
length-without_terminal xs = omega (arith, length-take (length xs - 1) xs)

pub good_heads : (points : ℕ) (hs : List SampleHead)
    → AllByRecursion (λ h. first_fault (sample_checks points h) ≡ None) hs → AllByRecursion (GoodHead points) hs
good_heads points [] v = tt
good_heads points (h ∷ hs) v = (good_head points h v.0, good_heads points hs v.1)
