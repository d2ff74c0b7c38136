-- The checks of the nine lists and the points, function by function.
use Rattle.std.proofs.Common.{◌≡◌, ◌≢◌, ◌/◌, ◌%◌, ◌++◌, ◌∙◌, ℕ, List, [], ◌∷◌, length, map, Some, None, Result, refl}
use Rattle.std.proofs.Common.{sym, ap, append_assoc, arith}
use Rattle.std.specs.Prelude.{flat_map}
use Rattle.std.proofs.lemmas.Bool.{ne_eqb}
use Rattle.std.proofs.lemmas.List.{length-map}
use Rattle.riff_chunks.specs.Walk.{Chunk}
use Rattle.generators.specs.declared.level.Level.TheVariants as level
use Rattle.bank_parts.specs.declared.parts.Zone.{Zone}
use Rattle.bank_parts.specs.declared.parts.Head.{Head}
use Rattle.bank_parts.specs.declared.parts.ZoneOwner.{ZoneOwner}
use Rattle.sample_view.specs.Words.{words}
use Rattle.sample_view.proofs.WordLaws.{length-words}
use Rattle.hydra_records.specs.declared.head.PresetHead.{PresetHead}
use Rattle.hydra_records.specs.declared.head.InstrumentHead.{InstrumentHead}
use Rattle.hydra_records.specs.declared.head.SampleHead.{SampleHead}
use Rattle.bank_format.specs.declared.fault.ReadFault.{ReadFault}
use Rattle.bank_format.specs.declared.fault.ReadFault.TheVariants.{OddSamples, BadInstrument, BadSample}
use Rattle.bank_format.specs.FaultChecks.{Check, first_fault, Passes}
use Rattle.bank_format.specs.Windows.{windows, zip_with, without_terminal}
use Rattle.bank_format.specs.Zones.{Bagged, zones_read}
use Rattle.bank_format.specs.Tables.{Tables}
use Rattle.bank_format.specs.Tables as nine
use Rattle.bank_format.specs.Chunks.{points_in}
use Rattle.bank_format.specs.Samples.{sample_read}
use Rattle.bank_format.specs.Reading.{bags_in, preset_windows, instrument_windows, owner_read, samples_read, bank_of}
use Rattle.bank_format.specs.ReadChecks.{count_checks, all_index_checks, sample_checks, target_check, target_checks}
use Rattle.bank_format.specs.ReadChecks.{total_checks}
use Rattle.sf_reader.specs.Owners.{bank_owner_checks}
use Rattle.sf_reader.specs.Content.{even_checks, early_table_checks, table_checks}
use Rattle.bank_format.proofs.CheckLaws.{both_none, passes_after}
use Rattle.bank_format.proofs.WindowLaws.{length-zip_with}
use Rattle.sf_reader.proofs.WindowLaws.{length-windows, length-without_terminal}
use Rattle.sf_reader.proofs.MemberLaws.{preset_part, instrument_part}

-- ---- the checks from one function on

abbrev pub each_sample : Tables → List ℕ → List (Check ReadFault)
each_sample t smpl = flat_map (sample_checks (length (words smpl))) (without_terminal t.shdr)

abbrev pub from_indexes : Tables → List ℕ → List (Check ReadFault)
from_indexes t smpl = all_index_checks t ++ each_sample t smpl

abbrev pub from_even : Tables → List ℕ → List (Check ReadFault)
from_even t smpl = even_checks smpl ++ from_indexes t smpl

-- ---- after the functions that succeed

abbrev IsTableResult : Result (Unit {0}) ReadFault → List (Check ReadFault) → Type 0
IsTableResult r checks = Passes (λ (u : Unit {0}). u) r checks tt

module _ (t : Tables) (smpl : List ℕ) (r : Result (Unit {0}) ReadFault) where
  pub past_counts : first_fault (count_checks t) ≡ None → IsTableResult r (from_even t smpl) → IsTableResult r (early_table_checks t smpl)
  unfolding early_table_checks
  past_counts = passes_after (λ (u : Unit {0}). u) tt r (count_checks t) (from_even t smpl)

  pub past_even : length smpl % 2 ≡ 0 → IsTableResult r (from_indexes t smpl) → IsTableResult r (from_even t smpl)
  past_even even = passes_after (λ (u : Unit {0}). u) tt r (even_checks smpl) (from_indexes t smpl) (rw even refl)

  pub past_indexes : first_fault (all_index_checks t) ≡ None → IsTableResult r (each_sample t smpl)
      → IsTableResult r (from_indexes t smpl)
  past_indexes = passes_after (λ (u : Unit {0}). u) tt r (all_index_checks t) (each_sample t smpl)

-- ---- a function that fails

-- the points are an odd number of bytes
pub odd_fails : (t : Tables) (smpl : List ℕ) → length smpl % 2 ≢ 0 → first_fault (from_even t smpl) ≡ Some OddSamples
odd_fails t smpl odd = rw (ne_eqb _ _ odd) refl

-- a point has two bytes
pub samples_are : (t : Tables) (smpl : List ℕ) (heads : List SampleHead) → heads ≡ t.shdr
    → flat_map (sample_checks (length smpl / 2)) (without_terminal heads) ≡ each_sample t smpl
samples_are t smpl heads e =
    ap (λ (l : List SampleHead). flat_map (sample_checks (length smpl / 2)) (without_terminal l)) e
    ∙ ap (λ (n : ℕ). flat_map (sample_checks n) (without_terminal t.shdr)) (sym (length-words smpl))

-- ---- the functions that succeed

pub record AreChecked (t : Tables) : Type 0 where
  pub counts : first_fault (count_checks t) ≡ None
  pub indexes : first_fault (all_index_checks t) ≡ None

pub checked : (t : Tables) (smpl : List ℕ) → first_fault (early_table_checks t smpl) ≡ None → AreChecked t
unfolding early_table_checks
checked t smpl e =
    let first = both_none (count_checks t) (from_even t smpl) e in
    let second = both_none (even_checks smpl) (from_indexes t smpl) first.1 in
    let third = both_none (all_index_checks t) (each_sample t smpl) second.1 in
    record { counts = first.0; indexes = third.0 }

-- ---- with the checks of presets and instruments

-- the zones of the owners read from headers and windows
zones_together : {H M : Type 0} (f : H → List Bagged → M) (zones : M → List Zone) (read : List Bagged → List Zone)
    → ((h : H) (w : List Bagged) → zones (f h w) ≡ read w)
    → (hs : List H) (ws : List (List Bagged)) → length hs ≡ length ws
    → flat_map zones (zip_with f hs ws) ≡ flat_map read ws
zones_together f zones read same [] [] e = refl
zones_together f zones read same [] (w ∷ ws) e = absurd (omega (arith, e))
zones_together f zones read same (h ∷ hs) [] e = refl
zones_together f zones read same (h ∷ hs) (w ∷ ws) e =
    ap (λ (l : List Zone). l ++ flat_map zones (zip_with f hs ws)) (same h w)
    ∙ ap (λ (l : List Zone). read w ++ l) (zones_together f zones read same hs ws (omega (arith, e)))

pub rows_windows : {H X : Type 0} (table : List X) (index : H → ℕ) (heads : List H)
    → length (without_terminal heads) ≡ length (windows table (map index heads))
rows_windows table index heads =
    omega (arith, length-without_terminal heads, length-windows table (map index heads), length-map heads index)

pub targets_are : (info sdta : List Chunk) (t : Tables) → target_checks (bank_of info sdta t) ≡ bank_owner_checks t
unfolding target_checks bank_of preset_windows instrument_windows
targets_are info sdta t =
    let presets = zip_with (owner_read nine.presets) (without_terminal t.phdr) (preset_windows t) in
    let instruments = zip_with (owner_read nine.instruments) (without_terminal t.inst) (instrument_windows t) in
    let samples = samples_read (points_in sdta) (without_terminal t.shdr) in
    let preset_rows = rows_windows (bags_in t.pbag t.pgen t.pmod) (λ (h : PresetHead). h.bag) t.phdr in
    let instrument_rows = rows_windows (bags_in t.ibag t.igen t.imod) (λ (h : InstrumentHead). h.bag) t.inst in
    let instrument_count =
    length-zip_with (owner_read nine.instruments) (without_terminal t.inst) (instrument_windows t) instrument_rows in
    let sample_count = length-map (without_terminal t.shdr) (sample_read (length (without_terminal t.shdr)) (points_in sdta)) in
    let preset_zones =
    zones_together (owner_read nine.presets) (λ (p : ZoneOwner Head). p.zones) (zones_read level.Preset)
    (λ h w. refl) (without_terminal t.phdr) (preset_windows t) preset_rows in
    let instrument_zones =
    zones_together (owner_read nine.instruments) (λ (i : ZoneOwner (List ℕ)). i.zones)
    (zones_read level.Inst) (λ h w. refl) (without_terminal t.inst) (instrument_windows t) instrument_rows in
    let first : map (target_check (length instruments) BadInstrument)
    (flat_map (λ (p : ZoneOwner Head). p.zones) presets)
    ≡ preset_part t =
    ap (λ (n : ℕ). map (target_check n BadInstrument) (flat_map (λ (p : ZoneOwner Head). p.zones) presets))
    instrument_count
    ∙ ap (map (target_check (length (without_terminal t.inst)) BadInstrument)) preset_zones in
    let second : map (target_check (length samples) BadSample)
    (flat_map (λ (i : ZoneOwner (List ℕ)). i.zones) instruments)
    ≡ instrument_part t =
    ap (λ (n : ℕ). map (target_check n BadSample) (flat_map (λ (i : ZoneOwner (List ℕ)). i.zones) instruments))
    sample_count
    ∙ ap (map (target_check (length (without_terminal t.shdr)) BadSample)) instrument_zones in
    ap
    (λ (l : List (Check ReadFault)).
    l
    ++ map (target_check (length samples) BadSample)
    (flat_map (λ (i : ZoneOwner (List ℕ)). i.zones) instruments))
    first
    ∙ ap (λ (l : List (Check ReadFault)). preset_part t ++ l) second

-- the checks from the record counts on, as the specification of files has them
abbrev pub from_counts : List Chunk → List Chunk → Tables → List ℕ → List (Check ReadFault)
from_counts info sdta t smpl =
    count_checks t
    ++ (even_checks smpl
    ++ (all_index_checks t
    ++ (each_sample t smpl
    ++ (target_checks (bank_of info sdta t)
    ++ total_checks (without_terminal t.shdr)))))

pub from_counts_are : (info sdta : List Chunk) (t : Tables) (smpl : List ℕ)
    → from_counts info sdta t smpl ≡ table_checks t smpl
unfolding early_table_checks
from_counts_are info sdta t smpl =
    let last = bank_owner_checks t ++ total_checks (without_terminal t.shdr) in
    ap
    (λ (l : List (Check ReadFault)).
    count_checks t
    ++
    (even_checks smpl
    ++ (all_index_checks t ++ (each_sample t smpl ++ (l ++ total_checks (without_terminal t.shdr))))))
    (targets_are info sdta t)
    ∙ ap (λ (l : List (Check ReadFault)). count_checks t ++ (even_checks smpl ++ l))
    (sym (append_assoc (all_index_checks t) (each_sample t smpl) last))
    ∙ ap (λ (l : List (Check ReadFault)). count_checks t ++ l)
    (sym (append_assoc (even_checks smpl) (from_indexes t smpl) last))
    ∙ sym (append_assoc (count_checks t) (from_even t smpl) last)
