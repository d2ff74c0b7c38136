-- The bank read from a file that passes every check is valid, and its fields are in range.
use Rattle.std.proofs.Common.{◌≡◌, ◌-◌, ℕ, List, [], ◌∷◌, length, map, None, arith}
use Rattle.std.specs.List.{AllByRecursion}
use Rattle.std.proofs.lemmas.List.{length-map}
use Rattle.sf_base.specs.Names.{IsName}
use Rattle.sample_view.specs.Words.{AreWords}
use Rattle.sample_view.proofs.WordLaws.{AreWords-words}
use Rattle.riff_chunks.specs.Walk.{Chunk}
use Rattle.modulators.specs.declared.modulator.Modulator.{Modulator}
use Rattle.modulators.specs.Modulators.{FitsModulator}
use Rattle.bank_parts.specs.declared.parts.Head.{Head}
use Rattle.bank_parts.specs.Valid.{IsValid, IsWithin}
use Rattle.bank_parts.specs.Fits.{Fits, FitsHead}
use Rattle.hydra_records.specs.declared.head.PresetHead.{PresetHead}
use Rattle.hydra_records.specs.declared.head.InstrumentHead.{InstrumentHead}
use Rattle.hydra_records.specs.declared.head.SampleHead.{SampleHead}
use Rattle.hydra_records.specs.Fits.{FitsGenerator}
use Rattle.hydra_records.specs.Records.{AreBytes}
use Rattle.hydra_records.proofs.Fields.{field_at-lt}
use Rattle.hydra_records.proofs.RecordTypeLaws.{generator_lawful, modulator_lawful}
use Rattle.bank_format.specs.Ids.{INFO, SDTA, PDTA, IFIL, SMPL, PHDR, PMOD, PGEN, INST, IMOD, IGEN, SHDR}
use Rattle.bank_format.specs.declared.fault.ReadFault.TheVariants as fault
use Rattle.bank_format.specs.Windows.{without_terminal}
use Rattle.bank_format.specs.Tables.{Tables, presets, instruments}
use Rattle.bank_format.specs.Texts.{texts_read}
use Rattle.bank_format.specs.Samples.{sample_read}
use Rattle.bank_format.specs.Chunks.{window, chunks_of, body_in, or_terminal, tables_in, points_in}
use Rattle.bank_format.specs.Reading.{preset_windows, instrument_windows, owner_read, bank_of, content_in}
use Rattle.bank_format.specs.ReadChecks.{sample_checks, targets_of, target_checks, fault_of}
use Rattle.bank_format.proofs.FitLaws.{modulator_end_fits}
use Rattle.bank_format.proofs.CheckLaws.{both_none, all_none}
use Rattle.bank_format.proofs.ReadBytes.{OfBytes, body_bytes, chunk_bytes, window_bytes}
use Rattle.bank_format.proofs.ReadSamples.{ReadHead, heads_read, GoodHead, samples_valid, samples_fit}
use Rattle.bank_format.proofs.ReadSamples.{point_total-read, total_small}
use Rattle.bank_format.proofs.ReadTexts.{texts_valid, texts_fit}
use Rattle.bank_format.proofs.ReadWindows.{all_of_take, length-zip_with-le}
use Rattle.bank_format.proofs.ReadTables.{windows_fit}
use Rattle.bank_format.proofs.ReadMembers.{ReadPresetHead, ReadInstrumentHead, preset_heads_read}
use Rattle.bank_format.proofs.ReadMembers.{instrument_heads_read, owners_valid, owners_fit, owners_within}
use Rattle.bank_format.proofs.ReadMembers.{preset_named, preset_fits, instrument_named}
use Rattle.bank_format.proofs.ReadUnbroken.{Unbroken, file_unbroken}
use Rattle.bank_format.proofs.ReadUnbroken.{few_records, few_in_windows, length-without_terminal}
use Rattle.bank_format.proofs.ReadUnbroken.{good_heads}

-- ---- tables read from bytes

pub record AreRead (t : Tables) : Type 0 where
  pub phdr : AllByRecursion ReadPresetHead (without_terminal t.phdr)
  pub pmod : AllByRecursion FitsModulator t.pmod
  pub pgen : AllByRecursion FitsGenerator t.pgen
  pub inst : AllByRecursion ReadInstrumentHead (without_terminal t.inst)
  pub imod : AllByRecursion FitsModulator t.imod
  pub igen : AllByRecursion FitsGenerator t.igen
  pub shdr : AllByRecursion ReadHead (without_terminal t.shdr)

or_zero_fit : (ms : List Modulator) → AllByRecursion FitsModulator ms → AllByRecursion FitsModulator (or_terminal ms)
or_zero_fit [] v = (modulator_end_fits, tt)
or_zero_fit (m ∷ ms) v = v

rows_hold : {X : Type 0} (P : X → Type 0) (xs : List X) → AllByRecursion P xs → AllByRecursion P (without_terminal xs)
rows_hold P xs v = all_of_take P (length xs - 1) xs v

tables_read : (pdta : List Chunk) → AllByRecursion OfBytes pdta → AreRead (tables_in pdta)
unfolding tables_in
tables_read pdta h = record {
  phdr = rows_hold ReadPresetHead _ (preset_heads_read (body_in PHDR pdta) (body_bytes PHDR pdta h));
  pmod = or_zero_fit _ (modulator_lawful.records_read_fit (body_in PMOD pdta) (body_bytes PMOD pdta h));
  pgen = generator_lawful.records_read_fit (body_in PGEN pdta) (body_bytes PGEN pdta h);
  inst = rows_hold ReadInstrumentHead _ (instrument_heads_read (body_in INST pdta) (body_bytes INST pdta h));
  imod = or_zero_fit _ (modulator_lawful.records_read_fit (body_in IMOD pdta) (body_bytes IMOD pdta h));
  igen = generator_lawful.records_read_fit (body_in IGEN pdta) (body_bytes IGEN pdta h);
  shdr = rows_hold ReadHead _ (heads_read (body_in SHDR pdta) (body_bytes SHDR pdta h));
}

-- ---- the bank read from chunks of bytes

module _ (info sdta : List Chunk) (t : Tables) (hi : AllByRecursion OfBytes info) (hs : AllByRecursion OfBytes sdta)
    (r : AreRead t) where
  abbrev heads : List SampleHead
  heads = without_terminal t.shdr

  points_words : AreWords (points_in sdta)
  unfolding points_in
  points_words = AreWords-words (body_in SMPL sdta) (body_bytes SMPL sdta hs)

  within : Unbroken info sdta t → AllByRecursion (GoodHead (length (points_in sdta))) heads
      → IsWithin (bank_of info sdta t)
  unfolding bank_of
  within u good =
      let few = few_records t u.counts in
      let windows = few_in_windows t few u.indexes in
      let p = owners_within presets (without_terminal t.phdr) (preset_windows t) windows.0 in
      let i = owners_within instruments (without_terminal t.inst) (instrument_windows t) windows.1 in
      let fp = few.phdr in
      let fi = few.inst in
      let fs = few.shdr in
      let total = point_total-read (length heads) (points_in sdta) heads good in
      let small = total_small heads u.total in
      record {
        presets =
            omega (
              arith,
              fp,
              length-without_terminal t.phdr,
              length-zip_with-le (owner_read presets) (without_terminal t.phdr) (preset_windows t),
            );
        instruments =
            omega (
              arith,
              fi,
              length-without_terminal t.inst,
              length-zip_with-le (owner_read instruments) (without_terminal t.inst) (instrument_windows t),
            );
        samples = omega (arith, fs, length-without_terminal t.shdr, length-map heads (sample_read (length heads) (points_in sdta)));
        preset_zones = p.zones;
        preset_gens = p.gens;
        preset_mods = p.mods;
        instrument_zones = i.zones;
        instrument_gens = i.gens;
        instrument_mods = i.mods;
        points = omega (arith, total, small);
      }

  bank_valid : Unbroken info sdta t → IsValid (bank_of info sdta t)
  unfolding bank_of target_checks
  bank_valid u =
      let n = length heads in
      let points = points_in sdta in
      let good = good_heads (length points) heads (all_none (sample_checks (length points)) heads u.samples) in
      let count = length-map heads (sample_read n points) in
      let bank = bank_of info sdta t in
      let targets = both_none (targets_of (length bank.instruments) fault.BadInstrument bank.presets) _ u.targets in
      record {
        texts = texts_valid info hi;
        presets =
            owners_valid presets (without_terminal t.phdr) (preset_windows t) ReadPresetHead (λ (x : Head). x.name) preset_named
            (length bank.instruments) fault.BadInstrument r.phdr targets.0;
        instruments =
            owners_valid instruments (without_terminal t.inst) (instrument_windows t) ReadInstrumentHead (λ name. name)
            instrument_named (length bank.samples) fault.BadSample r.inst targets.1;
        samples = rw count (samples_valid n points heads r.shdr good);
        limits = within u good;
      }

  bank_fits : Fits (bank_of info sdta t)
  unfolding bank_of preset_windows instrument_windows
  bank_fits = record {
    minor = field_at-lt 2 2 (body_in IFIL info) (body_bytes IFIL info hi);
    texts = texts_fit (texts_read info) (texts_valid info hi);
    presets =
        owners_fit presets (without_terminal t.phdr) (preset_windows t) ReadPresetHead FitsHead preset_fits r.phdr
        (windows_fit t.pbag t.pgen t.pmod (map (λ (h : PresetHead). h.bag) t.phdr) r.pgen r.pmod);
    instruments =
        owners_fit instruments (without_terminal t.inst) (instrument_windows t) ReadInstrumentHead IsName instrument_named r.inst
        (windows_fit t.ibag t.igen t.imod (map (λ (h : InstrumentHead). h.bag) t.inst) r.igen r.imod);
    samples = samples_fit (length heads) (points_in sdta) heads points_words r.shdr;
  }

-- ---- the bank read from a file

pub read_valid : (file : List ℕ) → AreBytes file → fault_of file ≡ None → IsValid (content_in (window file)).bank
unfolding content_in
read_valid file h e =
    let w = window_bytes file h in
    bank_valid (chunks_of INFO (window file)) (chunks_of SDTA (window file)) (tables_in (chunks_of PDTA (window file)))
    (chunk_bytes INFO (window file) w) (chunk_bytes SDTA (window file) w)
    (tables_read (chunks_of PDTA (window file)) (chunk_bytes PDTA (window file) w)) (file_unbroken file e)

pub read_fits : (file : List ℕ) → AreBytes file → Fits (content_in (window file)).bank
unfolding content_in
read_fits file h =
    let w = window_bytes file h in
    bank_fits (chunks_of INFO (window file)) (chunks_of SDTA (window file)) (tables_in (chunks_of PDTA (window file)))
    (chunk_bytes INFO (window file) w) (chunk_bytes SDTA (window file) w)
    (tables_read (chunks_of PDTA (window file)) (chunk_bytes PDTA (window file) w))
