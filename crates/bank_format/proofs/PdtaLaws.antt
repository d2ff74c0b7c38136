-- The nine record lists are found in their chunks, and pass the checks of sizes and counts.
use Rattle.std.proofs.Common.{◌≡◌, ◌≤◌, ◌*◌, ◌%◌, ℕ, true, eqb, leb, List, [], ◌∷◌, length, None, refl, ap, ◌∙◌, arith}
use Rattle.std.specs.Prelude.{flat_map}
use Rattle.std.specs.List.{AllByRecursion}
use Rattle.std.proofs.lemmas.Bool.{le-leb, eq-eqb}
use Rattle.std.proofs.lemmas.List.{length-append}
use Rattle.sf_base.specs.Names.{IsName}
use Rattle.generators.specs.declared.level.Level.{Level}
use Rattle.generators.specs.declared.level.Level.TheVariants as level
use Rattle.modulators.specs.declared.modulator.Modulator.{Modulator}
use Rattle.modulators.specs.Modulators.{FitsModulator}
use Rattle.bank_parts.specs.Valid.{IsValid, zone_count, gen_count, mod_count, owner_total}
use Rattle.bank_parts.specs.Fits.{Fits, FitsHead, FitsOwner}
use Rattle.bank_parts.specs.declared.parts.ZoneOwner.{ZoneOwner}
use Rattle.bank_parts.specs.declared.parts.Parts.{Parts}
use Rattle.hydra_records.specs.Fits.{FitsBag, FitsGenerator, FitsPresetHead, FitsInstrumentHead, FitsSampleHead}
use Rattle.hydra_records.specs.Encoding.{preset_head_bytes, bag_bytes, modulator_bytes, generator_bytes}
use Rattle.hydra_records.specs.Encoding.{instrument_head_bytes, sample_head_bytes}
use Rattle.hydra_records.proofs.RecordTypeLaws.{preset_head_lawful, bag_lawful, modulator_lawful, generator_lawful}
use Rattle.hydra_records.proofs.RecordTypeLaws.{instrument_head_lawful, sample_head_lawful}
use Rattle.bank_format.specs.Ids.{PHDR, PBAG, PMOD, PGEN, INST, IBAG, IMOD, IGEN, SHDR}
use Rattle.bank_format.specs.FaultChecks.{first_fault}
use Rattle.bank_format.specs.Zones.{Bagged}
use Rattle.bank_format.specs.Tables.{Tables, tables_of, bag_list, gen_list, mod_list, generator_end, modulator_end}
use Rattle.bank_format.specs.Tables.{sample_end, presets, instruments, bags_of, all_bags, sample_heads_from}
use Rattle.bank_format.specs.Canon.{pdta}
use Rattle.bank_format.specs.Chunks.{or_terminal, tables_in}
use Rattle.bank_format.specs.ReadChecks.{size_checks, count_checks}
use Rattle.bank_format.proofs.AllLaws.{all-flat_map}
use Rattle.bank_format.proofs.WindowLaws.{sizes, total, length-flat}
use Rattle.bank_format.proofs.TableLaws.{gens_in_bag, mods_in_bag, length-heads}
use Rattle.bank_format.proofs.SampleLaws.{length-sample_heads}
use Rattle.bank_format.proofs.IndexChecks.{length-bag_list}
use Rattle.bank_format.proofs.FitLaws.{total-by, length-by, holds, bags_fit, FitsBagged, written_fit, gen_list_fit}
use Rattle.bank_format.proofs.FitLaws.{mod_list_fit, preset_heads_fit, instrument_heads_fit, sample_heads_fit}

pub record TablesFit (t : Tables) : Type 0 where
  pub phdr : AllByRecursion FitsPresetHead t.phdr
  pub pbag : AllByRecursion FitsBag t.pbag
  pub pmod : AllByRecursion FitsModulator t.pmod
  pub pgen : AllByRecursion FitsGenerator t.pgen
  pub inst : AllByRecursion FitsInstrumentHead t.inst
  pub ibag : AllByRecursion FitsBag t.ibag
  pub imod : AllByRecursion FitsModulator t.imod
  pub igen : AllByRecursion FitsGenerator t.igen
  pub shdr : AllByRecursion FitsSampleHead t.shdr

abbrev pub IsCount : ℕ → Type 0
IsCount n = (1 ≤ n) × (n ≤ 65536)

pub record TablesCount (t : Tables) : Type 0 where
  pub phdr : IsCount (length t.phdr)
  pub pbag : IsCount (length t.pbag)
  pub pmod : IsCount (length t.pmod)
  pub pgen : IsCount (length t.pgen)
  pub inst : IsCount (length t.inst)
  pub ibag : IsCount (length t.ibag)
  pub imod : IsCount (length t.imod)
  pub igen : IsCount (length t.igen)
  pub shdr : IsCount (length t.shdr)

or_terminal-again : (ms : List Modulator) → 1 ≤ length ms → or_terminal ms ≡ ms
or_terminal-again [] h = absurd (omega arith)
or_terminal-again (m ∷ ms) h = refl

pub tables-again : (t : Tables) → TablesFit t → TablesCount t → tables_in (pdta t) ≡ t
unfolding tables_in pdta PHDR PBAG PMOD PGEN INST IBAG IMOD IGEN SHDR
tables-again t v c =
    let phdr = preset_head_lawful.records_read_back t.phdr v.phdr in
    let pbag = bag_lawful.records_read_back t.pbag v.pbag in
    let pmod = ap or_terminal (modulator_lawful.records_read_back t.pmod v.pmod) ∙ or_terminal-again t.pmod c.pmod.0 in
    let pgen = generator_lawful.records_read_back t.pgen v.pgen in
    let inst = instrument_head_lawful.records_read_back t.inst v.inst in
    let ibag = bag_lawful.records_read_back t.ibag v.ibag in
    let imod = ap or_terminal (modulator_lawful.records_read_back t.imod v.imod) ∙ or_terminal-again t.imod c.imod.0 in
    let igen = generator_lawful.records_read_back t.igen v.igen in
    let shdr = sample_head_lawful.records_read_back t.shdr v.shdr in
    λ i.
    record {
      phdr =
          phdr i;
      pbag =
          pbag i;
      pmod =
          pmod i;
      pgen =
          pgen i;
      inst = inst i;
      ibag = ibag i;
      imod = imod i;
      igen = igen i;
      shdr = shdr i;
    }

-- ---- the tables of a bank

module _ (b : Parts) (v : IsValid b) where
  -- the bags of one level
  module _ {H : Type 0} (at : Level) (xs : List (ZoneOwner H)) where
    gens_are : total (sizes gens_in_bag (all_bags at xs)) ≡ owner_total gen_count xs
    gens_are =
        total-by gens_in_bag (bags_of at) (λ (x : ZoneOwner H). gen_count x.global x.zones)
        (λ x. (holds at x.global x.zones).gens_are) xs

    mods_are : total (sizes mods_in_bag (all_bags at xs)) ≡ owner_total mod_count xs
    mods_are =
        total-by mods_in_bag (bags_of at) (λ (x : ZoneOwner H). mod_count x.global x.zones)
        (λ x. (holds at x.global x.zones).mods_are) xs

    zones_are : length (all_bags at xs) ≡ owner_total zone_count xs
    zones_are =
        length-by (bags_of at) (λ (x : ZoneOwner H). zone_count x.global x.zones)
        (λ x. (holds at x.global x.zones).zones_are) xs

    all_bags_fit : (IsFit : H → Type 0) → AllByRecursion (FitsOwner IsFit) xs
        → AllByRecursion FitsBagged (all_bags at xs)
    all_bags_fit IsFit f =
        all-flat_map FitsBagged (FitsOwner IsFit) (bags_of at)
        (λ x q. written_fit at x.global x.zones q.global q.zones) xs f

  pub tables_fit : Fits b → TablesFit (tables_of b)
  unfolding tables_of
  tables_fit f =
      let w = v.limits in
      let pg = w.preset_gens in let pm = w.preset_mods in
      let ig = w.instrument_gens in let im = w.instrument_mods in let pts = w.points in
      let eg = gens_are level.Preset b.presets in let em = mods_are level.Preset b.presets in
      let fg = gens_are level.Inst b.instruments in let fm = mods_are level.Inst b.instruments in
      let pbags = all_bags_fit level.Preset b.presets FitsHead f.presets in
      let ibags = all_bags_fit level.Inst b.instruments IsName f.instruments in
      record {
        phdr = preset_heads_fit b.presets f.presets w.preset_zones;
        pbag = bags_fit (all_bags level.Preset b.presets) (omega (arith, eg, pg)) (omega (arith, em, pm));
        pmod = mod_list_fit (all_bags level.Preset b.presets) pbags;
        pgen = gen_list_fit (all_bags level.Preset b.presets) pbags;
        inst = instrument_heads_fit b.instruments f.instruments w.instrument_zones;
        ibag = bags_fit (all_bags level.Inst b.instruments) (omega (arith, fg, ig)) (omega (arith, fm, im));
        imod = mod_list_fit (all_bags level.Inst b.instruments) ibags;
        igen = gen_list_fit (all_bags level.Inst b.instruments) ibags;
        shdr = sample_heads_fit (length b.samples) 0 b.samples v.samples f.samples (omega (arith, pts));
      }

  bags_counted : (bags : List Bagged) → length bags ≤ 65535 → IsCount (length (bag_list bags))
  bags_counted bags le = let l = length-bag_list bags in (omega (arith, l), omega (arith, l, le))

  gens_counted : (bags : List Bagged) → total (sizes gens_in_bag bags) ≤ 65535 → IsCount (length (gen_list bags))
  unfolding gen_list
  gens_counted bags le =
      let l = length-append (flat_map gens_in_bag bags) (generator_end ∷ []) in
      let t = length-flat gens_in_bag bags in (omega (arith, l), omega (arith, l, t, le))

  mods_counted : (bags : List Bagged) → total (sizes mods_in_bag bags) ≤ 65535 → IsCount (length (mod_list bags))
  unfolding mod_list
  mods_counted bags le =
      let l = length-append (flat_map mods_in_bag bags) (modulator_end ∷ []) in
      let t = length-flat mods_in_bag bags in (omega (arith, l), omega (arith, l, t, le))

  pub tables_count : TablesCount (tables_of b)
  unfolding tables_of
  tables_count =
      let w = v.limits in
      let np = w.presets in let ni = w.instruments in let ns = w.samples in
      let pg = w.preset_gens in let pm = w.preset_mods in let pz = w.preset_zones in
      let ig = w.instrument_gens in let im = w.instrument_mods in let iz = w.instrument_zones in
      let eg = gens_are level.Preset b.presets in
      let em = mods_are level.Preset b.presets in let ez = zones_are level.Preset b.presets in
      let fg = gens_are level.Inst b.instruments in
      let fm = mods_are level.Inst b.instruments in let fz = zones_are level.Inst b.instruments in
      let lp = length-heads presets 0 b.presets in
      let li = length-heads instruments 0 b.instruments in
      let ls = length-append (sample_heads_from 0 b.samples) (sample_end ∷ []) in
      let lh = length-sample_heads 0 b.samples in
      record {
        phdr = (omega (arith, lp), omega (arith, lp, np));
        pbag = bags_counted (all_bags level.Preset b.presets) (omega (arith, ez, pz));
        pmod = mods_counted (all_bags level.Preset b.presets) (omega (arith, em, pm));
        pgen = gens_counted (all_bags level.Preset b.presets) (omega (arith, eg, pg));
        inst = (omega (arith, li), omega (arith, li, ni));
        ibag = bags_counted (all_bags level.Inst b.instruments) (omega (arith, fz, iz));
        imod = mods_counted (all_bags level.Inst b.instruments) (omega (arith, fm, im));
        igen = gens_counted (all_bags level.Inst b.instruments) (omega (arith, fg, ig));
        shdr = (omega (arith, ls), omega (arith, ls, lh, ns));
      }

-- ---- checks

pub count_steps_hold : (t : Tables) → TablesCount t → first_fault (count_checks t) ≡ None
unfolding count_checks
count_steps_hold t c =
    let least : (n : ℕ) → IsCount n → leb 1 n ≡ true = λ n i. le-leb _ _ i.0 in
    let most : (n : ℕ) → IsCount n → leb n 65536 ≡ true = λ n i. le-leb _ _ i.1 in
    rw (
      least _ c.phdr,
      least _ c.pbag,
      least _ c.pmod,
      least _ c.pgen,
      least _ c.inst,
      least _ c.ibag,
      least _ c.imod,
      least _ c.igen,
      least _ c.shdr,
    )
    (rw (
      most _ c.phdr,
      most _ c.pbag,
      most _ c.pmod,
      most _ c.pgen,
      most _ c.inst,
      most _ c.ibag,
      most _ c.imod,
      most _ c.igen,
      most _ c.shdr,
    )
    refl)

-- the record counts, computed from the chunk bodies
pub record Measured (t : Tables) : Type 0 where
  pub phdr : length (flat_map preset_head_bytes t.phdr) ≡ length t.phdr * 38
  pub pbag : length (flat_map bag_bytes t.pbag) ≡ length t.pbag * 4
  pub pmod : length (flat_map modulator_bytes t.pmod) ≡ length t.pmod * 10
  pub pgen : length (flat_map generator_bytes t.pgen) ≡ length t.pgen * 4
  pub inst : length (flat_map instrument_head_bytes t.inst) ≡ length t.inst * 22
  pub ibag : length (flat_map bag_bytes t.ibag) ≡ length t.ibag * 4
  pub imod : length (flat_map modulator_bytes t.imod) ≡ length t.imod * 10
  pub igen : length (flat_map generator_bytes t.igen) ≡ length t.igen * 4
  pub shdr : length (flat_map sample_head_bytes t.shdr) ≡ length t.shdr * 46

pub measured : (t : Tables) → TablesFit t → Measured t
measured t v = record {
  phdr = preset_head_lawful.records_have_size t.phdr v.phdr;
  pbag = bag_lawful.records_have_size t.pbag v.pbag;
  pmod = modulator_lawful.records_have_size t.pmod v.pmod;
  pgen = generator_lawful.records_have_size t.pgen v.pgen;
  inst = instrument_head_lawful.records_have_size t.inst v.inst;
  ibag = bag_lawful.records_have_size t.ibag v.ibag;
  imod = modulator_lawful.records_have_size t.imod v.imod;
  igen = generator_lawful.records_have_size t.igen v.igen;
  shdr = sample_head_lawful.records_have_size t.shdr v.shdr;
}

pub size_steps_hold : (t : Tables) → Measured t → first_fault (size_checks (pdta t)) ≡ None
unfolding size_checks pdta PHDR PBAG PMOD PGEN INST IBAG IMOD IGEN SHDR
size_steps_hold t m =
    let s1 : eqb (length (flat_map preset_head_bytes t.phdr) % 38) 0 ≡ true =
    eq-eqb _ _ (let e = m.phdr in omega (arith, e)) in
    let s2 : eqb (length (flat_map bag_bytes t.pbag) % 4) 0 ≡ true = eq-eqb _ _ (let e = m.pbag in omega (arith, e)) in
    let s3 : eqb (length (flat_map modulator_bytes t.pmod) % 10) 0 ≡ true =
    eq-eqb _ _ (let e = m.pmod in omega (arith, e)) in
    let s4 : eqb (length (flat_map generator_bytes t.pgen) % 4) 0 ≡ true =
    eq-eqb _ _ (let e = m.pgen in omega (arith, e)) in
    let s5 : eqb (length (flat_map instrument_head_bytes t.inst) % 22) 0 ≡ true =
    eq-eqb _ _ (let e = m.inst in omega (arith, e)) in
    let s6 : eqb (length (flat_map bag_bytes t.ibag) % 4) 0 ≡ true = eq-eqb _ _ (let e = m.ibag in omega (arith, e)) in
    let s7 : eqb (length (flat_map modulator_bytes t.imod) % 10) 0 ≡ true =
    eq-eqb _ _ (let e = m.imod in omega (arith, e)) in
    let s8 : eqb (length (flat_map generator_bytes t.igen) % 4) 0 ≡ true =
    eq-eqb _ _ (let e = m.igen in omega (arith, e)) in
    let s9 : eqb (length (flat_map sample_head_bytes t.shdr) % 46) 0 ≡ true =
    eq-eqb _ _ (let e = m.shdr in omega (arith, e)) in
    rw (s1, s2, s3, s4, s5, s6, s7, s8, s9) refl
