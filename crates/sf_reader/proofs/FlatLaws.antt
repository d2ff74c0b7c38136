-- The content of the tables, in flat lists.
use Rattle.std.proofs.Common.{◌≡◌, List, [], ◌∷◌, length, map, refl, sym, ap, subst, arith}
use Rattle.sf_base.specs.Fields.{field_at}
use Rattle.generators.specs.Levels.{target_operator}
use Rattle.flat_records.specs.Bags as flat
use Rattle.flat_records.specs.Owned.{all_bags, flat_of}
use Rattle.bank_parts.specs.declared.parts.ZoneOwner.{ZoneOwner}
use Rattle.bank_parts.specs.declared.parts.Parts.{Parts}
use Rattle.bank_parts.specs.Bagged.{bags_of}
use Rattle.bank_parts.specs.Sound.{IsSound}
use Rattle.bank_core.specs.declared.flat.Flat.{Flat}
use Rattle.bank_core.specs.Heads.{head_records}
use Rattle.bank_core.specs.Flat.{IsFlatOf}
use Rattle.bank_core.proofs.FlatLaws.{bank_in, sound_bank_there}
use Rattle.hydra_records.specs.declared.head.PresetHead.{PresetHead}
use Rattle.hydra_records.specs.declared.head.InstrumentHead.{InstrumentHead}
use Rattle.bank_format.specs.Ids.{IFIL}
use Rattle.bank_format.specs.Windows.{zip_with, without_terminal}
use Rattle.bank_format.specs.Zones.{Bagged}
use Rattle.bank_format.specs.Tables.{Tables, Headers, presets, instruments}
use Rattle.bank_format.specs.Chunks.{body_in, points_in}
use Rattle.bank_format.specs.Reading.{bags_in, preset_windows, instrument_windows, owner_read, samples_read, bank_of}
use Rattle.bank_format.specs.Reading.{counts_of, content_of}
use Rattle.sf_reader.specs.Lists.{ListChunks}
use Rattle.sf_reader.specs.Bags.{own_bags}
use Rattle.sf_reader.specs.Owners.{bank_owners_of}
use Rattle.sf_reader.specs.FlatContent.{heads_of, tables_at, flat_bank, flat_content}
use Rattle.sf_reader.specs.Content.{content_with}
use Rattle.sf_reader.proofs.TableLaws.{rows_windows}

-- ---- one level

module _ {H R : Type 0} (h : Headers H R) where
  heads_together : (rs : List R) (ws : List (List Bagged)) → length rs ≡ length ws
      → map (λ (x : ZoneOwner H). x.head) (zip_with (owner_read h) rs ws) ≡ map h.read rs
  heads_together [] ws e = refl
  heads_together (r ∷ rs) [] e = absurd (omega (arith, e))
  heads_together (r ∷ rs) (w ∷ ws) e = ap (λ xs. h.read r ∷ xs) (heads_together rs ws (omega (arith, e)))

  bags_together : (rs : List R) (ws : List (List Bagged)) → length rs ≡ length ws
      → map (bags_of (target_operator h.level)) (zip_with (owner_read h) rs ws) ≡ map (own_bags h.level) ws
  bags_together [] [] e = refl
  bags_together [] (w ∷ ws) e = absurd (omega (arith, e))
  bags_together (r ∷ rs) [] e = absurd (omega (arith, e))
  bags_together (r ∷ rs) (w ∷ ws) e = ap (λ bs. own_bags h.level w ∷ bs) (bags_together rs ws (omega (arith, e)))

  module _ (rs : List R) (ws : List (List Bagged)) (e : length rs ≡ length ws) where
    heads_flat : heads_of h.level (zip_with (owner_read h) rs ws)
        ≡ head_records (map h.read rs) (flat_of (map (own_bags h.level) ws)).begins
    heads_flat = λ i. head_records (heads_together rs ws e i) (flat_of (bags_together rs ws e i)).begins

    records_flat : tables_at h.level (zip_with (owner_read h) rs ws)
        ≡ flat.tables_of (all_bags (map (own_bags h.level) ws))
    records_flat = ap (λ bs. flat.tables_of (all_bags bs)) (bags_together rs ws e)

-- ---- all nine lists

pub content_flat : (w : ListChunks) (t : Tables)
    → flat_content (content_of w.info w.sdta t)
    ≡ content_with (field_at 2 2 (body_in IFIL w.info)) w t (bank_owners_of t)
    (samples_read (points_in w.sdta) (without_terminal t.shdr))
unfolding bank_of counts_of content_with preset_windows instrument_windows
content_flat w t =
    let of_presets = rows_windows (bags_in t.pbag t.pgen t.pmod) (λ (h : PresetHead). h.bag) t.phdr in
    let of_instruments = rows_windows (bags_in t.ibag t.igen t.imod) (λ (h : InstrumentHead). h.bag) t.inst in
    let preset_heads = heads_flat presets (without_terminal t.phdr) (preset_windows t) of_presets in
    let preset_records = records_flat presets (without_terminal t.phdr) (preset_windows t) of_presets in
    let inst_heads = heads_flat instruments (without_terminal t.inst) (instrument_windows t) of_instruments in
    let inst_records = records_flat instruments (without_terminal t.inst) (instrument_windows t) of_instruments in
    let all =
    content_with (field_at 2 2 (body_in IFIL w.info)) w t (bank_owners_of t)
    (samples_read (points_in w.sdta) (without_terminal t.shdr)) in
    λ i. record {
      bank = record {
        minor = all.bank.minor;
        texts = all.bank.texts;
        preset_heads = preset_heads i;
        inst_heads = inst_heads i;
        preset = preset_records i;
        inst = inst_records i;
        samples = all.bank.samples;
      };
      counts = all.counts;
    }

-- ---- the bank with given flat lists

pub is_flat : (f : Flat) (b : Parts) → f ≡ flat_bank b → IsFlatOf f b
is_flat f b e = record {
  minor = ap (λ (x : Flat). x.minor) e;
  texts = ap (λ (x : Flat). x.texts) e;
  presets = record { heads = ap (λ (x : Flat). x.preset_heads) e; records = ap (λ (x : Flat). x.preset) e };
  instruments =
      record
      { heads = ap (λ (x : Flat). x.inst_heads) e; records = ap (λ (x : Flat). x.inst) e };
  samples = ap (λ (x : Flat). x.samples) e;
}

-- the lists of a sound bank are those of the bank read from them, which is that bank
pub record Found (f : Flat) (b : Parts) : Type 0 where
  pub same : bank_in f ≡ b
  pub sound : IsSound (bank_in f)
  pub lists : IsFlatOf f (bank_in f)

pub found : (f : Flat) (b : Parts) → IsSound b → f ≡ flat_bank b → Found f b
found f b sound e =
    let lists = is_flat f b e in
    let same = sound_bank_there f b sound lists in
    record { same = same; sound = subst IsSound (sym same) sound; lists = subst (IsFlatOf f) (sym same) lists }
