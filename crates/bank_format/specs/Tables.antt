-- A bank as the nine record lists of a file (SoundFont 2.04, section 7).
use Rattle.std.specs.Prelude.{◌+◌, ℕ, List, [], ◌∷◌, ◌++◌, length, map, flat_map, pos, Option, Some, None, replicate}
use Rattle.sf_base.specs.Names.{before_zero, filled}
use Rattle.sf_base.specs.declared.limits.TheConstants.{ZERO_POINTS}
use Rattle.generators.specs.declared.level.Level.{Level}
use Rattle.generators.specs.declared.level.Level.TheVariants as level
use Rattle.modulators.specs.declared.modulator.Modulator.{Modulator}
use Rattle.bank_parts.specs.declared.parts.Kind.{Kind}
use Rattle.bank_parts.specs.declared.parts.Kind.TheVariants.{Mono, Right, Left, Linked}
use Rattle.bank_parts.specs.declared.parts.Head.{Head}
use Rattle.bank_parts.specs.declared.parts.ZoneOwner.{ZoneOwner}
use Rattle.bank_parts.specs.declared.parts.Sample.{Sample}
use Rattle.bank_parts.specs.declared.parts.Parts.{Parts}
use Rattle.hydra_records.specs.declared.head.PresetHead.{PresetHead}
use Rattle.hydra_records.specs.declared.head.InstrumentHead.{InstrumentHead}
use Rattle.hydra_records.specs.declared.head.SampleHead.{SampleHead}
use Rattle.hydra_records.specs.declared.zone.Bag.{Bag}
use Rattle.hydra_records.specs.declared.zone.Generator.{Generator}
use Rattle.bank_format.specs.Ids.{EOP, EOI, EOS}
use Rattle.bank_format.specs.Windows.{starts, zip_with}
use Rattle.bank_format.specs.Zones.{Bagged, bags_written}

-- the nine lists
pub record Tables : Type 0 where
  pub phdr : List PresetHead
  pub pbag : List Bag
  pub pmod : List Modulator
  pub pgen : List Generator
  pub inst : List InstrumentHead
  pub ibag : List Bag
  pub imod : List Modulator
  pub igen : List Generator
  pub shdr : List SampleHead

-- ---- the terminal records; that of headers has the total number of bags

abbrev pub preset_end : ℕ → PresetHead
preset_end at = record { name = filled EOP; number = 0; bank = 0; bag = at; library = 0; genre = 0; morphology = 0 }

abbrev pub instrument_end : ℕ → InstrumentHead
instrument_end at = record { name = filled EOI; bag = at }

abbrev pub modulator_end : Modulator
modulator_end = record { source = 0; dest = 0; amount = pos 0; amount_source = 0; transform = 0 }

abbrev pub generator_end : Generator
generator_end = record { operator = 0; amount = 0 }

abbrev pub sample_end : SampleHead
sample_end =
    record {
      name =
          filled EOS;
      start =
          0;
      end = 0;
      loop_start = 0;
      loop_end = 0;
      rate = 0;
      key = 0;
      correction = pos 0;
      link = 0;
      kind = 0;
    }

-- ---- the bags of one level, as three lists

abbrev pub bag : ℕ → ℕ → Bag
bag gens mods = record { gens = gens; mods = mods }

-- the indexes of each bag count the generators and modulators of the bags before it; the terminal has the totals
unfoldable pub bag_list : List Bagged → List Bag
bag_list bags =
    zip_with bag (starts (map (λ (r : Bagged). length r.gens) bags))
    (starts (map (λ (r : Bagged). length r.mods) bags))

unfoldable pub mod_list : List Bagged → List Modulator
mod_list bags = flat_map (λ (r : Bagged). r.mods) bags ++ modulator_end ∷ []

unfoldable pub gen_list : List Bagged → List Generator
gen_list bags = flat_map (λ (r : Bagged). r.gens) bags ++ generator_end ∷ []

-- ---- headers: the bag index of each counts the bags of the headers before it

-- the headers of presets, or of instruments: how a header is written and read, and the terminal
pub record Headers (H R : Type 0) : Type 0 where
  pub level : Level
  pub written : ℕ → H → R
  pub last : ℕ → R
  pub first_bag : R → ℕ
  pub read : R → H

abbrev pub preset_written : ℕ → Head → PresetHead
preset_written at h =
    record {
      name =
          filled h.name;
      number =
          h.number;
      bank = h.bank;
      bag = at;
      library = h.library;
      genre = h.genre;
      morphology = h.morphology;
    }

abbrev pub preset_head : PresetHead → Head
preset_head r =
    record {
      name =
          before_zero r.name;
      number =
          r.number;
      bank = r.bank;
      library = r.library;
      genre = r.genre;
      morphology = r.morphology;
    }

abbrev pub presets : Headers Head PresetHead
presets =
    record {
      level =
          level.Preset;
      written =
          preset_written;
      last = preset_end;
      first_bag = λ (r : PresetHead). r.bag;
      read = preset_head;
    }

abbrev pub instrument_written : ℕ → List ℕ → InstrumentHead
instrument_written at name = record { name = filled name; bag = at }

abbrev pub instrument_head : InstrumentHead → List ℕ
instrument_head r = before_zero r.name

abbrev pub instruments : Headers (List ℕ) InstrumentHead
instruments =
    record {
      level =
          level.Inst;
      written =
          instrument_written;
      last =
          instrument_end;
      first_bag = λ (r : InstrumentHead). r.bag;
      read = instrument_head;
    }

-- the bags of a preset or an instrument
abbrev pub bags_of : {H : Type 0} → Level → ZoneOwner H → List Bagged
bags_of at x = bags_written at x.global x.zones

abbrev pub heads_from : {H R : Type 0} → Headers H R → ℕ → List (ZoneOwner H) → List R
heads_from h at [] = h.last at ∷ []
heads_from h at (x ∷ xs) = h.written at x.head ∷ heads_from h (at + length (bags_of h.level x)) xs

-- ---- samples

abbrev pub kind_word : Kind → ℕ
kind_word Mono = 1
kind_word (Right link) = 2
kind_word (Left link) = 4
kind_word (Linked link) = 8

-- the link of a mono sample is 0
abbrev pub link_word : Kind → ℕ
link_word Mono = 0
link_word (Right link) = link
link_word (Left link) = link
link_word (Linked link) = link

-- loop points are written as absolute positions; without a loop both are the start of the sample
abbrev pub loop_start_at : ℕ → Option (ℕ × ℕ) → ℕ
loop_start_at start None = start
loop_start_at start (Some looped) = start + looped.0

abbrev pub loop_end_at : ℕ → Option (ℕ × ℕ) → ℕ
loop_end_at start None = start
loop_end_at start (Some looped) = start + looped.1

abbrev pub sample_head : ℕ → Sample → SampleHead
sample_head start s = record {
  name = filled s.name;
  start = start;
  end = start + length s.points;
  loop_start = loop_start_at start s.looped;
  loop_end = loop_end_at start s.looped;
  rate = s.rate;
  key = s.key;
  correction = s.correction;
  link = link_word s.kind;
  kind = kind_word s.kind;
}

-- a sample's points, and the zero points after them
abbrev pub points_written : Sample → List ℕ
points_written s = s.points ++ replicate ZERO_POINTS 0

-- the headers of samples: each sample starts after the points and zero points of those before it
abbrev pub sample_heads_from : ℕ → List Sample → List SampleHead
sample_heads_from start [] = []
sample_heads_from start (s ∷ samples) =
    sample_head start s ∷ sample_heads_from (start + length s.points + ZERO_POINTS) samples

-- ---- a bank

-- the points of all samples
unfoldable pub all_points : Parts → List ℕ
all_points b = flat_map points_written b.samples

-- the bags of all presets, or of all instruments
abbrev pub all_bags : {H : Type 0} → Level → List (ZoneOwner H) → List Bagged
all_bags at owners = flat_map (bags_of at) owners

unfoldable pub tables_of : Parts → Tables
tables_of b = record {
  phdr = heads_from presets 0 b.presets;
  pbag = bag_list (all_bags level.Preset b.presets);
  pmod = mod_list (all_bags level.Preset b.presets);
  pgen = gen_list (all_bags level.Preset b.presets);
  inst = heads_from instruments 0 b.instruments;
  ibag = bag_list (all_bags level.Inst b.instruments);
  imod = mod_list (all_bags level.Inst b.instruments);
  igen = gen_list (all_bags level.Inst b.instruments);
  shdr = sample_heads_from 0 b.samples ++ sample_end ∷ [];
}
