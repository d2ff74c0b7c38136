-- Totals and limits.
use Rattle.std.proofs.Common.{◌≡◌, ◌+◌, ◌-◌, ◌<◌, ◌≤◌, ◌^◌, ℕ, nat_lt, if◌then◌else◌, true, false, Some, None, refl}
use Rattle.std.proofs.Common.{ap, sym, ◌∙◌, arith}
use Rattle.std.proofs.lemmas.Bool.Decides.{nat_tests}
use Rattle.sf_base.specs.declared.limits.TheConstants.{PRESETS, INSTRUMENTS, SAMPLES, ZONES, GENERATORS, MODULATORS}
use Rattle.sf_base.specs.declared.limits.TheConstants.{POINTS, ZERO_POINTS}
use Rattle.generators.specs.declared.level.Level.{Level}
use Rattle.generators.specs.declared.level.Level.TheVariants as level
use Rattle.bank_parts.specs.declared.counting.Records.{Records}
use Rattle.bank_validity.specs.declared.totals.LevelTotals.{LevelTotals}
use Rattle.bank_validity.specs.declared.totals.Totals.{Totals}
use Rattle.bank_validity.specs.declared.limits.Limit.TheVariants as limit
use Rattle.bank_parts.specs.declared.parts.Parts.{Parts}
use Rattle.bank_parts.specs.Valid.{IsWithin}
use Rattle.bank_parts.specs.Counts.{counted, all_counted, records_sum}
use Rattle.bank_parts.proofs.Counts.{counted_same}
use Rattle.bank_validity.specs.Limits.{totals_of, totals_at, level_changed, level_counted, plus_owner, broken}
use Rattle.bank_validity.specs.Limits.{broken_limit, with_sample, with_owner, with_owner_counted, plus_records}
use Rattle.bank_validity.specs.Limits.{with_records, with_records_counted}

-- ---- no limit is broken

pub record LevelWithin (most : ℕ) (l : LevelTotals) : Type 0 where
  pub count : l.count ≤ most
  pub zones : l.records.zones ≤ ZONES
  pub gens : l.records.gens ≤ GENERATORS
  pub mods : l.records.mods ≤ MODULATORS

pub record AreWithin (t : Totals) : Type 0 where
  pub presets : LevelWithin PRESETS t.presets
  pub instruments : LevelWithin INSTRUMENTS t.instruments
  pub samples : t.samples ≤ SAMPLES
  pub points : t.points ≤ POINTS

pub within_totals : (t : Totals) → broken t ≡ None → AreWithin t
unfolding broken
within_totals t e = record {
  presets =
      record {
        count =
            grind (arith, nat_tests);
        zones =
            grind (arith, nat_tests);
        gens = grind (arith, nat_tests);
        mods = grind (arith, nat_tests);
      };
  instruments =
      record {
        count =
            grind (arith, nat_tests);
        zones =
            grind (arith, nat_tests);
        gens = grind (arith, nat_tests);
        mods = grind (arith, nat_tests);
      };
  samples = grind (arith, nat_tests);
  points = grind (arith, nat_tests);
}

pub not_over : (most n : ℕ) → n ≤ most → nat_lt most n ≡ false
not_over most n h = grind (arith, nat_tests)

-- with another number of points, which may exceed the limit
pub broken_points : (t : Totals) → AreWithin t → (p : ℕ)
    → broken (let u : Totals = record t { points = p } in u) ≡ (if nat_lt POINTS p then Some limit.Points else None)
unfolding broken
broken_points t w p =
    let presets = w.presets in
    let instruments = w.instruments in
    rw (
      not_over PRESETS t.presets.count presets.count,
      not_over INSTRUMENTS t.instruments.count instruments.count,
      not_over SAMPLES t.samples w.samples,
      not_over ZONES t.presets.records.zones presets.zones,
      not_over ZONES t.instruments.records.zones instruments.zones,
      not_over GENERATORS t.presets.records.gens presets.gens,
      not_over GENERATORS t.instruments.records.gens instruments.gens,
      not_over MODULATORS t.presets.records.mods presets.mods,
      not_over MODULATORS t.instruments.records.mods instruments.mods,
    ) refl

pub none_broken : (t : Totals) → AreWithin t → broken t ≡ None
none_broken t w = broken_points t w t.points ∙ rw (not_over POINTS t.points w.points) refl

pub limits_of : (b : Parts) → broken_limit b ≡ None → IsWithin b
unfolding totals_of
limits_of b e =
    let w = within_totals (totals_of b) e in
    let presets = w.presets in
    let instruments = w.instruments in
    record {
      presets = presets.count;
      instruments = instruments.count;
      samples = w.samples;
      preset_zones = presets.zones;
      preset_gens = presets.gens;
      preset_mods = presets.mods;
      instrument_zones = instruments.zones;
      instrument_gens = instruments.gens;
      instrument_mods = instruments.mods;
      points = w.points;
    }

of_parts : (b : Parts) → IsWithin b → AreWithin (totals_of b)
unfolding totals_of
of_parts b w = record {
  presets = record { count = w.presets; zones = w.preset_zones; gens = w.preset_gens; mods = w.preset_mods };
  instruments =
      record
      { count = w.instruments; zones = w.instrument_zones; gens = w.instrument_gens; mods = w.instrument_mods };
  samples = w.samples;
  points = w.points;
}

pub no_limit_of : (b : Parts) → IsWithin b → broken_limit b ≡ None
no_limit_of b w = none_broken (totals_of b) (of_parts b w)

-- ---- the totals of a level

abbrev pub most_at : Level → ℕ
most_at level.Preset = PRESETS
most_at level.Inst = INSTRUMENTS

pub within_at : (at : Level) (t : Totals) → AreWithin t → LevelWithin (most_at at) (totals_at at t)
within_at level.Preset t w = w.presets
within_at level.Inst t w = w.instruments

-- the level that is changed
pub level_within : (at : Level) (f : LevelTotals → LevelTotals) (t : Totals) → AreWithin (level_changed at f t)
    → LevelWithin (most_at at) (f (totals_at at t))
level_within level.Preset f t w = w.presets
level_within level.Inst f t w = w.instruments

pub put_within : (at : Level) (l : LevelTotals) (t : Totals) → AreWithin t → LevelWithin (most_at at) l
    → AreWithin (level_changed at (λ _. l) t)
put_within level.Preset l t w own =
    record { presets = own; instruments = w.instruments; samples = w.samples; points = w.points }
put_within level.Inst l t w own =
    record { presets = w.presets; instruments = own; samples = w.samples; points = w.points }

-- the limits of the other level still hold
pub unchanged_within : (at : Level) (f : LevelTotals → LevelTotals) (t : Totals) → AreWithin (level_changed at f t)
    → LevelWithin (most_at at) (totals_at at t) → AreWithin t
unchanged_within level.Preset f t w l =
    record { presets = l; instruments = w.instruments; samples = w.samples; points = w.points }
unchanged_within level.Inst f t w l =
    record { presets = w.presets; instruments = l; samples = w.samples; points = w.points }

-- ---- saturated totals

abbrev pub totals_counted : Totals → Totals
totals_counted t =
    record t
    { presets = level_counted t.presets; instruments = level_counted t.instruments; points = counted t.points }

-- a limit below 2 ^ 64 - 1 is exceeded exactly if the saturated number exceeds it
counted_test : (most n : ℕ) → most < 2 ^ 64 - 1 → nat_lt most (counted n) ≡ nat_lt most n
counted_test most n h = grind (arith, nat_tests)

pub broken_counted : (t : Totals) → broken (totals_counted t) ≡ broken t
unfolding broken
broken_counted t =
    rw (
      counted_test PRESETS t.presets.count (omega arith),
      counted_test INSTRUMENTS t.instruments.count (omega arith),
      counted_test ZONES t.presets.records.zones (omega arith),
      counted_test ZONES t.instruments.records.zones (omega arith),
      counted_test GENERATORS t.presets.records.gens (omega arith),
      counted_test GENERATORS t.instruments.records.gens (omega arith),
      counted_test MODULATORS t.presets.records.mods (omega arith),
      counted_test MODULATORS t.instruments.records.mods (omega arith),
      counted_test POINTS t.points (omega arith),
    ) refl

few : (most n : ℕ) → n ≤ most → most < 2 ^ 64 → counted n ≡ n
few most n h small = counted_same n (omega (arith, h, small))

-- if no limit is broken, no number is saturated
pub records_few : (most : ℕ) (l : LevelTotals) → LevelWithin most l → all_counted l.records ≡ l.records
records_few most l w = λ i. record {
  zones = few ZONES l.records.zones w.zones (omega arith) i;
  gens = few GENERATORS l.records.gens w.gens (omega arith) i;
  mods = few MODULATORS l.records.mods w.mods (omega arith) i;
}

pub count_few : (at : Level) (t : Totals) → AreWithin t → counted (totals_at at t).count ≡ (totals_at at t).count
count_few level.Preset t w = let l = w.presets in few PRESETS t.presets.count l.count (omega arith)
count_few level.Inst t w = let l = w.instruments in few INSTRUMENTS t.instruments.count l.count (omega arith)

level_same : (most : ℕ) (l : LevelTotals) → LevelWithin most l → most < 2 ^ 64 → level_counted l ≡ l
level_same most l w small = λ i. record { count = few most l.count w.count small i; records = records_few most l w i }

counted_totals : (t : Totals) → AreWithin t → totals_counted t ≡ t
counted_totals t w = λ i. record t {
  presets = level_same PRESETS t.presets w.presets (omega arith) i;
  instruments = level_same INSTRUMENTS t.instruments w.instruments (omega arith) i;
  points = few POINTS t.points w.points (omega arith) i;
}

pub counted_within : (b : Parts) → IsWithin b → totals_counted (totals_of b) ≡ totals_of b
counted_within b w = counted_totals (totals_of b) (of_parts b w)

-- ---- one more sample

module _ (t : Totals) (n : ℕ) where
  pub samples_broken : AreWithin t → SAMPLES ≤ t.samples → broken (with_sample t n) ≡ Some limit.Samples
  unfolding broken
  samples_broken w h =
      let presets = w.presets in
      let instruments = w.instruments in
      let over : nat_lt SAMPLES (t.samples + 1) ≡ true = grind (arith, nat_tests) in
      rw (
        not_over PRESETS t.presets.count presets.count,
        not_over INSTRUMENTS t.instruments.count instruments.count,
        over,
      )
      refl

  pub points_broken : AreWithin t → t.samples < SAMPLES → POINTS < t.points + (n + ZERO_POINTS)
      → broken (with_sample t n) ≡ Some limit.Points
  points_broken w few h =
      let one_more : Totals = record t { samples = t.samples + 1 } in
      let within : AreWithin one_more =
      record { presets = w.presets; instruments = w.instruments; samples = omega arith; points = w.points } in
      let over : nat_lt POINTS (t.points + (n + ZERO_POINTS)) ≡ true = grind (arith, nat_tests) in
      broken_points one_more within (t.points + (n + ZERO_POINTS)) ∙ rw over refl

  pub with_sample_within : AreWithin t → t.samples < SAMPLES → t.points + (n + ZERO_POINTS) ≤ POINTS
      → broken (with_sample t n) ≡ None
  with_sample_within w few h =
      none_broken (with_sample t n)
      (record { presets = w.presets; instruments = w.instruments; samples = omega arith; points = h })

-- ---- more records at a level

-- a saturated number breaks the same limit
counted_changed : (at : Level) (f g : LevelTotals → LevelTotals) (t : Totals) → AreWithin t
    → f (totals_at at t) ≡ level_counted (g (totals_at at t))
    → level_changed at f t ≡ totals_counted (level_changed at g t)
counted_changed level.Preset f g t w e = λ i. record t {
  presets = e i;
  instruments = sym (level_same INSTRUMENTS t.instruments w.instruments (omega arith)) i;
  points = sym (few POINTS t.points w.points (omega arith)) i;
}
counted_changed level.Inst f g t w e = λ i. record t {
  presets = sym (level_same PRESETS t.presets w.presets (omega arith)) i;
  instruments = e i;
  points = sym (few POINTS t.points w.points (omega arith)) i;
}

pub changed_broken : (at : Level) (f g : LevelTotals → LevelTotals) (t : Totals) → broken t ≡ None
    → f (totals_at at t) ≡ level_counted (g (totals_at at t))
    → broken (level_changed at f t) ≡ broken (level_changed at g t)
changed_broken at f g t e same =
    ap broken (counted_changed at f g t (within_totals t e) same) ∙ broken_counted (level_changed at g t)

-- if no limit is broken, no number is saturated
pub changed_same : (at : Level) (g : LevelTotals → LevelTotals) (t : Totals) → broken (level_changed at g t) ≡ None
    → level_changed at (λ l. level_counted (g l)) t ≡ level_changed at g t
changed_same level.Preset g t e =
    let w = within_totals (level_changed level.Preset g t) e in
    λ i. record t { presets = level_same PRESETS (g t.presets) w.presets (omega arith) i }
changed_same level.Inst g t e =
    let w = within_totals (level_changed level.Inst g t) e in
    λ i. record t { instruments = level_same INSTRUMENTS (g t.instruments) w.instruments (omega arith) i }

counted_plus : (a more b : ℕ) → more ≡ counted b → counted (a + more) ≡ counted (a + b)
counted_plus a more b e = grind (arith)

pub records_plus : (l more r : Records) → more ≡ all_counted r
    → all_counted (records_sum l more) ≡ all_counted (records_sum l r)
records_plus l more r m = λ i. record {
  zones = counted_plus l.zones more.zones r.zones (ap (λ (s : Records). s.zones) m) i;
  gens = counted_plus l.gens more.gens r.gens (ap (λ (s : Records). s.gens) m) i;
  mods = counted_plus l.mods more.mods r.mods (ap (λ (s : Records). s.mods) m) i;
}

pub owner_broken : (at : Level) (t : Totals) (more r : Records) → broken t ≡ None → more ≡ all_counted r
    → broken (with_owner_counted at t more) ≡ broken (with_owner at t r)
owner_broken at t more r e m =
    let l = totals_at at t in
    changed_broken at (λ l. level_counted (plus_owner more l)) (plus_owner r) t e
    (λ i. record { count = counted (l.count + 1); records = records_plus l.records more r m i })

pub owner_within : (at : Level) (t : Totals) (r : Records) → broken (with_owner at t r) ≡ None
    → with_owner_counted at t r ≡ with_owner at t r
owner_within at t r e = changed_same at (plus_owner r) t e

pub records_broken : (at : Level) (t : Totals) (more r : Records) → broken t ≡ None → more ≡ all_counted r
    → broken (with_records_counted at t more) ≡ broken (with_records at t r)
records_broken at t more r e m =
    let l = totals_at at t in
    let count = count_few at t (within_totals t e) in
    changed_broken at (λ (l : LevelTotals). record l { records = all_counted (records_sum l.records more) })
    (plus_records r) t e (λ i. record { count = sym count i; records = records_plus l.records more r m i })
