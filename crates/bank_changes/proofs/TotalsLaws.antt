-- Totals of a bank, and their sums.
use Rattle.std.proofs.Common.{◌≡◌, ◌<◌, ◌≤◌, ◌+◌, ◌-◌, ℕ, List, length, map, insert, remove, slice_get, Some, None}
use Rattle.std.proofs.Common.{refl, ap, sym, subst, ◌∙◌, arith}
use Rattle.std.specs.FinMap.{len}
use Rattle.std.proofs.lemmas.List.{length-map}
use Rattle.std.proofs.lemmas.List.Sums.{sum_by-insert}
use Rattle.base_numbered_lists.specs.declared.renumbering.Renumbering.{Renumbering}
use Rattle.sf_base.specs.declared.limits.TheConstants.{ZONES, GENERATORS, MODULATORS, ZERO_POINTS}
use Rattle.generators.specs.declared.level.Level.{Level}
use Rattle.bank_parts.specs.declared.counting.Records.{Records}
use Rattle.bank_validity.specs.declared.totals.LevelTotals.{LevelTotals}
use Rattle.bank_validity.specs.declared.totals.Totals.{Totals}
use Rattle.bank_parts.specs.declared.parts.GlobalZone.{GlobalZone}
use Rattle.bank_parts.specs.declared.parts.Zone.{Zone}
use Rattle.bank_parts.specs.declared.parts.ZoneOwner.{ZoneOwner}
use Rattle.bank_parts.specs.declared.parts.Sample.{Sample}
use Rattle.bank_parts.specs.declared.parts.Parts.{Parts}
use Rattle.bank_parts.specs.Renumbered.{sample_renumbered, zone_renumbered, owner_renumbered, instruments_renumbered}
use Rattle.bank_parts.specs.Valid.{owner_total, zone_count, gen_count, mod_count, point_total}
use Rattle.bank_parts.specs.Counts.{records_sum, records_of_owner}
use Rattle.bank_parts.specs.Owners.{with_head}
use Rattle.bank_validity.specs.Limits.{totals_of, level_totals, totals_at, level_changed, plus_owner, plus_records}
use Rattle.bank_validity.specs.Limits.{broken, with_sample, with_owner, with_records}
use Rattle.bank_validity.proofs.LevelLaws.{changed_by, changed_at, changed_twice, same_before, same_beside}
use Rattle.bank_validity.proofs.LimitLaws.{LevelWithin, most_at, within_totals, none_broken, level_within, within_at}
use Rattle.bank_validity.proofs.LimitLaws.{put_within, unchanged_within}
use Rattle.base_numbered_lists.specs.Moved.{moved, changed}
use Rattle.base_numbered_lists.proofs.Lists.{slice_get-within, length-changed, length-moved}
use Rattle.std.proofs.lemmas.List.Edits.{length-insert, length-remove}
use Rattle.bank_changes.proofs.Changes.{sum-removed, sum-changed}
use Rattle.bank_changes.proofs.Moves.{sum-moved}
use Rattle.bank_changes.proofs.Everywhere.{sum_kept}

-- ---- one sample less

module _ (t : Totals) (n : ℕ) where
  pub without_sample_within : broken (with_sample t n) ≡ None → broken t ≡ None
  without_sample_within e =
      let w = within_totals (with_sample t n) e in
      none_broken t
      (record { presets = w.presets; instruments = w.instruments; samples = omega arith; points = omega arith })

-- ---- sums that a renumbering does not change

pub zones_kept : {H : Type 0} (by : Renumbering) (owners : List (ZoneOwner H))
    → owner_total zone_count (map (owner_renumbered by) owners) ≡ owner_total zone_count owners
zones_kept {H} by = sum_kept (λ (i : ZoneOwner H). zone_count i.global i.zones) (owner_renumbered by)
    (λ i. let e = length-map i.zones (zone_renumbered by) in omega (arith, e))

pub gens_kept : {H : Type 0} (by : Renumbering) (owners : List (ZoneOwner H))
    → owner_total gen_count (map (owner_renumbered by) owners) ≡ owner_total gen_count owners
gens_kept {H} by = sum_kept (λ (i : ZoneOwner H). gen_count i.global i.zones) (owner_renumbered by)
    (λ i.
    ap (λ (n : ℕ). len i.global.gens + n)
    (sum_kept (λ (z : Zone). len z.gens + 1) (zone_renumbered by) (λ z. refl) i.zones))

pub mods_kept : {H : Type 0} (by : Renumbering) (owners : List (ZoneOwner H))
    → owner_total mod_count (map (owner_renumbered by) owners) ≡ owner_total mod_count owners
mods_kept {H} by = sum_kept (λ (i : ZoneOwner H). mod_count i.global i.zones) (owner_renumbered by)
    (λ i.
    ap (λ (n : ℕ). length i.global.mods + n)
    (sum_kept (λ (z : Zone). length z.mods) (zone_renumbered by) (λ z. refl) i.zones))

pub points_kept : (by : Renumbering) (ss : List Sample) → point_total (map (sample_renumbered by) ss) ≡ point_total ss
points_kept by = sum_kept (λ (s : Sample). length s.points + ZERO_POINTS) (sample_renumbered by) (λ s. refl)

pub level_kept : {H : Type 0} (by : Renumbering) (owners : List (ZoneOwner H))
    → level_totals (map (owner_renumbered by) owners) ≡ level_totals owners
level_kept by owners = λ k. record {
  count = length-map owners (owner_renumbered by) k;
  records = record { zones = zones_kept by owners k; gens = gens_kept by owners k; mods = mods_kept by owners k };
}

-- only the targets of presets change
pub totals-instruments_renumbered : (by : Renumbering) (b : Parts)
    → totals_of (instruments_renumbered by b) ≡ totals_of b
unfolding totals_of
totals-instruments_renumbered by b = λ k. record (totals_of b) { presets = level_kept by b.presets k }

-- ---- one preset or instrument more, or less

module _ {H : Type 0} (count : GlobalZone → List Zone → ℕ) (owners : List (ZoneOwner H)) (i : ℕ) (x : ZoneOwner H) where
  total-inserted : owner_total count (insert owners i x) ≡ owner_total count owners + count x.global x.zones
  total-inserted = sum_by-insert (λ (y : ZoneOwner H). count y.global y.zones) owners i x

  total-removed : slice_get owners i ≡ Some x
      → owner_total count (remove owners i) + count x.global x.zones ≡ owner_total count owners
  total-removed e = sum-removed (λ (y : ZoneOwner H). count y.global y.zones) owners i x e

module _ {H : Type 0} (owners : List (ZoneOwner H)) (i : ℕ) where
  pub level_inserted : (x : ZoneOwner H) → i ≤ length owners
      → level_totals (insert owners i x) ≡ plus_owner (records_of_owner x) (level_totals owners)
  level_inserted x le = λ k. record {
    count = length-insert owners i x le k;
    records =
        record {
          zones =
              total-inserted zone_count owners i x k;
          gens =
              total-inserted gen_count owners i x k;
          mods = total-inserted mod_count owners i x k;
        };
  }

  pub level_removed : (x : ZoneOwner H) → slice_get owners i ≡ Some x
      → plus_owner (records_of_owner x) (level_totals (remove owners i)) ≡ level_totals owners
  level_removed x e = λ k. record {
    count = length-remove owners i (slice_get-within owners i x e) k;
    records =
        record {
          zones =
              total-removed zone_count owners i x e k;
          gens =
              total-removed gen_count owners i x e k;
          mods = total-removed mod_count owners i x e k;
        };
  }

  pub level_moved : (j : ℕ) → i < length owners → j < length owners
      → level_totals (moved owners i j) ≡ level_totals owners
  level_moved j lt lu = λ k. record {
    count = length-moved owners i j lt lu k;
    records = record {
      zones = sum-moved (λ (x : ZoneOwner H). zone_count x.global x.zones) owners i j lt k;
      gens = sum-moved (λ (x : ZoneOwner H). gen_count x.global x.zones) owners i j lt k;
      mods = sum-moved (λ (x : ZoneOwner H). mod_count x.global x.zones) owners i j lt k;
    };
  }

  pub level_headed : (f : ZoneOwner H → H)
      → level_totals (changed owners i (λ x. with_head (f x) x)) ≡ level_totals owners
  level_headed f = λ k. record {
    count = length-changed owners i (λ x. with_head (f x) x) k;
    records = record {
      zones =
          sum-changed (λ (x : ZoneOwner H). zone_count x.global x.zones) (λ x. with_head (f x) x) (λ x. refl) owners
          i k;
      gens =
          sum-changed (λ (x : ZoneOwner H). gen_count x.global x.zones) (λ x. with_head (f x) x) (λ x. refl) owners i
          k;
      mods =
          sum-changed (λ (x : ZoneOwner H). mod_count x.global x.zones) (λ x. with_head (f x) x) (λ x. refl) owners i
          k;
    };
  }

-- ---- fewer records, with or without one less owner

-- the number of owners becomes `count` of it, which is no smaller
module _ (count : ℕ → ℕ) (rises : (n : ℕ) → n ≤ count n) (at : Level) where
  abbrev plus : Records → LevelTotals → LevelTotals
  plus r l = record { count = count l.count; records = records_sum l.records r }

  fewer_within : (t : Totals) (r : Records) → broken (level_changed at (plus r) t) ≡ None → broken t ≡ None
  fewer_within t r e =
      let w = within_totals (level_changed at (plus r) t) e in
      let l = level_within at (plus r) t w in
      let more = rises (totals_at at t).count in
      none_broken t
      (unchanged_within at (plus r) t w
      (record { count = omega arith; zones = omega arith; gens = omega arith; mods = omega arith }))

pub fewer_owners_within : (at : Level) (t : Totals) (r : Records) → broken (with_owner at t r) ≡ None → broken t ≡ None
fewer_owners_within at = fewer_within (λ n. n + 1) (λ n. omega arith) at

pub fewer_records_within : (at : Level) (t : Totals) (r : Records) → broken (with_records at t r) ≡ None
    → broken t ≡ None
fewer_records_within at = fewer_within (λ n. n) (λ n. omega arith) at

-- ---- more records

minus_more : (a n : ℕ) → a + n - n ≡ a
minus_more a n = omega arith

records_minus : Records → Records → Records
records_minus a r = record { zones = a.zones - r.zones; gens = a.gens - r.gens; mods = a.mods - r.mods }

minus_sum : (a r : Records) → records_minus (records_sum a r) r ≡ a
unfolding records_minus
minus_sum a r =
    λ i.
    record {
      zones =
          minus_more a.zones r.zones i;
      gens = minus_more a.gens r.gens i;
      mods = minus_more a.mods r.mods i;
    }

-- if the totals with the same records more are equal, the totals are
pub same_with_records : (at : Level) (t u : Totals) (r : Records) → with_records at t r ≡ with_records at u r → t ≡ u
same_with_records at t u r e =
    same_before at (plus_records r) (λ l. record { count = l.count; records = records_minus l.records r })
    (λ l i. record { count = l.count; records = minus_sum l.records r i }) t u e

pub with_records_sum : (at : Level) (t : Totals) (r s : Records)
    → with_records at t (records_sum r s) ≡ with_records at (with_records at t s) r
with_records_sum at t r s =
    let l = totals_at at t in
    changed_by at (plus_records (records_sum r s)) (λ l. plus_records r (plus_records s l)) t
    (λ i. record l { records = sum_twice l.records r s i })
    ∙ sym (changed_twice at (plus_records s) (plus_records r) t)
  where
    plus_twice : (a r s : ℕ) → a + (r + s) ≡ a + s + r
    plus_twice a r s = omega arith

    sum_twice : (a r s : Records) → records_sum a (records_sum r s) ≡ records_sum (records_sum a s) r
    sum_twice a r s =
        λ i.
        record {
          zones =
              plus_twice a.zones r.zones s.zones i;
          gens =
              plus_twice a.gens r.gens s.gens i;
          mods = plus_twice a.mods r.mods s.mods i;
        }

-- some records replaced by them and others
pub with_more_records : (at : Level) (t now : Totals) (had more : Records)
    → with_records at now had ≡ with_records at t (records_sum had more) → now ≡ with_records at t more
with_more_records at t now had more e =
    same_with_records at now (with_records at t more) had (e ∙ with_records_sum at t had more)

-- ---- some records replaced by no more

pub record AreNoMore (after before : Records) : Type 0 where
  pub zones : after.zones ≤ before.zones
  pub gens : after.gens ≤ before.gens
  pub mods : after.mods ≤ before.mods

least : (most now t before after : ℕ) → now + before ≡ t + after → after ≤ before → t ≤ most → now ≤ most
least most now t before after e fewer h = omega (arith, e, fewer, h)

pub no_more_within : (at : Level) (t now : Totals) (before after : Records)
    → with_records at now before ≡ with_records at t after → AreNoMore after before → broken t ≡ None
    → broken now ≡ None
no_more_within at t now before after became fewer e =
    let w = within_totals t e in
    let l = within_at at t w in
    let here = totals_at at now in
    let there = totals_at at t in
    let level : plus_records before here ≡ plus_records after there =
    sym (changed_at at (plus_records before) now)
    ∙ (ap (totals_at at) became ∙ changed_at at (plus_records after) t) in
    let count = ap (λ (l : LevelTotals). l.count) level in
    let records = ap (λ (l : LevelTotals). l.records) level in
    let own : LevelWithin (most_at at) here = record {
      count = subst (λ n. n ≤ most_at at) (sym count) l.count;
      zones =
          least ZONES here.records.zones there.records.zones before.zones after.zones
          (ap (λ (r : Records). r.zones) records) fewer.zones l.zones;
      gens =
          least GENERATORS here.records.gens there.records.gens before.gens after.gens
          (ap (λ (r : Records). r.gens) records) fewer.gens l.gens;
      mods =
          least MODULATORS here.records.mods there.records.mods before.mods after.mods
          (ap (λ (r : Records). r.mods) records) fewer.mods l.mods;
    } in
    ap broken (same_beside at (plus_records before) (plus_records after) now t became)
    ∙ none_broken (level_changed at (λ _. here) t) (put_within at here t w own)
