-- The windows of headers over bags, and of bags over generators and modulators: their records are in range, and their
-- total length is at most that of the lists.
use Rattle.std.proofs.Common.{◌≡◌, ◌≤◌, ◌-◌, ℕ, List, length, map, None, arith}
use Rattle.std.specs.Prelude.{sum_by}
use Rattle.std.specs.List.{AllByRecursion}
use Rattle.modulators.specs.declared.modulator.Modulator.{Modulator}
use Rattle.modulators.specs.Modulators.{FitsModulator}
use Rattle.hydra_records.specs.declared.zone.Bag.{Bag}
use Rattle.hydra_records.specs.declared.zone.Generator.{Generator}
use Rattle.hydra_records.specs.Fits.{FitsGenerator}
use Rattle.bank_format.specs.FaultChecks.{first_fault}
use Rattle.bank_format.specs.Windows.{windows}
use Rattle.bank_format.specs.Zones.{Bagged}
use Rattle.bank_format.specs.Reading.{bagged, bags_in}
use Rattle.bank_format.specs.ReadChecks.{index_checks, bag_checks}
use Rattle.bank_format.proofs.CheckLaws.{both_none}
use Rattle.bank_format.proofs.ReadWindows.{AreIndexes, indexes_held, all_windows, lengths_within, sums_within}
use Rattle.bank_format.proofs.ReadWindows.{all_together, sum-left, sum-right}
use Rattle.bank_format.proofs.ReadHeaders.{FitsBagged, gens_in, mods_in}

abbrev pub AllFit : List Bagged → Type 0
AllFit bags = AllByRecursion FitsBagged bags

-- the total length of all windows of headers
pub record AreWithin (windows : List (List Bagged)) : Type 0 where
  pub zones : sum_by length windows ≤ 65535
  pub gens : sum_by (λ bags. sum_by gens_in bags) windows ≤ 65535
  pub mods : sum_by (λ bags. sum_by mods_in bags) windows ≤ 65535

-- the lists of one level have at most 65,536 records, terminals included
pub record AreFew (b : List Bag) (g : List Generator) (m : List Modulator) : Type 0 where
  pub bags : length b ≤ 65536
  pub gens : length g ≤ 65536
  pub mods : length m ≤ 65536

module _ (bags : List Bag) (gens : List Generator) (mods : List Modulator) where
  abbrev gen_indexes : List ℕ
  gen_indexes = map (λ (r : Bag). r.gens) bags

  abbrev mod_indexes : List ℕ
  mod_indexes = map (λ (r : Bag). r.mods) bags

  bags_fit : AllByRecursion FitsGenerator gens → AllByRecursion FitsModulator mods → AllFit (bags_in bags gens mods)
  unfolding bags_in
  bags_fit g m =
      all_together bagged (AllByRecursion FitsGenerator) (AllByRecursion FitsModulator) FitsBagged
      (λ x y p q. record { gens = p; mods = q })
      (windows gens gen_indexes) (windows mods mod_indexes) (all_windows FitsGenerator gens gen_indexes g)
      (all_windows FitsModulator mods mod_indexes m)

  pub windows_fit : (is : List ℕ) → AllByRecursion FitsGenerator gens → AllByRecursion FitsModulator mods
      → AllByRecursion AllFit (windows (bags_in bags gens mods) is)
  windows_fit is g m = all_windows FitsBagged (bags_in bags gens mods) is (bags_fit g m)

  gens_within : AreIndexes gen_indexes (length gens - 1) → sum_by gens_in (bags_in bags gens mods) ≤ length gens - 1
  unfolding bags_in
  gens_within v =
      let whole = lengths_within gens (length gens - 1) gen_indexes v in
      omega (
        arith,
        whole,
        sum-left bagged gens_in length (λ x y. omega arith) (windows gens gen_indexes) (windows mods mod_indexes),
      )

  mods_within : AreIndexes mod_indexes (length mods - 1) → sum_by mods_in (bags_in bags gens mods) ≤ length mods - 1
  unfolding bags_in
  mods_within v =
      let whole = lengths_within mods (length mods - 1) mod_indexes v in
      omega (
        arith,
        whole,
        sum-right bagged mods_in length (λ x y. omega arith) (windows gens gen_indexes) (windows mods mod_indexes),
      )

  pub windows_within : (is : List ℕ) → AreFew bags gens mods → AreIndexes is (length bags - 1)
      → first_fault (bag_checks bags (length gens) (length mods)) ≡ None
      → AreWithin (windows (bags_in bags gens mods) is)
  windows_within is few v e =
      let both = both_none (index_checks gen_indexes (length gens)) (index_checks mod_indexes (length mods)) e in
      let table = bags_in bags gens mods in
      let fb = few.bags in
      let fg = few.gens in
      let fm = few.mods in
      let lz = lengths_within table (length bags - 1) is v in
      let lg = gens_within (indexes_held gen_indexes (length gens) both.0) in
      let lm = mods_within (indexes_held mod_indexes (length mods) both.1) in
      let sg = sums_within gens_in table is v.rising in
      let sm = sums_within mods_in table is v.rising in
      record { zones = omega (arith, fb, lz); gens = omega (arith, fg, lg, sg); mods = omega (arith, fm, lm, sm) }
