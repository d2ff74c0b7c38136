-- The result of reading the generator records of a bag.
use Rattle.std.proofs.Common.{◌≡◌, ◌≤◌, ◌+◌, ◌-◌, ℕ, List, length, Option, is_some, ap, ◌∙◌, arith}
use Rattle.std.specs.FinMap.{len}
use Rattle.generators.specs.Gens.{Gens, no_gens, set_in_order}
use Rattle.generators.specs.declared.level.Level.{Level}
use Rattle.hydra_records.specs.declared.zone.Generator.{Generator}
use Rattle.bank_format.specs.Zones.{target_of, kept, gens_of, gens_read, allowed_in, before_target, dropped}
use Rattle.sf_reader.specs.Gens.{entries_in, one_if, repaired_at, is_out_of_order, gens_read_of}
use Rattle.sf_reader.specs.declared.bag.GensRead.{GensRead}
use Rattle.sf_reader.proofs.KeptRecords.{set_kept, len_kept, length-kept}
use Rattle.sf_reader.proofs.RangeRepairs.{repaired_gens, repaired_count}

module _ (at : Level) (rs : List Generator) (raw : Gens) (target : Option ℕ)
    (raw_is : raw ≡ set_in_order no_gens (entries_in at rs)) (target_is : target ≡ target_of at rs) where
  raw_kept : raw ≡ gens_of (kept at rs)
  raw_kept = raw_is ∙ set_kept at rs

  used_is : len raw + one_if (is_some target) ≡ length (kept at rs) + one_if (is_some (target_of at rs))
  used_is =
      let gens : len raw ≡ length (kept at rs) = ap len raw_is ∙ len_kept at rs in
      let one : one_if (is_some target) ≡ one_if (is_some (target_of at rs)) =
      ap (λ (t : Option ℕ). one_if (is_some t)) target_is in
      omega (arith, gens, one)

  pub used_fits : len raw + one_if (is_some target) ≤ length rs
  used_fits = omega (arith, used_is, length-kept at rs)

  pub gens_are : (new : Gens) → new ≡ repaired_at 44 (repaired_at 43 raw) → new ≡ gens_read at rs
  gens_are new is = is ∙ ap (λ (m : Gens). repaired_at 44 (repaired_at 43 m)) raw_kept ∙ repaired_gens (kept at rs)

  pub all_read : (remaining ranges : ℕ) → remaining ≡ length rs - (len raw + one_if (is_some target))
      → ranges ≡ one_if (is_out_of_order 43 raw) + one_if (is_out_of_order 44 raw)
      → ◌≡◌ {A = GensRead} (record { target = target; dropped = remaining; ranges = ranges }) (gens_read_of at rs)
  all_read remaining ranges left_is ranges_is =
      let drops : remaining ≡ dropped at rs = left_is ∙ ap (λ (n : ℕ). length rs - n) used_is in
      let counted =
      ranges_is ∙ ap (λ (m : Gens). one_if (is_out_of_order 43 m) + one_if (is_out_of_order 44 m)) raw_kept
      ∙ repaired_count (allowed_in at (before_target at rs)) in
      λ i. record { target = target_is i; dropped = drops i; ranges = counted i }
