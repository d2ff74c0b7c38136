-- The counts of the first bags, continued by later bags.
use Rattle.std.specs.Prelude.{◌+◌, ◌^◌, ◌≤◌, List, not, filter, count_by, sum_by}
use Rattle.generators.specs.declared.level.Level.{Level}
use Rattle.bank_format.specs.Zones.{Bagged, has_target, dropped, kept, needs_repair}
use Rattle.sf_reader.specs.declared.zones.ZoneCounts.{ZoneCounts}

abbrev pub counts_with_later : Level → ZoneCounts → List Bagged → ZoneCounts
counts_with_later at counts bags = record {
  zones = counts.zones + count_by (λ x. not (has_target at x)) bags;
  gens = counts.gens + sum_by (λ (r : Bagged). dropped at r.gens) (filter (has_target at) bags);
  ranges = counts.ranges + sum_by (λ (r : Bagged). count_by needs_repair (kept at r.gens)) (filter (has_target at) bags);
}

-- adding the counts of another bag does not overflow 64 bits
pub record AreFew (counts : ZoneCounts) : Type 0 where
  pub zones : counts.zones ≤ 2 ^ 32
  pub gens : counts.gens ≤ 2 ^ 32
  pub ranges : counts.ranges ≤ 2 ^ 32
