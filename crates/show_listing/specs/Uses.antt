-- How often instruments and samples are used: by zones that target them, and samples by other samples that link to
-- them.
use Rattle.std.specs.Prelude.{ℕ, ◌==◌, List, length, map, filter, Option, Some, None, if◌then◌else◌}
use Rattle.std.specs.List.{flat_map, filter_map, enumerate_from, range_with_len}
use Rattle.bank_parts.specs.declared.parts.Kind.{Kind}
use Rattle.bank_parts.specs.declared.parts.Kind.TheVariants.{Mono, Right, Left, Linked}
use Rattle.bank_parts.specs.declared.parts.Zone.{Zone}
use Rattle.bank_parts.specs.declared.parts.ZoneOwner.{ZoneOwner}
use Rattle.bank_parts.specs.declared.parts.Sample.{Sample}
use Rattle.bank_parts.specs.declared.parts.Parts.{Parts}

-- how often a number occurs in a list
abbrev pub times : ℕ → List ℕ → ℕ
times n numbers = length (filter (λ m. m == n) numbers)

-- how often each number below `members` occurs in a list
abbrev pub tally : ℕ → List ℕ → List ℕ
tally members numbers = map (λ n. times n numbers) (range_with_len 0 members)

-- the targets of all zones; a global zone has none
abbrev pub targets_in : {H : Type 0} → List (ZoneOwner H) → List ℕ
targets_in owners = flat_map (λ x. map (λ (z : Zone). z.target) x.zones) owners

abbrev pub other_than : ℕ → ℕ → Option ℕ
other_than n link = if link == n then None else Some link

-- the sample that sample n links to, unless it is itself
abbrev pub other_link : ℕ → Kind → Option ℕ
other_link n Mono = None
other_link n (Right link) = other_than n link
other_link n (Left link) = other_than n link
other_link n (Linked link) = other_than n link

-- the samples that other samples link to
abbrev pub links_in : List Sample → List ℕ
links_in samples = filter_map (λ (e : ℕ × Sample). other_link e.0 e.1.kind) (enumerate_from 0 samples)

-- how many zones target each instrument and each sample, and how many other samples link to each sample
pub record UsageCounts : Type 0 where
  pub instruments : List ℕ
  pub samples : List ℕ
  pub links : List ℕ

abbrev pub usage_counts_in : Parts → UsageCounts
usage_counts_in b = record {
  instruments = tally (length b.instruments) (targets_in b.presets);
  samples = tally (length b.samples) (targets_in b.instruments);
  links = tally (length b.samples) (links_in b.samples);
}
