-- The facts of the points of each sample, and how many points it has.
use Rattle.std.proofs.Common.{◌≡◌, ◌<◌, ◌+◌, ◌^◌, ℕ, List, length, ap, ◌∙◌, arith, Some}
use Rattle.std.specs.Prelude.{slice_get}
use Rattle.std.specs.List.{flat_map}
use Rattle.std.specs.Option.{option_map}
use Rattle.std.proofs.lemmas.List.{append-nil}
use Rattle.std.proofs.lemmas.Option.{slice_get-map, slice_get_within, get_or_from_slice_get}
use Rattle.std.proofs.lemmas.List.Sums.{get_or-le-sum_by}
use Rattle.sf_base.specs.declared.limits.TheConstants.{ZERO_POINTS}
use Rattle.bank_parts.specs.declared.parts.Sample.{Sample}
use Rattle.bank_parts.specs.declared.parts.Parts.{Parts}
use Rattle.bank_parts.specs.Sound.{IsSound}
use Rattle.show_findings.specs.declared.samples.TheConstants.{CHECKS}
use Rattle.show_findings.specs.Scans.{facts_of, facts_of_samples}
use Rattle.show_findings.specs.Samples.{in_samples, sample_finding, one_sided_links, short_loops, clicking_loops}
use Rattle.show_findings.specs.Samples.{unusual_rates, clipped_samples, silent_samples, offset_samples}
use Rattle.show_findings.specs.Findings.{sample_findings}

-- a sample and its facts
pub facts_at : (samples : List Sample) (n : ℕ) (s : Sample) → slice_get samples n ≡ Some s
    → slice_get (facts_of_samples samples) n ≡ Some (facts_of s.points)
facts_at samples n s e =
    slice_get-map (λ (t : Sample). facts_of t.points) samples n ∙ ap (option_map (λ (t : Sample). facts_of t.points)) e

pub few_points : (b : Parts) → IsSound b → (n : ℕ) (s : Sample) → slice_get b.samples n ≡ Some s
    → length s.points < 2 ^ 32
few_points b sound n s e =
    let all = sound.valid.limits.points in
    let lt = slice_get_within b.samples n s e in
    let one = get_or-le-sum_by (λ (t : Sample). length t.points + ZERO_POINTS) b.samples n s lt in
    let is = ap (λ (t : Sample). length t.points) (get_or_from_slice_get b.samples n s s e) in
    omega (arith, all, one, is)

-- the checks find what single samples show
pub by_checks : (b : Parts) → flat_map (λ check. in_samples (sample_finding check b) b) CHECKS ≡ sample_findings b
unfolding one_sided_links short_loops clicking_loops unusual_rates clipped_samples silent_samples offset_samples
by_checks b = simp append-nil
