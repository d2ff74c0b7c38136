-- Findings of single samples.
use Rattle.std.specs.Prelude.{ℕ, Bool, false, cond, ◌==◌, ◌&&◌, ◌||◌, ◌-◌, nat_lt, nat_le, List, length}
use Rattle.std.specs.Prelude.{Option, Some, None, slice_get}
use Rattle.std.specs.List.{filter_map}
use Rattle.std.specs.Option.{option_and_then, option_map_or}
use Rattle.bank_parts.specs.declared.parts.Kind.{Kind}
use Rattle.bank_parts.specs.declared.parts.Kind.TheVariants.{Mono, Right, Left, Linked}
use Rattle.bank_parts.specs.declared.parts.Sample.{Sample}
use Rattle.bank_parts.specs.declared.parts.Parts.{Parts}
use Rattle.show_findings.specs.declared.finding.Finding.{Finding}
use Rattle.show_findings.specs.declared.finding.Finding.TheVariants.{OneSidedLink, ShortLoop, UnusualRate}
use Rattle.show_findings.specs.declared.samples.SampleCheck.{SampleCheck}
use Rattle.show_findings.specs.declared.samples.SampleCheck.TheVariants as check
use Rattle.show_findings.specs.Numbers.{numbers}
use Rattle.bank_parts.specs.Links.{link_of}
use Rattle.show_findings.specs.Clicks.{clicking_loop}
use Rattle.show_findings.specs.Points.{clipped_sample, silent_sample, offset_sample}

-- what a test finds, sample by sample
abbrev pub in_samples : (ℕ → Sample → Option Finding) → Parts → List Finding
in_samples test b = filter_map (λ n. option_and_then (test n) (slice_get b.samples n)) (numbers (length b.samples))

-- ---- links

-- the sample that a left or right sample links to
abbrev pub side_link : Kind → Option ℕ
side_link Mono = None
side_link (Right link) = Some link
side_link (Left link) = Some link
side_link (Linked link) = None

-- sample t links to sample n
abbrev pub links_to : Parts → ℕ → ℕ → Bool
links_to b t n =
    option_map_or (λ (link : ℕ). link == n)
    (option_and_then (λ (s : Sample). link_of s.kind) (slice_get b.samples t)) false

-- a left or right sample links to another, which does not link back
abbrev pub one_sided_link : Parts → ℕ → Sample → Option Finding
one_sided_link b n s =
    option_and_then (λ (t : ℕ). cond (t == n || links_to b t n) None (Some (OneSidedLink n t))) (side_link s.kind)

unfoldable pub one_sided_links : Parts → List Finding
one_sided_links b = in_samples (one_sided_link b) b

-- ---- loops

-- a loop of fewer than 32 points
abbrev pub short_loop : ℕ → Sample → Option Finding
short_loop n s =
    option_and_then
    (λ (looped : ℕ × ℕ).
    cond (nat_lt (looped.1 - looped.0) 32) (Some (ShortLoop n (looped.1 - looped.0))) None) s.looped

unfoldable pub short_loops : Parts → List Finding
short_loops b = in_samples short_loop b

unfoldable pub clicking_loops : Parts → List Finding
clicking_loops b = in_samples clicking_loop b

-- ---- rates

-- from 400 to 192,000 frames per second
abbrev pub is_usual_rate : ℕ → Bool
is_usual_rate rate = nat_le 400 rate && nat_le rate 192000

abbrev pub unusual_rate : ℕ → Sample → Option Finding
unusual_rate n s = cond (is_usual_rate s.rate) None (Some (UnusualRate n s.rate))

unfoldable pub unusual_rates : Parts → List Finding
unusual_rates b = in_samples unusual_rate b

-- ---- points

unfoldable pub clipped_samples : Parts → List Finding
clipped_samples b = in_samples clipped_sample b

unfoldable pub silent_samples : Parts → List Finding
silent_samples b = in_samples silent_sample b

unfoldable pub offset_samples : Parts → List Finding
offset_samples b = in_samples offset_sample b

-- ---- the same by the check that finds them

abbrev pub sample_finding : SampleCheck → Parts → ℕ → Sample → Option Finding
sample_finding check.OneSidedLink b n s = one_sided_link b n s
sample_finding check.ShortLoop b n s = short_loop n s
sample_finding check.ClickingLoop b n s = clicking_loop n s
sample_finding check.UnusualRate b n s = unusual_rate n s
sample_finding check.ClippedSample b n s = clipped_sample n s
sample_finding check.SilentSample b n s = silent_sample n s
sample_finding check.OffsetSample b n s = offset_sample n s
