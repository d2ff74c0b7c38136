-- The kinds of findings, and the members that they are about.
use Rattle.std.specs.Prelude.{◌≡◌, ℕ, Bool, ◌==◌, List, ◌++◌}
use Rattle.std.specs.List.{AllByRecursion}
use Rattle.bank_changes.specs.declared.members.Owner.{Owner}
use Rattle.bank_changes.specs.declared.members.Owner.TheVariants as owner
use Rattle.show_findings.specs.declared.finding.Finding.{Finding}
use Rattle.show_findings.specs.declared.finding.Finding.TheVariants.{HiddenPreset, UnselectableZone, UnusedInstrument}
use Rattle.show_findings.specs.declared.finding.Finding.TheVariants.{UnusedSample, SilentKeys, OverriddenGenerator}
use Rattle.show_findings.specs.declared.finding.Finding.TheVariants.{OneSidedLink, ShortLoop, ClickingLoop, UnusualRate}
use Rattle.show_findings.specs.declared.finding.Finding.TheVariants.{ClippedSample, SilentSample, OffsetSample}
use Rattle.show_findings.specs.declared.finding.Finding.TheVariants.{EqualSample, OutsideRange}
use Rattle.show_findings.specs.declared.finding.Member.{Member}
use Rattle.show_findings.specs.declared.finding.Member.TheVariants as member

-- the index of the kind of a finding, in the order of their declaration
unfoldable pub kind_of : Finding → ℕ
kind_of (HiddenPreset p q) = 0
kind_of (UnselectableZone o k) = 1
kind_of (UnusedInstrument i) = 2
kind_of (UnusedSample s) = 3
kind_of (SilentKeys p low high) = 4
kind_of (OverriddenGenerator o op) = 5
kind_of (OutsideRange o at op amount nearest) = 6
kind_of (OneSidedLink s t) = 7
kind_of (ShortLoop s n) = 8
kind_of (ClickingLoop s jump step) = 9
kind_of (UnusualRate s rate) = 10
kind_of (ClippedSample s n) = 11
kind_of (SilentSample s) = 12
kind_of (OffsetSample s mean) = 13
kind_of (EqualSample s t) = 14

abbrev pub is_hidden_preset : Finding → Bool
is_hidden_preset f = kind_of f == 0

abbrev pub is_unselectable_zone : Finding → Bool
is_unselectable_zone f = kind_of f == 1

abbrev pub is_unused_instrument : Finding → Bool
is_unused_instrument f = kind_of f == 2

abbrev pub is_unused_sample : Finding → Bool
is_unused_sample f = kind_of f == 3

abbrev pub is_silent_keys : Finding → Bool
is_silent_keys f = kind_of f == 4

abbrev pub is_overridden_generator : Finding → Bool
is_overridden_generator f = kind_of f == 5

abbrev pub is_outside_range : Finding → Bool
is_outside_range f = kind_of f == 6

abbrev pub is_one_sided_link : Finding → Bool
is_one_sided_link f = kind_of f == 7

abbrev pub is_short_loop : Finding → Bool
is_short_loop f = kind_of f == 8

abbrev pub is_clicking_loop : Finding → Bool
is_clicking_loop f = kind_of f == 9

abbrev pub is_unusual_rate : Finding → Bool
is_unusual_rate f = kind_of f == 10

abbrev pub is_clipped_sample : Finding → Bool
is_clipped_sample f = kind_of f == 11

abbrev pub is_silent_sample : Finding → Bool
is_silent_sample f = kind_of f == 12

abbrev pub is_offset_sample : Finding → Bool
is_offset_sample f = kind_of f == 13

abbrev pub is_equal_sample : Finding → Bool
is_equal_sample f = kind_of f == 14

-- all findings are of kind n
abbrev pub OfKind : ℕ → List Finding → Type 0
OfKind n fs = AllByRecursion (λ f. kind_of f ≡ n) fs

-- only findings of kind n are added after those that were there
pub record AddsKind (n : ℕ) (old new : List Finding) : Type 0 where
  pub more : List Finding
  pub is : new ≡ old ++ more
  pub kind : OfKind n more

abbrev pub member_of_owner : Owner → Member
member_of_owner (owner.Preset p) = member.Preset p
member_of_owner (owner.Inst i) = member.Instrument i

-- the member that a finding is about; for a zone its owner
unfoldable pub member_of : Finding → Member
member_of (HiddenPreset p q) = member.Preset p
member_of (UnselectableZone o k) = member_of_owner o
member_of (UnusedInstrument i) = member.Instrument i
member_of (UnusedSample s) = member.Sample s
member_of (SilentKeys p low high) = member.Preset p
member_of (OverriddenGenerator o op) = member_of_owner o
member_of (OutsideRange o at op amount nearest) = member_of_owner o
member_of (OneSidedLink s t) = member.Sample s
member_of (ShortLoop s n) = member.Sample s
member_of (ClickingLoop s jump step) = member.Sample s
member_of (UnusualRate s rate) = member.Sample s
member_of (ClippedSample s n) = member.Sample s
member_of (SilentSample s) = member.Sample s
member_of (OffsetSample s mean) = member.Sample s
member_of (EqualSample s t) = member.Sample s
