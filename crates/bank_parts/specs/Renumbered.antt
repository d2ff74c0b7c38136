-- Targets and links after a change of the list whose members they number.
use Rattle.std.specs.Prelude.{◌≡◌, ◌<◌, ◌^◌, ℕ, false, map, All, refl}
use Rattle.base_numbered_lists.specs.declared.renumbering.Renumbering.{Renumbering}
use Rattle.base_numbered_lists.specs.Renumbered.{renumbered}
use Rattle.bank_parts.specs.declared.parts.Kind.{Kind}
use Rattle.bank_parts.specs.declared.parts.Kind.TheVariants.{Mono, Right, Left, Linked}
use Rattle.bank_parts.specs.declared.parts.Zone.{Zone}
use Rattle.bank_parts.specs.declared.parts.ZoneOwner.{ZoneOwner}
use Rattle.bank_parts.specs.declared.parts.Sample.{Sample}
use Rattle.bank_parts.specs.declared.parts.Parts.{Parts}
use Rattle.bank_parts.specs.Links.{has_link}

-- ---- f of each number in place of it

abbrev pub kind_with : (ℕ → ℕ) → Kind → Kind
kind_with f Mono = Mono
kind_with f (Right link) = Right (f link)
kind_with f (Left link) = Left (f link)
kind_with f (Linked link) = Linked (f link)

abbrev pub sample_with : (ℕ → ℕ) → Sample → Sample
sample_with f s = record s { kind = kind_with f s.kind }

abbrev pub zone_with : (ℕ → ℕ) → Zone → Zone
zone_with f z = record z { target = f z.target }

abbrev pub owner_with : {H : Type 0} → (ℕ → ℕ) → ZoneOwner H → ZoneOwner H
owner_with f x = record x { zones = map (zone_with f) x.zones }

-- ---- numbers after one change of the list

-- the link of a sample, renumbered
abbrev pub kind_renumbered : Renumbering → Kind → Kind
kind_renumbered by = kind_with (renumbered by)

-- a sample with its link renumbered
abbrev pub sample_renumbered : Renumbering → Sample → Sample
sample_renumbered by = sample_with (renumbered by)

-- a sample without a link does not change
kind_stays : (by : Renumbering) (kind : Kind) → has_link kind ≡ false → kind_renumbered by kind ≡ kind
kind_stays by Mono unlinked = refl
kind_stays by (Right link) unlinked = cc
kind_stays by (Left link) unlinked = cc
kind_stays by (Linked link) unlinked = cc

pub unlinked_stays : (by : Renumbering) (s : Sample) → has_link s.kind ≡ false → sample_renumbered by s ≡ s
unlinked_stays by s unlinked = λ i. record s { kind = kind_stays by s.kind unlinked i }

-- a zone with its target renumbered
abbrev pub zone_renumbered : Renumbering → Zone → Zone
zone_renumbered by = zone_with (renumbered by)

-- a preset or an instrument with all its targets renumbered
abbrev pub owner_renumbered : {H : Type 0} → Renumbering → ZoneOwner H → ZoneOwner H
owner_renumbered by = owner_with (renumbered by)

-- each renumbered target fits 16 bits
abbrev pub CanRenumberOwner : {H : Type 0} → Renumbering → ZoneOwner H → Type 0
CanRenumberOwner by x = All (λ (z : Zone). renumbered by z.target < 2 ^ 16) x.zones

-- the bank with all numbers of instruments renumbered
abbrev pub instruments_renumbered : Renumbering → Parts → Parts
instruments_renumbered by b = record b { presets = map (owner_renumbered by) b.presets }

-- the bank with all numbers of samples renumbered
abbrev pub samples_renumbered : Renumbering → Parts → Parts
samples_renumbered by b =
    record b
    { samples = map (sample_renumbered by) b.samples; instruments = map (owner_renumbered by) b.instruments }
