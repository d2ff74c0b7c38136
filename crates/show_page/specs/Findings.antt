-- Findings, each at its member.
use Rattle.std.specs.Prelude.{ℕ, List, ◌++◌, codes, negsuc, Option, Some, None}
use Rattle.bank_changes.specs.declared.members.Place.{Place}
use Rattle.bank_changes.specs.declared.members.Place.TheVariants as place
use Rattle.show_findings.specs.declared.finding.Finding.{Finding}
use Rattle.show_findings.specs.declared.finding.Finding.TheVariants.{HiddenPreset, UnselectableZone, UnusedInstrument}
use Rattle.show_findings.specs.declared.finding.Finding.TheVariants.{UnusedSample, SilentKeys, OverriddenGenerator}
use Rattle.show_findings.specs.declared.finding.Finding.TheVariants.{OneSidedLink, ShortLoop, ClickingLoop, UnusualRate}
use Rattle.show_findings.specs.declared.finding.Finding.TheVariants.{ClippedSample, SilentSample, OffsetSample}
use Rattle.show_findings.specs.declared.finding.Finding.TheVariants.{EqualSample, OutsideRange}
use Rattle.show_findings.specs.declared.finding.Member.{Member}
use Rattle.show_findings.specs.declared.finding.Member.TheVariants as member
use Rattle.show_findings.specs.Kinds.{member_of}
use Rattle.show_findings.specs.Messages.{message}
use Rattle.show_page.specs.declared.json.Field.{Field}
use Rattle.show_page.specs.declared.json.Field.TheVariants.{Number, Signed}
use Rattle.show_page.specs.Json.{next_text}

-- the list of a finding up to its member's number
abbrev pub member_text : Member → List ℕ
member_text (member.Preset p) = codes "[\"preset\"" ++ next_text (Number p)
member_text (member.Instrument i) = codes "[\"inst\"" ++ next_text (Number i)
member_text (member.Sample s) = codes "[\"sample\"" ++ next_text (Number s)

abbrev pub zone_of_place : Place → Option ℕ
zone_of_place place.Global = None
zone_of_place (place.Zone k) = Some k

-- the zone that a finding is about, if it is about a numbered one
unfoldable pub zone_of : Finding → Option ℕ
zone_of (UnselectableZone o k) = Some k
zone_of (OutsideRange o at op amount nearest) = zone_of_place at
zone_of (HiddenPreset p q) = None
zone_of (UnusedInstrument i) = None
zone_of (UnusedSample s) = None
zone_of (SilentKeys p low high) = None
zone_of (OverriddenGenerator o op) = None
zone_of (OneSidedLink s t) = None
zone_of (ShortLoop s n) = None
zone_of (ClickingLoop s jump step) = None
zone_of (UnusualRate s rate) = None
zone_of (ClippedSample s n) = None
zone_of (SilentSample s) = None
zone_of (OffsetSample s mean) = None
zone_of (EqualSample s t) = None

-- its number, or -1
abbrev pub zone_field : Option ℕ → Field
zone_field None = Signed (negsuc 0)
zone_field (Some k) = Number k

-- a finding on a line of its own: its member, its zone, and its message, in which nothing has to be escaped
unfoldable pub finding_text : Finding → List ℕ
finding_text f =
    codes "\n,"
    ++ (member_text (member_of f)
    ++ (next_text (zone_field (zone_of f)) ++ (codes ",\"" ++ (message f ++ codes "\"]"))))
