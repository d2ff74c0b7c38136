-- The lines of findings.
use Rattle.std.specs.Prelude.{ℕ, List, [], ◌∷◌, ◌++◌, codes, slice_get, unwrap_or}
use Rattle.std.specs.Option.{option_map_or}
use Rattle.script_tokens.specs.Printing.{name_text}
use Rattle.bank_parts.specs.declared.parts.Head.{Head}
use Rattle.bank_parts.specs.declared.parts.Sample.{Sample}
use Rattle.bank_parts.specs.declared.parts.Parts.{Parts}
use Rattle.bank_changes.specs.declared.members.Place.TheVariants as place
use Rattle.bank_changes.specs.Members.{head_of, instrument_name_of}
use Rattle.show_findings.specs.declared.finding.Finding.{Finding}
use Rattle.show_findings.specs.declared.finding.Finding.TheVariants.{HiddenPreset, UnselectableZone, UnusedInstrument}
use Rattle.show_findings.specs.declared.finding.Finding.TheVariants.{UnusedSample, SilentKeys, OverriddenGenerator}
use Rattle.show_findings.specs.declared.finding.Finding.TheVariants.{OneSidedLink, ShortLoop, ClickingLoop, UnusualRate}
use Rattle.show_findings.specs.declared.finding.Finding.TheVariants.{ClippedSample, SilentSample, OffsetSample}
use Rattle.show_findings.specs.declared.finding.Finding.TheVariants.{EqualSample, OutsideRange}
use Rattle.show_findings.specs.declared.lines.Subject.{Subject}
use Rattle.show_findings.specs.declared.lines.Subject.TheVariants as subject
use Rattle.show_findings.specs.Texts.{numbered, owner_text, place_text}
use Rattle.show_findings.specs.Messages.{message}
use Rattle.show_findings.specs.Repairs.{repair}

-- the member or the place that a line begins with
unfoldable pub subject_of : Finding → Subject
subject_of (HiddenPreset p q) = subject.Preset p
subject_of (UnselectableZone o k) = subject.Place o (place.Zone k)
subject_of (UnusedInstrument i) = subject.Instrument i
subject_of (UnusedSample s) = subject.Sample s
subject_of (SilentKeys p low high) = subject.Preset p
subject_of (OverriddenGenerator o op) = subject.Place o place.Global
subject_of (OutsideRange o at op amount nearest) = subject.Place o at
subject_of (OneSidedLink s t) = subject.Sample s
subject_of (ShortLoop s n) = subject.Sample s
subject_of (ClickingLoop s jump step) = subject.Sample s
subject_of (UnusualRate s rate) = subject.Sample s
subject_of (ClippedSample s n) = subject.Sample s
subject_of (SilentSample s) = subject.Sample s
subject_of (OffsetSample s mean) = subject.Sample s
subject_of (EqualSample s t) = subject.Sample s

-- a member with its name
abbrev pub member_text : List ℕ → ℕ → List ℕ → List ℕ
member_text words n name = numbered words n ++ (32 ∷ name_text name)

abbrev pub subject_text : Parts → Subject → List ℕ
subject_text b (subject.Preset p) =
    member_text (codes "preset ") p (option_map_or (λ (h : Head). h.name) (head_of b p) [])
subject_text b (subject.Instrument i) = member_text (codes "inst ") i (unwrap_or (instrument_name_of b i) [])
subject_text b (subject.Sample s) =
    member_text (codes "sample ") s (option_map_or (λ (x : Sample). x.name) (slice_get b.samples s) [])
subject_text b (subject.Place o at) = owner_text o ++ place_text at

unfoldable pub finding_line : Parts → Finding → List ℕ
finding_line b f = subject_text b (subject_of f) ++ (message f ++ (repair b f ++ codes "\n"))
