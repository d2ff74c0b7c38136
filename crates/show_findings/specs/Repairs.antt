-- The edits that repair findings.
use Rattle.std.specs.Prelude.{ℕ, List, [], ◌++◌, decimal, codes, Option, Some, slice_get}
use Rattle.std.specs.Fmt.{signed_decimal}
use Rattle.std.specs.Option.{option_map}
use Rattle.bank_parts.specs.declared.parts.Kind.{Kind}
use Rattle.bank_parts.specs.declared.parts.Kind.TheVariants.{Mono, Right, Left}
use Rattle.bank_parts.specs.declared.parts.Sample.{Sample}
use Rattle.bank_parts.specs.declared.parts.Parts.{Parts}
use Rattle.bank_changes.specs.declared.members.Place.TheVariants as place
use Rattle.show_findings.specs.Texts.{numbered, owner_text, place_text}
use Rattle.show_findings.specs.declared.finding.Finding.{Finding}
use Rattle.show_findings.specs.declared.finding.Finding.TheVariants.{HiddenPreset, UnselectableZone, UnusedInstrument}
use Rattle.show_findings.specs.declared.finding.Finding.TheVariants.{UnusedSample, SilentKeys, OverriddenGenerator}
use Rattle.show_findings.specs.declared.finding.Finding.TheVariants.{OneSidedLink, ShortLoop, ClickingLoop, UnusualRate}
use Rattle.show_findings.specs.declared.finding.Finding.TheVariants.{ClippedSample, SilentSample, OffsetSample}
use Rattle.show_findings.specs.declared.finding.Finding.TheVariants.{EqualSample, OutsideRange}

-- a sample linked to another, as its right or left side
abbrev pub linking : ℕ → List ℕ → ℕ → List ℕ
linking s side t = codes "; repair: set-kind " ++ (decimal s ++ (side ++ decimal t))

abbrev pub mono_text : ℕ → List ℕ
mono_text s = codes "; repair: set-kind " ++ (decimal s ++ codes " mono")

-- sample t, which is mono, links back to sample s; where t links to another, s becomes mono
abbrev pub link_repair : ℕ → ℕ → Option Kind → Option Kind → List ℕ
link_repair s t (Some (Left u)) (Some Mono) = linking t (codes " right ") s
link_repair s t (Some (Right u)) (Some Mono) = linking t (codes " left ") s
link_repair s t kind other = mono_text s

abbrev pub kind_of_sample : Parts → ℕ → Option Kind
kind_of_sample b s = option_map (λ (x : Sample). x.kind) (slice_get b.samples s)

-- the edit that repairs a finding, if there is one
unfoldable pub repair : Parts → Finding → List ℕ
repair b (HiddenPreset p q) = numbered (codes "; repair: remove-preset ") p
repair b (UnselectableZone o k) = codes "; repair: remove-zone " ++ (owner_text o ++ place_text (place.Zone k))
repair b (UnusedInstrument i) = numbered (codes "; repair: remove-inst ") i
repair b (UnusedSample s) = numbered (codes "; repair: remove-sample ") s
repair b (SilentKeys p low high) = []
repair b (OverriddenGenerator o op) =
    codes "; repair: clear-gen " ++ (owner_text o ++ numbered (codes " global ") op)
repair b (OutsideRange o at op amount nearest) =
    codes "; repair: set-gen "
    ++ (owner_text o ++ (place_text at ++ (numbered (codes " ") op ++ (codes " " ++ signed_decimal nearest))))
repair b (OneSidedLink s t) = link_repair s t (kind_of_sample b s) (kind_of_sample b t)
repair b (ShortLoop s n) = []
repair b (ClickingLoop s jump step) = []
repair b (UnusualRate s rate) = []
repair b (ClippedSample s n) = []
repair b (SilentSample s) = []
repair b (OffsetSample s mean) = []
repair b (EqualSample s t) = []
