-- What lines say of findings.
use Rattle.std.specs.Prelude.{ℕ, List, [], ◌∷◌, ◌++◌, decimal, codes}
use Rattle.std.specs.Int.{w16, cast_signed}
use Rattle.std.specs.Fmt.{signed_decimal}
use Rattle.std.specs.List.{concat}
use Rattle.show_findings.specs.declared.messages.Amount.{Amount}
use Rattle.show_findings.specs.declared.messages.Amount.TheVariants.{Nothing, Number, Signed}
use Rattle.show_findings.specs.declared.messages.Phrase.{Phrase}
use Rattle.show_findings.specs.declared.finding.Finding.{Finding}
use Rattle.show_findings.specs.declared.finding.Finding.TheVariants.{HiddenPreset, UnselectableZone, UnusedInstrument}
use Rattle.show_findings.specs.declared.finding.Finding.TheVariants.{UnusedSample, SilentKeys, OverriddenGenerator}
use Rattle.show_findings.specs.declared.finding.Finding.TheVariants.{OneSidedLink, ShortLoop, ClickingLoop, UnusualRate}
use Rattle.show_findings.specs.declared.finding.Finding.TheVariants.{ClippedSample, SilentSample, OffsetSample}
use Rattle.show_findings.specs.declared.finding.Finding.TheVariants.{EqualSample, OutsideRange}

abbrev pub amount_text : Amount → List ℕ
amount_text Nothing = []
amount_text (Number n) = decimal n
amount_text (Signed z) = signed_decimal z

abbrev pub phrase_text : Phrase → List ℕ
phrase_text p = p.start.now ++ (amount_text p.first ++ (p.middle.now ++ (amount_text p.second ++ p.end.now)))

-- what is found
unfoldable pub message : Finding → List ℕ
message (HiddenPreset p q) = concat (
    codes ": hidden by preset " ∷ decimal q ∷ codes ", which has the same bank and number" ∷ [])
message (UnselectableZone o k) = codes ": no note selects this zone"
message (UnusedInstrument i) = codes ": unused"
message (UnusedSample s) = codes ": unused"
message (SilentKeys p low high) = concat (
    codes ": notes with the keys from " ∷ decimal low ∷ codes " to " ∷ decimal high ∷ codes " select nothing" ∷ [])
message (OverriddenGenerator o op) = concat (
    codes ": generator " ∷ decimal op ∷ codes " is set by each zone too" ∷ [])
message (OutsideRange o at op amount nearest) = concat (
    codes ": generator " ∷ decimal op ∷ codes " is outside its range: " ∷ signed_decimal (cast_signed w16 amount)
    ∷ [])
message (OneSidedLink s t) = concat (
    codes ": linked with sample " ∷ decimal t ∷ codes ", which is not linked with it" ∷ [])
message (ShortLoop s n) = concat (codes ": short loop (points: " ∷ decimal n ∷ codes ")" ∷ [])
message (ClickingLoop s jump step) = concat (
    codes ": the loop may click, since it jumps by " ∷ decimal jump ∷ codes ", and by at most " ∷ decimal step
    ∷ codes " around it"
    ∷ [])
message (UnusualRate s rate) = concat (codes ": unusual rate " ∷ decimal rate ∷ [])
message (ClippedSample s n) = concat (codes ": clipped (points: " ∷ decimal n ∷ codes ")" ∷ [])
message (SilentSample s) = codes ": all points are 0"
message (OffsetSample s mean) = concat (codes ": the mean of its points is " ∷ signed_decimal mean ∷ [])
message (EqualSample s t) = concat (
    codes ": equal to sample " ∷ decimal t ∷ codes ", but for name and link" ∷ [])
