-- Pairs of zones with the same voice, and notes with the same voices.
use Rattle.std.proofs.Common.{◌≡◌, ◌++◌, ℕ, List, ◌∷◌, Option, Some, None, refl, sym, ap, ◌∙◌, slice_get}
use Rattle.std.specs.List.{flat_map}
use Rattle.std.specs.Option.{option_map, option_and_then}
use Rattle.bank_parts.specs.declared.parts.Parts.{Parts}
use Rattle.bank_parts.specs.declared.parts.Sample.{Sample}
use Rattle.script_notes.specs.Notes.{Numbers}
use Rattle.zone_select.specs.declared.parameters.VoiceParameters.{VoiceParameters}
use Rattle.zone_select.specs.ZoneSettings.{ZoneSettings}
use Rattle.zone_select.specs.Select.{Voice, voice_of}
use Rattle.zone_select.specs.Pairs.{SelectedPair, selected_pair, selected_pair_voice, voice_by, pairs, listed}
use Rattle.zone_select.proofs.PairLaws.{selected_by_pairs}
use Rattle.plan_edits.specs.Playing.{HasSameVoices}

-- ---- the voice of a pair

-- the points of sample s
abbrev points_at : Parts → ℕ → Option (List ℕ)
points_at b s = option_map (λ (x : Sample). x.points) (slice_get b.samples s)

abbrev with : VoiceParameters → List ℕ → Voice
with v ps = record { points = ps; parameters = v }

of_sample : (n : Numbers) (x y : ZoneSettings) (v : VoiceParameters) (o : Option Sample)
    → option_map (λ (w : Voice). w.parameters) (option_map (voice_of n x y) o) ≡ Some v
    → option_map (voice_of n x y) o ≡ option_map (with v) (option_map (λ (a : Sample). a.points) o)
unfolding voice_of
of_sample n x y v None e = refl
of_sample n x y v (Some a) e =
    let same : (voice_of n x y a).parameters ≡ v = cc in
    λ i. Some (with (same i) a.points)

of_pair : (b : Parts) (n : Numbers) (s : ℕ) (v : VoiceParameters) (o : Option SelectedPair)
    → option_map (λ (c : SelectedPair). c.sample) o ≡ Some s
    → option_map (λ (w : Voice). w.parameters) (option_and_then (selected_pair_voice b n) o) ≡ Some v
    → option_and_then (selected_pair_voice b n) o ≡ option_map (with v) (points_at b s)
of_pair b n s v None e f = absurd cc
of_pair b n s v (Some p) e f =
    let same : p.sample ≡ s = cc in
    of_sample n p.instrument_zone p.preset_zone v (slice_get b.samples p.sample) f
    ∙ ap (λ k. option_map (with v) (points_at b k)) same

pub same_voice : (b c : Parts) (n : Numbers) (q r : ℕ × ℕ) (s t : ℕ) (v w : VoiceParameters)
    → Some s ≡ option_map (λ (c : SelectedPair). c.sample) (selected_pair b n q)
    → Some v ≡ option_map (λ (w : Voice). w.parameters) (voice_by b n q)
    → Some t ≡ option_map (λ (c : SelectedPair). c.sample) (selected_pair c n r)
    → Some w ≡ option_map (λ (w : Voice). w.parameters) (voice_by c n r)
    → v ≡ w → points_at c t ≡ points_at b s → voice_by b n q ≡ voice_by c n r
same_voice b c n q r s t v w pair voice other new same points =
    of_pair b n s v (selected_pair b n q) (sym pair) (sym voice)
    ∙ (λ i. option_map (with (same i)) (sym points i))
    ∙ sym (of_pair c n t w (selected_pair c n r) (sym other) (sym new))

-- ---- the voices of pairs in order

abbrev pub voices : Parts → Numbers → List (ℕ × ℕ) → List Voice
voices b n qs = flat_map (λ (q : ℕ × ℕ). listed (voice_by b n q)) qs

-- if the voices of the remaining pairs are the same, all are
abbrev pub AreSameIfRest : Parts → Parts → Numbers → List (ℕ × ℕ) → List (ℕ × ℕ) → Type 0
AreSameIfRest b c n old new = voices b n old ≡ voices c n new → HasSameVoices b c n

pub at_first : (b c : Parts) (n : Numbers) (old new : List (ℕ × ℕ)) → old ≡ pairs b n → new ≡ pairs c n
    → AreSameIfRest b c n old new
at_first b c n old new e f same =
    sym (ap (voices b n) e ∙ selected_by_pairs b n) ∙ same ∙ ap (voices c n) f ∙ selected_by_pairs c n

pub next_pairs : (b c : Parts) (n : Numbers) (old new xs ys : List (ℕ × ℕ)) (q r : ℕ × ℕ) → old ≡ q ∷ xs → new ≡ r ∷ ys
    → voice_by b n q ≡ voice_by c n r → AreSameIfRest b c n old new → AreSameIfRest b c n xs ys
next_pairs b c n old new xs ys q r e f voice h same =
    h (ap (voices b n) e ∙ (λ i. listed (voice i) ++ same i) ∙ sym (ap (voices c n) f))
