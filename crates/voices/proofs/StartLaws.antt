-- A pair that the note selects has a voice.
use Rattle.std.proofs.Common.{◌≡◌, ℕ, Option, Some, None, slice_get, ap, ◌∙◌}
use Rattle.std.specs.Option.{option_map, option_and_then}
use Rattle.script_notes.specs.Notes.{Numbers}
use Rattle.bank_parts.specs.declared.parts.Sample.{Sample}
use Rattle.bank_parts.specs.declared.parts.Parts.{Parts}
use Rattle.zone_select.specs.declared.parameters.VoiceParameters.{VoiceParameters}
use Rattle.zone_select.specs.Select.{Voice, voice_of}
use Rattle.zone_select.specs.Pairs.{SelectedPair, selected_pair, selected_pair_voice, voice_by}

of_sample : (n : Numbers) (c : SelectedPair) (p : VoiceParameters) (s : Sample) (o : Option Sample)
    → Some p ≡ option_map (λ (v : Voice). v.parameters) (option_map (voice_of n c.instrument_zone c.preset_zone) o)
    → Some s ≡ o
    → option_map (voice_of n c.instrument_zone c.preset_zone) o ≡ Some (record { points = s.points; parameters = p })
unfolding voice_of
of_sample n c p s None e f = absurd cc
of_sample n c p s (Some t) e f = cc

of_selected : (b : Parts) (n : Numbers) (k : ℕ) (p : VoiceParameters) (s : Sample) (o : Option SelectedPair)
    → Some k ≡ option_map (λ (c : SelectedPair). c.sample) o
    → Some p ≡ option_map (λ (v : Voice). v.parameters) (option_and_then (selected_pair_voice b n) o)
    → Some s ≡ slice_get b.samples k
    → option_and_then (selected_pair_voice b n) o ≡ Some (record { points = s.points; parameters = p })
of_selected b n k p s None h e f = absurd cc
of_selected b n k p s (Some c) h e f =
    of_sample n c p s (slice_get b.samples c.sample) e
    (let same : k ≡ c.sample = cc in f ∙ ap (slice_get b.samples) same)

-- the voice has the points of sample k, and the parameters
pub voice_is : (b : Parts) (n : Numbers) (q : ℕ × ℕ) (k : ℕ) (p : VoiceParameters) (s : Sample)
    → Some k ≡ option_map (λ (c : SelectedPair). c.sample) (selected_pair b n q)
    → Some p ≡ option_map (λ (v : Voice). v.parameters) (voice_by b n q) → Some s ≡ slice_get b.samples k
    → voice_by b n q ≡ Some (record { points = s.points; parameters = p })
voice_is b n q k p s h e f = of_selected b n k p s (selected_pair b n q) h e f
