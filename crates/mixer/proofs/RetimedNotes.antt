-- The voices of a note with another start and another length.
use Rattle.std.proofs.Common.{◌≡◌, ℕ, Bool, true, false, cond, Option, Some, None, List, [], ◌∷◌, ◌++◌, map, slice_get}
use Rattle.std.proofs.Common.{refl, sym, ap, ◌∙◌}
use Rattle.std.specs.List.{find}
use Rattle.std.specs.Option.{option_map_or}
use Rattle.std.proofs.lemmas.List.{map-append}
use Rattle.bank_parts.specs.declared.parts.Head.{Head}
use Rattle.bank_parts.specs.declared.parts.GlobalZone.{GlobalZone}
use Rattle.bank_parts.specs.declared.parts.Zone.{Zone}
use Rattle.bank_parts.specs.declared.parts.ZoneOwner.{ZoneOwner}
use Rattle.bank_parts.specs.declared.parts.Sample.{Sample}
use Rattle.bank_parts.specs.declared.parts.Parts.{Parts}
use Rattle.script_notes.specs.Notes.{Numbers}
use Rattle.zone_select.specs.Ranges.{holds}
use Rattle.zone_select.specs.ZoneSettings.{ZoneSettings, zone_settings}
use Rattle.zone_select.specs.Amounts.{parameters_of}
use Rattle.zone_select.specs.Select.{Voice, voice_of, voices_of, sample_voices, instrument_voices, number_voices}
use Rattle.zone_select.specs.Select.{preset_voices, has_preset_numbers, selected}
use Rattle.voices.specs.Release.{voice_lasting}

-- the note from frame t on, lasting k frames
abbrev pub retimed : ℕ → ℕ → Numbers → Numbers
retimed t k n = record n { start = t; length = k }

in_option : {X : Type 0} (k : ℕ) (f g : X → List Voice) (o : Option X) → ((x : X) → g x ≡ map (voice_lasting k) (f x))
    → option_map_or g o [] ≡ map (voice_lasting k) (option_map_or f o [])
in_option k f g None h = refl
in_option k f g (Some x) h = h x

in_zones : (t k : ℕ) (n : Numbers) (f g : ZoneSettings → ℕ → List Voice) (global : GlobalZone) (zones : List Zone)
    → ((s : ZoneSettings) (number : ℕ) → g s number ≡ map (voice_lasting k) (f s number))
    → voices_of g (retimed t k n) global zones ≡ map (voice_lasting k) (voices_of f n global zones)
unfolding voices_of holds
in_zones t k n f g global [] h = refl
in_zones t k n f g global (z ∷ zones) h =
    let s : ZoneSettings = zone_settings global z in
    let P : Bool → Type 0 = λ c. cond c (g s z.target) [] ≡ map (voice_lasting k) (cond c (f s z.target) []) in
    let at : (c : Bool) → P c = elim [ true ↦ h s z.target | false ↦ refl ] in
    (λ j. at (holds n global z) j ++ in_zones t k n f g global zones h j)
    ∙ sym (map-append (voice_lasting k) (cond (holds n global z) (f s z.target) []) (voices_of f n global zones))

of_sample : (t k : ℕ) (n : Numbers) (v u : ZoneSettings) (s : Sample)
    → voice_of (retimed t k n) v u s ≡ voice_lasting k (voice_of n v u s)
unfolding voice_of parameters_of
of_sample t k n v u s = refl

of_samples : (b : Parts) (t k : ℕ) (n : Numbers) (u v : ZoneSettings) (number : ℕ)
    → sample_voices b (retimed t k n) u v number ≡ map (voice_lasting k) (sample_voices b n u v number)
unfolding sample_voices
of_samples b t k n u v number =
    in_option k (λ (s : Sample). voice_of n v u s ∷ []) (λ (s : Sample). voice_of (retimed t k n) v u s ∷ [])
    (slice_get b.samples number)
    (λ s. ap (λ (w : Voice). w ∷ []) (of_sample t k n v u s))

of_instruments : (b : Parts) (t k : ℕ) (n : Numbers) (u : ZoneSettings) (number : ℕ)
    → number_voices b (retimed t k n) u number ≡ map (voice_lasting k) (number_voices b n u number)
unfolding number_voices instrument_voices
of_instruments b t k n u number =
    in_option k (instrument_voices b n u) (instrument_voices b (retimed t k n) u) (slice_get b.instruments number)
    (λ (i : ZoneOwner (List ℕ)).
    in_zones t k n (sample_voices b n u) (sample_voices b (retimed t k n) u) i.global i.zones
    (λ v m. of_samples b t k n u v m))

-- only the length of the voices differs
pub selected_retimed : (b : Parts) (t k : ℕ) (n : Numbers)
    → selected b (retimed t k n) ≡ map (voice_lasting k) (selected b n)
unfolding selected preset_voices has_preset_numbers
selected_retimed b t k n =
    in_option k (preset_voices b n) (preset_voices b (retimed t k n)) (find (has_preset_numbers n) b.presets)
    (λ (p : ZoneOwner Head).
    in_zones t k n (number_voices b n) (number_voices b (retimed t k n)) p.global p.zones
    (λ u m. of_instruments b t k n u m))

-- the start doesn't matter
pub selected_anywhere : (b : Parts) (t : ℕ) (n : Numbers) → selected b (record n { start = t }) ≡ selected b n
selected_anywhere b t n = selected_retimed b t n.length n ∙ sym (selected_retimed b n.start n.length n)
