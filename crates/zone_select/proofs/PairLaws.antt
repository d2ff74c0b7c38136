-- The voices of a note's zones are those of its pairs, in order.
use Rattle.std.proofs.Common.{◌≡◌, ℕ, ◌+◌, ◌-◌, true, false, cond, List, [], ◌∷◌, length, map, Option, Some, None}
use Rattle.std.proofs.Common.{slice_get, refl, ap, ◌∙◌, arith}
use Rattle.std.specs.List.{flat_map, find, filter, range_with_len}
use Rattle.std.specs.Option.{option_map_or, option_map, option_and_then}
use Rattle.std.proofs.lemmas.List.Folds.{flat_map-map}
use Rattle.script_notes.specs.Notes.{Numbers}
use Rattle.bank_parts.specs.declared.parts.Head.{Head}
use Rattle.bank_parts.specs.declared.parts.GlobalZone.{GlobalZone}
use Rattle.bank_parts.specs.declared.parts.Zone.{Zone}
use Rattle.bank_parts.specs.declared.parts.ZoneOwner.{ZoneOwner}
use Rattle.bank_parts.specs.declared.parts.Sample.{Sample}
use Rattle.bank_parts.specs.declared.parts.Parts.{Parts}
use Rattle.zone_select.specs.Ranges.{holds}
use Rattle.zone_select.specs.ZoneSettings.{ZoneSettings, zone_settings}
use Rattle.zone_select.specs.Select.{Voice, voice_of, voices_of, sample_voices, instrument_voices, number_voices}
use Rattle.zone_select.specs.Select.{preset_voices, has_preset_numbers, selected}
use Rattle.zone_select.specs.Pairs.{holds_at, held, held_inside, pairs_at, pairs, SelectedPair, zone_held}
use Rattle.zone_select.specs.Pairs.{pair_of_instrument, pair_of_zone, pair_of_preset, selected_pair, selected_pair_voice}
use Rattle.zone_select.specs.Pairs.{voice_by, listed}
use Rattle.zone_select.proofs.NumberLaws.{by_number, flat_map-flat_map}
use Rattle.zone_select.proofs.Given.{sample_given, instrument_given, number_given, preset_given, given}

-- zones that contain the note, by their numbers
held_by_number : {Z : Type 0} (g : ℕ → List Z) (h : Zone → List Z) (n : Numbers) (global : GlobalZone)
    (zones : List Zone)
    → ((k : ℕ) (z : Zone) → slice_get zones k ≡ Some z → holds n global z ≡ true → g k ≡ h z)
    → flat_map g (held n global zones 0) ≡ flat_map (λ (z : Zone). cond (holds n global z) (h z) []) zones
held_by_number g h n global zones e =
    ap (λ (c : ℕ). flat_map g (filter (holds_at n global zones) (range_with_len 0 c)))
    (let s : length zones - 0 ≡ length zones = omega arith in s)
    ∙ by_number (holds_at n global zones) (holds n global) g h 0 zones
    (λ k z f.
    ap (λ (j : ℕ). holds_at n global zones j) (let s : 0 + k ≡ k = omega arith in s)
    ∙ ap (λ (o : Option Zone). option_map_or (holds n global) o false) f)
    (λ k z f p. ap g (let s : 0 + k ≡ k = omega arith in s) ∙ e k z f p)

is_held : (n : Numbers) (global : GlobalZone) (zones : List Zone) (k : ℕ) (z : Zone) → slice_get zones k ≡ Some z
    → holds n global z ≡ true → zone_held n global zones k ≡ Some z
is_held n global zones k z e p = rw (e, p) refl

module _ {X : Type 0} (g : Option Voice → List X) where
  -- the images of a pair
  abbrev of_selected : Parts → Numbers → Option SelectedPair → List X
  of_selected b n o = g (option_and_then (selected_pair_voice b n) o)

  instrument_is : (b : Parts) (n : Numbers) (u : ZoneSettings) (i : ZoneOwner (List ℕ))
      → flat_map (λ l. of_selected b n (pair_of_instrument n u l i)) (held n i.global i.zones 0)
      ≡ instrument_given g b n u i
  unfolding instrument_given sample_given voices_of
  instrument_is b n u i =
      held_by_number (λ l. of_selected b n (pair_of_instrument n u l i))
      (λ (y : Zone). sample_given g b n u (zone_settings i.global y) y.target) n i.global i.zones
      (λ l y e p. ap
      (λ (o : Option Zone).
      of_selected b n
      (option_map
      (λ (y : Zone). let r : SelectedPair =
      record { instrument_zone = zone_settings i.global y; preset_zone = u; sample = y.target } in r)
      o))
      (is_held n i.global i.zones l y e p))

  zone_is : (b : Parts) (n : Numbers) (global : GlobalZone) (z : Zone)
      → flat_map (λ l. of_selected b n (pair_of_zone b n global l z)) (held_inside b n z.target 0)
      ≡ number_given g b n (zone_settings global z) z.target
  unfolding number_given
  zone_is b n global z =
      let u : ZoneSettings = zone_settings global z in
      elim (slice_get b.instruments z.target) as
      (λ (o : Option (ZoneOwner (List ℕ))).
      flat_map (λ l. of_selected b n (option_and_then (pair_of_instrument n u l) o))
      (option_map_or (λ (i : ZoneOwner (List ℕ)). held n i.global i.zones 0) o [])
      ≡ option_map_or (instrument_given g b n u) o []) [
        | None ↦ refl
        | Some i ↦ instrument_is b n u i
      ]

  preset_is : (b : Parts) (n : Numbers) (p : ZoneOwner Head)
      → flat_map (λ q. of_selected b n (pair_of_preset b n q p))
      (flat_map (pairs_at b n p.zones) (held n p.global p.zones 0))
      ≡ preset_given g b n p
  unfolding preset_given voices_of
  preset_is b n p =
      let f : ℕ × ℕ → List X = λ q. of_selected b n (pair_of_preset b n q p) in
      flat_map-flat_map f (pairs_at b n p.zones) (held n p.global p.zones 0)
      ∙ held_by_number (λ k. flat_map f (pairs_at b n p.zones k))
      (λ (z : Zone). number_given g b n (zone_settings p.global z) z.target) n p.global p.zones
      (λ k z e h. ap
      (λ (o : Option Zone).
      flat_map f
      (option_map_or (λ (z : Zone). map (λ (l : ℕ). let q : ℕ × ℕ = (k, l) in q) (held_inside b n z.target 0)) o
      []))
      e
      ∙ flat_map-map f (λ (l : ℕ). let q : ℕ × ℕ = (k, l) in q) (held_inside b n z.target 0)
      ∙ ap
      (λ (o : Option Zone).
      flat_map (λ l. of_selected b n (option_and_then (pair_of_zone b n p.global l) o)) (held_inside b n z.target 0))
      (is_held n p.global p.zones k z e h)
      ∙ zone_is b n p.global z)

  pub given_by_pairs : (b : Parts) (n : Numbers) → flat_map (λ q. g (voice_by b n q)) (pairs b n) ≡ given g b n
  unfolding pairs selected_pair given
  given_by_pairs b n =
      elim (find (has_preset_numbers n) b.presets) as
      (λ (o : Option (ZoneOwner Head)).
      flat_map (λ q. of_selected b n (option_and_then (pair_of_preset b n q) o))
      (option_map_or (λ (p : ZoneOwner Head). flat_map (pairs_at b n p.zones) (held n p.global p.zones 0))
      o [])
      ≡ option_map_or (preset_given g b n) o []) [
        | None ↦ refl
        | Some p ↦ preset_is b n p
      ]

-- ---- their voices

sample_is : (b : Parts) (n : Numbers) (u v : ZoneSettings) (number : ℕ)
    → sample_given listed b n u v number ≡ sample_voices b n u v number
unfolding sample_given sample_voices
sample_is b n u v number =
    elim (slice_get b.samples number) as
    (λ (o : Option Sample).
    listed (option_map (voice_of n v u) o) ≡ option_map_or (λ (s : Sample). voice_of n v u s ∷ []) o [])
    [ None ↦ refl | Some s ↦ refl ]

pub selected_is : (b : Parts) (n : Numbers) → given listed b n ≡ selected b n
unfolding given preset_given number_given instrument_given selected preset_voices number_voices instrument_voices
selected_is b n = λ j.
    option_map_or
    (λ (p : ZoneOwner Head).
    voices_of
    (λ (u : ZoneSettings) (t : ℕ).
    option_map_or
    (λ (i : ZoneOwner (List ℕ)).
    voices_of (λ (v : ZoneSettings) (k : ℕ). sample_is b n u v k j) n i.global i.zones)
    (slice_get b.instruments t) [])
    n p.global p.zones)
    (find (has_preset_numbers n) b.presets) []

pub selected_by_pairs : (b : Parts) (n : Numbers) → flat_map (λ q. listed (voice_by b n q)) (pairs b n) ≡ selected b n
selected_by_pairs b n = given_by_pairs listed b n ∙ selected_is b n

-- the voices of the pairs, or none if a sample doesn't exist
pub voices_by_pairs : (b : Parts) (n : Numbers) → map (voice_by b n) (pairs b n) ≡ given (λ o. o ∷ []) b n
voices_by_pairs b n = one_by_one (voice_by b n) (pairs b n) ∙ given_by_pairs (λ o. o ∷ []) b n
  where
    one_by_one : {X Y : Type 0} (f : X → Y) (xs : List X) → map f xs ≡ flat_map (λ x. f x ∷ []) xs
    one_by_one f [] = refl
    one_by_one f (x ∷ xs) = ap (λ ys. f x ∷ ys) (one_by_one f xs)
