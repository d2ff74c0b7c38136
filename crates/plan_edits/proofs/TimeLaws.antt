-- The voices of a note don't depend on its start, and on its length in nothing but their own.
use Rattle.std.proofs.Common.{◌≡◌, ◌==◌, ◌&&◌, ◌++◌, ◌||◌, ℕ, zero, suc, Bool, true, false, cond, List, [], ◌∷◌, Option, Some, None, refl, sym, ap, ◌∙◌, ◌≤◌, length, take, map, slice_get}
use Rattle.std.specs.List.{flat_map, find}
use Rattle.std.specs.Option.{option_map_or}
use Rattle.std.specs.List.Sorted.{IsPermutation}
use Rattle.std.proofs.lemmas.List.Sorted.{list_any-IsPermutation}
use Rattle.std.proofs.lemmas.List.{map-append, take_all}
use Rattle.std.proofs.lemmas.List.Folds.{list_any-append}
use Rattle.std.proofs.lemmas.Bool.{and_parts, or_cases, eqb-true}
use Rattle.std.proofs.Common.{⊎_elim}
use Rattle.bank_parts.specs.declared.parts.Head.{Head}
use Rattle.bank_parts.specs.declared.parts.GlobalZone.{GlobalZone}
use Rattle.bank_parts.specs.declared.parts.Zone.{Zone}
use Rattle.bank_parts.specs.declared.parts.ZoneOwner.{ZoneOwner}
use Rattle.bank_parts.specs.declared.parts.Sample.{Sample}
use Rattle.bank_parts.specs.declared.parts.Parts.{Parts}
use Rattle.script_notes.specs.Notes.{Numbers}
use Rattle.zone_select.specs.Ranges.{holds}
use Rattle.zone_select.specs.ZoneSettings.{ZoneSettings, zone_settings}
use Rattle.zone_select.specs.Amounts.{parameters_of}
use Rattle.zone_select.specs.Select.{Voice, voice_of, voices_of, sample_voices, instrument_voices, number_voices}
use Rattle.zone_select.specs.Select.{preset_voices, has_preset_numbers, selected}
use Rattle.plan_edits.specs.Playing.{is_like, is_among, HasSameVoices, HaveSameVoices}

-- a voice with another length
abbrev lasting : ℕ → Voice → Voice
lasting l v = record { points = v.points; parameters = record v.parameters { length = l } }

mapped_or : {X V : Type 0} (f : V → V) (g h : X → List V) → ((x : X) → g x ≡ map f (h x)) → (o : Option X)
    → option_map_or g o [] ≡ map f (option_map_or h o [])
mapped_or f g h e None = refl
mapped_or f g h e (Some x) = e x

mapped_cond : {V : Type 0} (f : V → V) (t : Bool) (xs ys : List V) → xs ≡ map f ys → cond t xs [] ≡ map f (cond t ys [])
mapped_cond f true xs ys e = e
mapped_cond f false xs ys e = refl

mapped_all : {X V : Type 0} (f : V → V) (g h : X → List V) → ((x : X) → g x ≡ map f (h x)) → (xs : List X)
    → flat_map g xs ≡ map f (flat_map h xs)
mapped_all f g h e [] = refl
mapped_all f g h e (x ∷ xs) =
    (λ i. e x i ++ mapped_all f g h e xs i) ∙ sym (map-append f (h x) (flat_map h xs))

-- ---- a note at another time

module _ (b : Parts) (s l : ℕ) (n : Numbers) where
  abbrev other : Numbers
  other = record n { start = s; length = l }

  same_voice : (u v : ZoneSettings) (x : Sample) → voice_of other v u x ≡ lasting l (voice_of n v u x)
  unfolding voice_of parameters_of
  same_voice u v x = refl

  of_zones : (f g : ZoneSettings → ℕ → List Voice) → ((u : ZoneSettings) (t : ℕ) → f u t ≡ map (lasting l) (g u t))
      → (a : GlobalZone) (zs : List Zone) → voices_of f other a zs ≡ map (lasting l) (voices_of g n a zs)
  unfolding voices_of holds
  of_zones f g e a zs =
      mapped_all (lasting l) (λ (z : Zone). cond (holds other a z) (f (zone_settings a z) z.target) [])
      (λ (z : Zone). cond (holds n a z) (g (zone_settings a z) z.target) [])
      (λ z.
      mapped_cond (lasting l) (holds n a z) (f (zone_settings a z) z.target) (g (zone_settings a z) z.target)
      (e (zone_settings a z) z.target))
      zs

  of_sample : (u v : ZoneSettings) (t : ℕ) → sample_voices b other u v t ≡ map (lasting l) (sample_voices b n u v t)
  unfolding sample_voices
  of_sample u v t =
      mapped_or (lasting l) (λ (x : Sample). voice_of other v u x ∷ []) (λ (x : Sample). voice_of n v u x ∷ [])
      (λ x i. same_voice u v x i ∷ []) (slice_get b.samples t)

  of_instrument : (u : ZoneSettings) (x : ZoneOwner (List ℕ))
      → instrument_voices b other u x ≡ map (lasting l) (instrument_voices b n u x)
  unfolding instrument_voices
  of_instrument u x = of_zones (sample_voices b other u) (sample_voices b n u) (of_sample u) x.global x.zones

  of_number : (u : ZoneSettings) (t : ℕ) → number_voices b other u t ≡ map (lasting l) (number_voices b n u t)
  unfolding number_voices
  of_number u t =
      mapped_or (lasting l) (instrument_voices b other u) (instrument_voices b n u) (of_instrument u) (slice_get b.instruments t)

  of_preset : (p : ZoneOwner Head) → preset_voices b other p ≡ map (lasting l) (preset_voices b n p)
  unfolding preset_voices
  of_preset p = of_zones (number_voices b other) (number_voices b n) of_number p.global p.zones

  pub selected_later : selected b other ≡ map (lasting l) (selected b n)
  unfolding selected has_preset_numbers
  selected_later =
      mapped_or (lasting l) (preset_voices b other) (preset_voices b n) of_preset (find (has_preset_numbers n) b.presets)

-- ---- notes that are alike

-- a note that is like another is that note at another time
at_another_time : (n m : Numbers) → is_like n m ≡ true → n ≡ record m { start = n.start; length = n.length }
at_another_time n m e =
    let third = and_parts (n.bank == m.bank && n.number == m.number && n.key == m.key) (n.velocity == m.velocity) e in
    let second = and_parts (n.bank == m.bank && n.number == m.number) (n.key == m.key) third.0 in
    let first = and_parts (n.bank == m.bank) (n.number == m.number) second.0 in
    λ i. record {
      start = n.start;
      length = n.length;
      bank = eqb-true n.bank m.bank first.0 i;
      number = eqb-true n.number m.number first.1 i;
      key = eqb-true n.key m.key second.1 i;
      velocity = eqb-true n.velocity m.velocity third.1 i;
    }

pub alike_too : (b c : Parts) (n m : Numbers) → is_like n m ≡ true → HasSameVoices b c m → HasSameVoices b c n
alike_too b c n m like same =
    let e = at_another_time n m like in
    ap (selected b) e ∙ selected_later b n.start n.length m ∙ ap (map (lasting n.length)) same
    ∙ sym (ap (selected c) e ∙ selected_later c n.start n.length m)

pub all_alike : (notes : List Numbers) (b c : Parts) → HaveSameVoices notes b c → (n : Numbers) → is_among notes n ≡ true
    → HasSameVoices b c n
all_alike [] b c h n e = absurd cc
all_alike (m ∷ ms) b c h n e =
    ⊎_elim (λ like. alike_too b c n m like (h zero m refl)) (λ rest. all_alike ms b c (λ i k at. h (suc i) k at) n rest)
    (or_cases (is_like n m) (is_among ms n) e)

-- ---- lists with like notes

-- notes that are alike are in the same lists
among_too : (xs : List Numbers) (n m : Numbers) → is_like n m ≡ true → is_among xs n ≡ is_among xs m
among_too xs n m like = ap (is_among xs) (at_another_time n m like)

or_false : (t : Bool) → t ≡ (t || false)
or_false true = refl
or_false false = refl

in_turn : (t u : Bool) → (u ≡ true → t ≡ true) → t ≡ (t || u)
in_turn true u h = refl
in_turn false true h = h refl
in_turn false false h = refl

-- a note is added only if the list has none that is like it
pub is_there : (xs : List Numbers) (m : Numbers) → is_among xs m ≡ true → (n : Numbers)
    → is_among xs n ≡ (is_among xs n || is_like n m)
is_there xs m h n = in_turn (is_among xs n) (is_like n m) (λ like. among_too xs n m like ∙ h)

pub is_pushed : (xs ys : List Numbers) (m : Numbers) → ys ≡ xs ++ m ∷ [] → (n : Numbers)
    → is_among ys n ≡ (is_among xs n || is_like n m)
is_pushed xs ys m e n =
    ap (λ zs. is_among zs n) e ∙ list_any-append (is_like n) xs (m ∷ []) ∙ ap (λ t. is_among xs n || t) (sym (or_false (is_like n m)))

-- all notes of a sorted list
pub all_taken : (ds sorted made notes : List Numbers) (i : ℕ) (n : Numbers) → is_among ds n ≡ is_among (take i sorted) n
    → length sorted ≤ i → IsPermutation made sorted → made ≡ notes → is_among ds n ≡ is_among notes n
all_taken ds sorted made notes i n e all moved same =
    e ∙ ap (λ xs. is_among xs n) (take_all i sorted all) ∙ sym (list_any-IsPermutation (is_like n) made sorted moved)
    ∙ ap (λ xs. is_among xs n) same
