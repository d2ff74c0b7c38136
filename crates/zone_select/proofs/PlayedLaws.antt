-- A pair is among the pairs of a note exactly if it has a voice.
use Rattle.std.proofs.Common.{◌≡◌, ◌↔◌, ◌<◌, ◌-◌, ℕ, Bool, true, false, true≢false, cond, List, [], map, length}
use Rattle.std.proofs.Common.{Option, Some, None, IsSome, slice_get, refl, sym, ap, subst, ◌∙◌, arith}
use Rattle.std.specs.Prelude.{is_some}
use Rattle.std.specs.List.{Contains, flat_map, find, range_with_len}
use Rattle.std.specs.Option.{option_map, option_map_or, option_and_then}
use Rattle.base_numbered_lists.proofs.Lists.{slice_get-within, slice_get-found}
use Rattle.script_notes.specs.Notes.{Numbers}
use Rattle.bank_parts.specs.declared.parts.Head.{Head}
use Rattle.bank_parts.specs.declared.parts.GlobalZone.{GlobalZone}
use Rattle.bank_parts.specs.declared.parts.Zone.{Zone}
use Rattle.bank_parts.specs.declared.parts.ZoneOwner.{ZoneOwner}
use Rattle.bank_parts.specs.declared.parts.Parts.{Parts}
use Rattle.bank_parts.specs.Valid.{IsValid, IsZone, IsInstrument}
use Rattle.generators.specs.declared.level.Level.TheVariants as level
use Rattle.bank_changes.proofs.Changes.{all_found}
use Rattle.zone_select.specs.Ranges.{holds}
use Rattle.zone_select.specs.ZoneSettings.{ZoneSettings, zone_settings}
use Rattle.zone_select.specs.Select.{has_preset_numbers}
use Rattle.zone_select.specs.Pairs.{holds_at, held, held_inside, pairs_at, pairs, SelectedPair, zone_held}
use Rattle.zone_select.specs.Pairs.{pair_of_instrument, pair_of_zone, pair_of_preset, selected_pair, selected_pair_voice}
use Rattle.zone_select.specs.Played.{PairsAreSelected, PairsHaveVoices}
use Rattle.zone_select.proofs.Listed.{IsIn, in_of_contains, contains_of_in, in_filter, filter_in, in_row}
use Rattle.zone_select.proofs.Listed.{in_flat_map, flat_map_in, in_map, map_in}

-- ---- options

some_of : {X : Type 0} (o : Option X) → IsSome o → (x : X) × (o ≡ Some x)
some_of None h = absurd (true≢false (sym h))
some_of (Some x) h = (x, refl)

-- ---- a zone that contains the note

record Held (n : Numbers) (global : GlobalZone) (zones : List Zone) (k : ℕ) : Type 0 where
  zone : Zone
  there : slice_get zones k ≡ Some zone
  holds : holds n global zone ≡ true

module _ (n : Numbers) (global : GlobalZone) (zones : List Zone) (k : ℕ) where
  held_at : holds_at n global zones k ≡ true → Held n global zones k
  held_at = from (slice_get zones k) refl
    where
      from : (o : Option Zone) → slice_get zones k ≡ o → option_map_or (holds n global) o false ≡ true
          → Held n global zones k
      from None e h = absurd (true≢false (sym h))
      from (Some z) e h = record { zone = z; there = e; holds = h }

  in_held : IsIn k (held n global zones 0) → Held n global zones k
  in_held h = held_at (in_filter k (holds_at n global zones) (range_with_len 0 (length zones - 0)) h).1

  held_in : Held n global zones k → IsIn k (held n global zones 0)
  held_in h =
      let lt = slice_get-within zones k h.zone h.there in
      filter_in k (holds_at n global zones) (range_with_len 0 (length zones - 0))
      (in_row 0 (length zones - 0) k (omega arith) (omega (arith, lt)))
      (ap (λ o. option_map_or (holds n global) o false) h.there ∙ h.holds)

  is_held : (h : Held n global zones k) → zone_held n global zones k ≡ Some h.zone
  is_held h = let e = h.there in let t = h.holds in rw (e, t) refl

  held_zone : (z : Zone) → zone_held n global zones k ≡ Some z
      → (slice_get zones k ≡ Some z) × (holds n global z ≡ true)
  held_zone z = from (slice_get zones k)
    where
      tested : (y : Zone) (t : Bool) → holds n global y ≡ t → cond t (Some y) None ≡ Some z
          → (Some y ≡ Some z) × (holds n global z ≡ true)
      tested y true e h = (h, let same : y ≡ z = cc in ap (holds n global) (sym same) ∙ e)
      tested y false e h = cc

      from : (o : Option Zone) → option_and_then (λ (z : Zone). cond (holds n global z) (Some z) None) o ≡ Some z
          → (o ≡ Some z) × (holds n global z ≡ true)
      from None h = cc
      from (Some y) h = tested y (holds n global y) refl h

  held_some : IsSome (zone_held n global zones k) → Held n global zones k
  held_some h =
      let z = some_of (zone_held n global zones k) h in
      let f = held_zone z.0 z.1 in record { zone = z.0; there = f.0; holds = f.1 }

-- ---- zones of an instrument

module _ (n : Numbers) (u : ZoneSettings) (l : ℕ) (i : ZoneOwner (List ℕ)) where
  some_inside : IsIn l (held n i.global i.zones 0) → IsSome (pair_of_instrument n u l i)
  some_inside h = let z = in_held n i.global i.zones l h in let e = is_held n i.global i.zones l z in rw e refl

  found_inside : IsSome (pair_of_instrument n u l i) → IsIn l (held n i.global i.zones 0)
  found_inside = from (zone_held n i.global i.zones l) refl
    where
      from : (o : Option Zone) → zone_held n i.global i.zones l ≡ o
          → IsSome
          (option_map
          (λ (y : Zone). let c : SelectedPair =
          record { instrument_zone = zone_settings i.global y; preset_zone = u; sample = y.target } in c)
          o)
          → IsIn l (held n i.global i.zones 0)
      from None e h = absurd (true≢false (sym h))
      from (Some z) e h = held_in n i.global i.zones l (held_some n i.global i.zones l (ap is_some e))

-- the zones of the instrument of a preset's zone
module _ (b : Parts) (n : Numbers) (global : GlobalZone) (l : ℕ) (z : Zone) where
  zone_some : IsIn l (held_inside b n z.target 0) → IsSome (pair_of_zone b n global l z)
  zone_some =
      elim (slice_get b.instruments z.target) as
      (λ (o : Option (ZoneOwner (List ℕ))).
      IsIn l (option_map_or (λ (i : ZoneOwner (List ℕ)). held n i.global i.zones 0) o [])
      → IsSome (option_and_then (pair_of_instrument n (zone_settings global z) l) o)) [
        | None ↦ λ h. absurd h
        | Some i ↦ some_inside n (zone_settings global z) l i
      ]

  zone_in : IsSome (pair_of_zone b n global l z) → IsIn l (held_inside b n z.target 0)
  zone_in =
      elim (slice_get b.instruments z.target) as
      (λ (o : Option (ZoneOwner (List ℕ))).
      IsSome (option_and_then (pair_of_instrument n (zone_settings global z) l) o)
      → IsIn l (option_map_or (λ (i : ZoneOwner (List ℕ)). held n i.global i.zones 0) o [])) [
        | None ↦ λ h. absurd (true≢false (sym h))
        | Some i ↦ found_inside n (zone_settings global z) l i
      ]

-- ---- the pairs of a preset

abbrev paired : ℕ → ℕ → ℕ × ℕ
paired k l = let q : ℕ × ℕ = (k, l) in q

module _ (b : Parts) (n : Numbers) (q : ℕ × ℕ) (p : ZoneOwner Head) where
  preset_some : IsIn q (flat_map (pairs_at b n p.zones) (held n p.global p.zones 0)) → IsSome (pair_of_preset b n q p)
  preset_some h =
      let g = in_flat_map (pairs_at b n p.zones) q (held n p.global p.zones 0) h in
      let z = in_held n p.global p.zones g.member g.there in
      let gives : IsIn q (map (paired g.member) (held_inside b n z.zone.target 0)) =
      subst
      (λ (o : Option Zone).
      IsIn q (option_map_or (λ (z : Zone). map (paired g.member) (held_inside b n z.target 0)) o []))
      z.there g.gives in
      let s = in_map (paired g.member) q (held_inside b n z.zone.target 0) gives in
      let first : g.member ≡ q.0 = ap (λ (q : ℕ × ℕ). q.0) s.maps_to in
      let second : s.member ≡ q.1 = ap (λ (q : ℕ × ℕ). q.1) s.maps_to in
      let e = is_held n p.global p.zones g.member z in
      subst (λ (k : ℕ). IsSome (option_and_then (pair_of_zone b n p.global q.1) (zone_held n p.global p.zones k))) first
      (subst (λ (o : Option Zone). IsSome (option_and_then (pair_of_zone b n p.global q.1) o)) (sym e)
      (subst (λ (l : ℕ). IsSome (pair_of_zone b n p.global l z.zone)) second
      (zone_some b n p.global s.member z.zone s.there)))

  preset_in : IsSome (pair_of_preset b n q p) → IsIn q (flat_map (pairs_at b n p.zones) (held n p.global p.zones 0))
  preset_in = from (zone_held n p.global p.zones q.0) refl
    where
      from : (o : Option Zone) → zone_held n p.global p.zones q.0 ≡ o
          → IsSome (option_and_then (pair_of_zone b n p.global q.1) o)
          → IsIn q (flat_map (pairs_at b n p.zones) (held n p.global p.zones 0))
      from None e h = absurd (true≢false (sym h))
      from (Some z) e h =
          let f = held_zone n p.global p.zones q.0 z e in
          flat_map_in (pairs_at b n p.zones) q (held n p.global p.zones 0) q.0
          (held_in n p.global p.zones q.0 (record { zone = z; there = f.0; holds = f.1 }))
          (subst (λ (o : Option Zone). IsIn q
          (option_map_or (λ (z : Zone). map (paired q.0) (held_inside b n z.target 0)) o [])) (sym f.0)
          (map_in (paired q.0) q.1 (held_inside b n z.target 0) (zone_in b n p.global q.1 z h)))

-- ---- the pairs of a note

module _ (b : Parts) (n : Numbers) (q : ℕ × ℕ) where
  pairs_some : IsIn q (pairs b n) → IsSome (selected_pair b n q)
  unfolding pairs selected_pair
  pairs_some =
      elim (find (has_preset_numbers n) b.presets) as
      (λ (o : Option (ZoneOwner Head)).
      IsIn q
      (option_map_or
      (λ (p : ZoneOwner Head). flat_map (pairs_at b n p.zones) (held n p.global p.zones 0)) o [])
      → IsSome (option_and_then (pair_of_preset b n q) o)) [
        | None ↦ λ h. absurd h
        | Some p ↦ preset_some b n q p
      ]

  pairs_in : IsSome (selected_pair b n q) → IsIn q (pairs b n)
  unfolding pairs selected_pair
  pairs_in =
      elim (find (has_preset_numbers n) b.presets) as
      (λ (o : Option (ZoneOwner Head)).
      IsSome (option_and_then (pair_of_preset b n q) o)
      → IsIn q
      (option_map_or
      (λ (p : ZoneOwner Head). flat_map (pairs_at b n p.zones) (held n p.global p.zones 0)) o [])) [
        | None ↦ λ h. absurd (true≢false (sym h))
        | Some p ↦ preset_in b n q p
      ]

pub pairs_are_selected : PairsAreSelected
pairs_are_selected b n q =
    (λ c. pairs_some b n q (in_of_contains q (pairs b n) c), λ h. contains_of_in q (pairs b n) (pairs_in b n q h))

-- ---- in a valid bank the sample exists

module _ (b : Parts) (n : Numbers) (v : IsValid b) where
  abbrev Named : Option SelectedPair → Type 0
  Named o = (c : SelectedPair) → o ≡ Some c → c.sample < length b.samples

  named_inside : (u : ZoneSettings) (l j : ℕ) (i : ZoneOwner (List ℕ)) → slice_get b.instruments j ≡ Some i
      → Named (pair_of_instrument n u l i)
  named_inside u l j i e = from (zone_held n i.global i.zones l) refl
    where
      from : (o : Option Zone) → zone_held n i.global i.zones l ≡ o
          → Named
          (option_map
          (λ (y : Zone). let c : SelectedPair =
          record { instrument_zone = zone_settings i.global y; preset_zone = u; sample = y.target } in c)
          o)
      from None f c h = cc
      from (Some y) f c h =
          let at = held_zone n i.global i.zones l y f in
          let zones = (all_found (IsInstrument (length b.samples)) b.instruments j i e v.instruments).zones.zones in
          let lt = (all_found (IsZone level.Inst (length b.samples)) i.zones l y at.0 zones).target in
          let same : y.target ≡ c.sample = cc in
          subst (λ (t : ℕ). t < length b.samples) same lt

  zone_named : (global : GlobalZone) (l : ℕ) (z : Zone) → Named (pair_of_zone b n global l z)
  zone_named global l z = from (slice_get b.instruments z.target) refl
    where
      from : (o : Option (ZoneOwner (List ℕ))) → slice_get b.instruments z.target ≡ o
          → Named (option_and_then (pair_of_instrument n (zone_settings global z) l) o)
      from None e c h = cc
      from (Some i) e c h = named_inside (zone_settings global z) l z.target i e c h

  preset_named : (q : ℕ × ℕ) (p : ZoneOwner Head) → Named (pair_of_preset b n q p)
  preset_named q p =
      elim (zone_held n p.global p.zones q.0) as
      (λ (o : Option Zone). Named (option_and_then (pair_of_zone b n p.global q.1) o)) [
        | None ↦ λ c h. cc
        | Some z ↦ zone_named p.global q.1 z
      ]

  selected_named : (q : ℕ × ℕ) → Named (selected_pair b n q)
  unfolding selected_pair
  selected_named q =
      elim (find (has_preset_numbers n) b.presets) as
      (λ (o : Option (ZoneOwner Head)). Named (option_and_then (pair_of_preset b n q) o)) [
        | None ↦ λ c h. cc
        | Some p ↦ preset_named q p
      ]

  voiced : (o : Option SelectedPair) → Named o → IsSome o ↔ IsSome (option_and_then (selected_pair_voice b n) o)
  voiced None h = (λ s. s, λ s. s)
  voiced (Some c) h =
      let s = slice_get-found b.samples c.sample (h c refl) in let e = s.1 in (λ _. rw e refl, λ _. refl)

pub pairs_have_voices : PairsHaveVoices
pairs_have_voices b n q v =
    let is_selected = pairs_are_selected b n q in
    let voice = voiced b n v (selected_pair b n q) (selected_named b n v q) in
    (λ c. voice.0 (is_selected.0 c), λ h. is_selected.1 (voice.1 h))

-- ---- the result of the code

module _ {V : Type 0} (b : Parts) (n : Numbers) (q : ℕ × ℕ) where
  -- it is `None` or `Some` as the pair's zones are
  pub there_by : (r : Option V) → is_some r ≡ is_some (selected_pair b n q) → IsSome r ↔ Contains (pairs b n) q
  there_by r e = let is_selected = pairs_are_selected b n q in (λ s. is_selected.1 (sym e ∙ s), λ c. e ∙ is_selected.0 c)

-- the sample of a pair exists
pub never_lost : (b : Parts) (n : Numbers) (q : ℕ × ℕ) (c : SelectedPair) → IsValid b → selected_pair b n q ≡ Some c
    → slice_get b.samples c.sample ≡ None → ⊥
never_lost b n q c v e f =
    let s = slice_get-found b.samples c.sample (selected_named b n v q c e) in
    true≢false (sym (ap is_some s.1) ∙ ap is_some f)
