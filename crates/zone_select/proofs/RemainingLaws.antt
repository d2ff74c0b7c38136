-- The remaining pairs, one after another.
use Rattle.std.proofs.Common.{◌≡◌, ◌==◌, ◌&&◌, ℕ, ◌+◌, false, List, [], ◌∷◌, ◌++◌, map, MatchOption, Option, Some}
use Rattle.std.proofs.Common.{None, slice_get, refl, sym, ap, ◌∙◌}
use Rattle.std.proofs.lemmas.Bool.{eq-eqb, ne_eqb}
use Rattle.std.specs.List.{flat_map, find}
use Rattle.std.specs.Option.{option_map_or, option_map, option_and_then}
use Rattle.script_notes.specs.Notes.{Numbers}
use Rattle.bank_parts.specs.declared.parts.Head.{Head}
use Rattle.bank_parts.specs.declared.parts.Zone.{Zone}
use Rattle.bank_parts.specs.declared.parts.ZoneOwner.{ZoneOwner}
use Rattle.bank_parts.specs.declared.parts.Parts.{Parts}
use Rattle.bank_changes.specs.declared.members.Owner.TheVariants as owner
use Rattle.zone_select.specs.Select.{has_preset_numbers}
use Rattle.zone_select.specs.Pairs.{held, held_inside, pairs_at, pairs}
use Rattle.zone_select.specs.Remaining.{owner_held, inside_held, remaining_of, remaining_pairs}

abbrev paired : ℕ → List ℕ → List (ℕ × ℕ)
paired k ls = map (λ (l : ℕ). let q : ℕ × ℕ = (k, l) in q) ls

-- the pairs of the zones that contain the note, from zone k on
abbrev pub pairs_from : Parts → Numbers → ℕ → List ℕ → List (ℕ × ℕ)
pairs_from b n p ks =
    option_map_or (λ (x : ZoneOwner Head). flat_map (pairs_at b n x.zones) ks) (slice_get b.presets p) []

-- the remaining pairs, as those of the zone and those of the later zones
parts_of : (b : Parts) (n : Numbers) (p k l : ℕ)
    → remaining_pairs b n p (Some k) l
    ≡ paired k (inside_held b n p k l) ++ pairs_from b n p (owner_held b n (owner.Preset p) (k + 1))
parts_of b n p k l =
    elim (slice_get b.presets p) as
    (λ (o : Option (ZoneOwner Head)).
    option_map_or (remaining_of b n k l) o []
    ≡ paired k
    (option_map_or (λ (t : ℕ). held_inside b n t l)
    (option_map (λ (z : Zone). z.target)
    (option_and_then (λ (x : ZoneOwner Head). slice_get x.zones k) o))
    [])
    ++ option_map_or
    (λ (x : ZoneOwner Head).
    flat_map (pairs_at b n x.zones)
    (option_map_or (λ (y : ZoneOwner Head). held n y.global y.zones (k + 1)) o []))
    o []) [
      | None ↦ refl
      | Some x ↦ elim (slice_get x.zones k) as
          (λ (z : Option Zone).
          option_map_or (λ (z : Zone). paired k (held_inside b n z.target l)) z []
          ++ flat_map (pairs_at b n x.zones) (held n x.global x.zones (k + 1))
          ≡ paired k
          (option_map_or (λ (t : ℕ). held_inside b n t l) (option_map (λ (z : Zone). z.target) z) [])
          ++ flat_map (pairs_at b n x.zones) (held n x.global x.zones (k + 1)))
          [ None ↦ refl | Some z ↦ refl ]
    ]

-- all pairs of a zone, and those of the later zones, are those from the zone on
from_zone : (b : Parts) (n : Numbers) (p k : ℕ) (ks : List ℕ)
    → pairs_from b n p (k ∷ ks) ≡ paired k (inside_held b n p k 0) ++ pairs_from b n p ks
from_zone b n p k ks =
    elim (slice_get b.presets p) as
    (λ (o : Option (ZoneOwner Head)).
    option_map_or (λ (x : ZoneOwner Head). flat_map (pairs_at b n x.zones) (k ∷ ks)) o []
    ≡ paired k
    (option_map_or (λ (t : ℕ). held_inside b n t 0)
    (option_map (λ (z : Zone). z.target)
    (option_and_then (λ (x : ZoneOwner Head). slice_get x.zones k) o))
    [])
    ++ option_map_or (λ (x : ZoneOwner Head). flat_map (pairs_at b n x.zones) ks) o []) [
      | None ↦ refl
      | Some x ↦ elim (slice_get x.zones k) as
          (λ (z : Option Zone).
          option_map_or (λ (z : Zone). paired k (held_inside b n z.target 0)) z []
          ++ flat_map (pairs_at b n x.zones) ks
          ≡ paired k
          (option_map_or (λ (t : ℕ). held_inside b n t 0) (option_map (λ (z : Zone). z.target) z) [])
          ++ flat_map (pairs_at b n x.zones) ks)
          [ None ↦ refl | Some z ↦ refl ]
    ]

nothing_from : (b : Parts) (n : Numbers) (p : ℕ) → pairs_from b n p [] ≡ []
nothing_from b n p =
    elim (slice_get b.presets p) as
    (λ (o : Option (ZoneOwner Head)).
    option_map_or (λ (x : ZoneOwner Head). flat_map (pairs_at b n x.zones) []) o [] ≡ [])
    [ None ↦ refl | Some x ↦ refl ]

-- the first of a list of numbers, and the later ones after it
abbrev pub IsFirst : List ℕ → (ℕ → List ℕ) → Option ℕ → Type 0
IsFirst ks later o = MatchOption o (ks ≡ []) (λ k. ks ≡ k ∷ later (k + 1))

pub begun : (b : Parts) (n : Numbers) (p : ℕ) (o : Option ℕ) (ks : List ℕ)
    → IsFirst ks (owner_held b n (owner.Preset p)) o → remaining_pairs b n p o 0 ≡ pairs_from b n p ks
begun b n p None ks e = sym (ap (pairs_from b n p) e ∙ nothing_from b n p)
begun b n p (Some k) ks e =
    parts_of b n p k 0 ∙ sym (from_zone b n p k (owner_held b n (owner.Preset p) (k + 1)))
    ∙ sym (ap (pairs_from b n p) e)

-- a zone without remaining pairs leaves those of the later zones
pub no_more : (b : Parts) (n : Numbers) (p k l : ℕ) (o : Option ℕ) → inside_held b n p k l ≡ []
    → IsFirst (owner_held b n (owner.Preset p) (k + 1)) (owner_held b n (owner.Preset p)) o
    → remaining_pairs b n p o 0 ≡ remaining_pairs b n p (Some k) l
no_more b n p k l o e f =
    begun b n p o (owner_held b n (owner.Preset p) (k + 1)) f
    ∙ sym
    (parts_of b n p k l
    ∙ ap (λ (ls : List ℕ). paired k ls ++ pairs_from b n p (owner_held b n (owner.Preset p) (k + 1))) e)

-- all pairs of a note, by the first preset with its numbers
pub all_pairs : (b : Parts) (n : Numbers) (p : ℕ) (o : Option ℕ)
    → find (has_preset_numbers n) b.presets ≡ slice_get b.presets p
    → IsFirst (owner_held b n (owner.Preset p) 0) (owner_held b n (owner.Preset p)) o
    → remaining_pairs b n p o 0 ≡ pairs b n
unfolding pairs
all_pairs b n p o e f =
    begun b n p o (owner_held b n (owner.Preset p) 0) f
    ∙
    (elim (slice_get b.presets p) as
    (λ (o : Option (ZoneOwner Head)).
    option_map_or
    (λ (x : ZoneOwner Head).
    flat_map (pairs_at b n x.zones)
    (option_map_or (λ (y : ZoneOwner Head). held n y.global y.zones 0) o []))
    o []
    ≡ option_map_or (λ (x : ZoneOwner Head). flat_map (pairs_at b n x.zones) (held n x.global x.zones 0))
    o [])
    [ None ↦ refl | Some x ↦ refl ])
    ∙ ap
    (λ (o : Option (ZoneOwner Head)).
    option_map_or (λ (x : ZoneOwner Head). flat_map (pairs_at b n x.zones) (held n x.global x.zones 0)) o [])
    (sym e)

pub no_pairs : (b : Parts) (n : Numbers) → find (has_preset_numbers n) b.presets ≡ None → pairs b n ≡ []
unfolding pairs
no_pairs b n e = rw e refl

-- ---- the first preset

pub called_is : (n : Numbers) (o : Option (ZoneOwner Head)) (h : Head)
    → option_map (λ (x : ZoneOwner Head). x.head) o ≡ Some h
    → option_map_or (has_preset_numbers n) o false ≡ (h.bank == n.bank && h.number == n.number)
unfolding has_preset_numbers
called_is n None h e = cc
called_is n (Some x) h e = let same : x.head ≡ h = cc in rw same refl

pub called_then : (n : Numbers) (o : Option (ZoneOwner Head)) (h : Head) (bank number : ℕ) → bank ≡ n.bank
    → number ≡ n.number → Some h ≡ option_map (λ (x : ZoneOwner Head). x.head) o → h.bank ≡ bank
    → (h.number == number) ≡ option_map_or (has_preset_numbers n) o false
called_then n o h bank number b m e t =
    let same = eq-eqb h.bank n.bank (t ∙ b) in sym (called_is n o h (sym e) ∙ rw (same, ← m) refl)

pub called_else : (n : Numbers) (o : Option (ZoneOwner Head)) (h : Head) (bank : ℕ) → bank ≡ n.bank
    → Some h ≡ option_map (λ (x : ZoneOwner Head). x.head) o → (h.bank ≡ bank → ⊥)
    → (h.bank == bank) ≡ option_map_or (has_preset_numbers n) o false
called_else n o h bank b e t = let f = ne_eqb h.bank bank t in sym (called_is n o h (sym e) ∙ rw (← b, f) refl)

pub not_there : (n : Numbers) (o : Option (ZoneOwner Head)) → option_map (λ (x : ZoneOwner Head). x.head) o ≡ None
    → option_map_or (has_preset_numbers n) o false ≡ false
not_there n None e = refl
not_there n (Some x) e = cc
