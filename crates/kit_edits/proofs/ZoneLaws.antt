-- Zones appended one after the other.
use Rattle.std.proofs.Common.{◌≡◌, ◌≤◌, ◌<◌, ◌+◌, ◌++◌, ℕ, zero, suc, Bool, true, if◌then◌else◌, List, [], ◌∷◌, length}
use Rattle.std.proofs.Common.{drop, get_or, Option, Some, slice_get, refl, sym, ap, ◌∙◌, arith}
use Rattle.std.specs.List.{flat_map}
use Rattle.std.specs.Option.{option_map_or}
use Rattle.std.proofs.lemmas.List.{append-nil, append_assoc}
use Rattle.kit_tables.specs.declared.zone.KitZone.{KitZone}
use Rattle.kit_edits.specs.declared.numbers.Numbered.{Numbered}
use Rattle.kit_edits.specs.Zones.{zone_of, left_pan, right_pan, recording_zones, row_zones}

pub both_pushed : {X : Type 0} (xs : List X) (a b x y : X) → a ≡ x → b ≡ y
    → (xs ++ a ∷ []) ++ b ∷ [] ≡ xs ++ x ∷ y ∷ []
both_pushed [] a b x y e f = λ i. e i ∷ f i ∷ []
both_pushed (z ∷ zs) a b x y e f = ap (λ ws. z ∷ ws) (both_pushed zs a b x y e f)

pub stereo_zones : (z : KitZone) (r : Numbered) → r.is_stereo ≡ true
    → recording_zones z r
    ≡ zone_of r.left z (Some (left_pan z.pan)) r.is_looped ∷ zone_of r.right z (Some (right_pan z.pan)) r.is_looped ∷ []
stereo_zones z r e =
    ap
    (λ (b : Bool).
    if b
    then zone_of r.left z (Some (left_pan z.pan)) r.is_looped
    ∷ zone_of r.right z (Some (right_pan z.pan)) r.is_looped ∷ []
    else zone_of r.left z z.pan r.is_looped ∷ []) e

-- the zones of a row, by the recording that was found
pub row_found : (recordings : List Numbered) (row : ℕ × KitZone) (o : Option Numbered)
    → o ≡ slice_get recordings row.0 → option_map_or (recording_zones row.1) o [] ≡ row_zones recordings row
row_found recordings row o e = ap (λ (p : Option Numbered). option_map_or (recording_zones row.1) p []) e

pub none_pushed : {X : Type 0} (xs ys : List X) → [] ≡ ys → xs ≡ xs ++ ys
none_pushed xs ys e = sym (append-nil xs) ∙ ap (λ zs. xs ++ zs) e

module _ {X A : Type 0} (f : X → List A) where
  flat_step : (xs : List X) (i : ℕ) (d : X) → i < length xs
      → flat_map f (drop i xs) ≡ f (get_or xs i d) ++ flat_map f (drop (suc i) xs)
  flat_step [] i d lt = absurd (omega (arith, lt))
  flat_step (x ∷ xs) zero d lt = refl
  flat_step (x ∷ xs) (suc i) d lt = flat_step xs i d (omega (arith, lt))

  -- what one more member adds
  pub member_pushed : (xs : List X) (i : ℕ) (d : X) (made new total : List A) → i < length xs
      → new ≡ made ++ f (get_or xs i d) → made ++ flat_map f (drop i xs) ≡ total
      → new ++ flat_map f (drop (i + 1) xs) ≡ total
  member_pushed xs i d made new total lt e so_far =
      let next : i + 1 ≡ suc i = omega arith in
      ap (λ ys. ys ++ flat_map f (drop (i + 1) xs)) e
      ∙ ap (λ j. (made ++ f (get_or xs i d)) ++ flat_map f (drop j xs)) next
      ∙ append_assoc made (f (get_or xs i d)) (flat_map f (drop (suc i) xs))
      ∙ ap (λ ys. made ++ ys) (sym (flat_step xs i d lt))
      ∙ so_far

  none_past : (xs : List X) (i : ℕ) → length xs ≤ i → flat_map f (drop i xs) ≡ []
  none_past [] zero h = refl
  none_past [] (suc i) h = refl
  none_past (x ∷ xs) zero h = absurd (omega (arith, h))
  none_past (x ∷ xs) (suc i) h = none_past xs i (omega (arith, h))

  pub all_pushed : (xs : List X) (i : ℕ) (made total : List A) → length xs ≤ i
      → made ++ flat_map f (drop i xs) ≡ total → made ≡ total
  all_pushed xs i made total h e =
      sym (append-nil made) ∙ ap (λ ys. made ++ ys) (sym (none_past xs i h)) ∙ e
