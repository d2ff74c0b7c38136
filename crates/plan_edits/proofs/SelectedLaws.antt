-- The zones that notes select, in sets of zones.
use Rattle.std.proofs.Common.{◌≡◌, ◌==◌, ◌&&◌, ℕ, suc, Bool, true, false, List, ◌∷◌, Some, refl, sym, subst, arith, slice_get}
use Rattle.std.specs.List.{Contains}
use Rattle.std.proofs.lemmas.Map.Keys.{any_passes_from_place}
use Rattle.bank_parts.specs.declared.parts.Parts.{Parts}
use Rattle.bank_changes.specs.declared.members.Owner.{Owner}
use Rattle.script_notes.specs.Notes.{Numbers}
use Rattle.plan_edits.specs.declared.zone_set.ZoneSet.{ZoneSet}
use Rattle.plan_edits.specs.ZoneSets.{has_zone, AddsZone}
use Rattle.plan_edits.specs.Playing.{is_like, Selects, IsSelected, HasOnlySelected, AddsSelected}

-- ---- pairs that are left

pub all_left : (all rest : List (ℕ × ℕ)) (qs : List (ℕ × ℕ)) → qs ≡ all → (q : ℕ × ℕ) → Contains qs q → Contains all q
all_left all rest qs e q h = subst (λ xs. Contains xs q) e h

pub is_next : (qs rest : List (ℕ × ℕ)) (q : ℕ × ℕ) → qs ≡ q ∷ rest → Contains qs q
is_next qs rest q e = subst (λ xs. Contains xs q) (sym e) (0, omega arith, refl)

pub is_later : (qs rest : List (ℕ × ℕ)) (q p : ℕ × ℕ) → qs ≡ q ∷ rest → Contains rest p → Contains qs p
is_later qs rest q p e h = subst (λ xs. Contains xs p) (sym e) (suc h.0, omega arith, h.2)

-- ---- added zones

pub adds_none : (b : Parts) (n : Numbers) (set : ZoneSet) → AddsSelected b n set set
adds_none b n set o k is was = absurd cc

by_case : (P : Type 0) (t : Bool) → (t ≡ true → P) → (t ≡ false → P) → P
by_case P true h g = h refl
by_case P false h g = g refl

pub adds_both : (b : Parts) (n : Numbers) (old mid new : ZoneSet) → AddsSelected b n old mid → AddsSelected b n mid new
    → AddsSelected b n old new
adds_both b n old mid new h g o k is was =
    by_case (Selects b n o k) (has_zone mid o k) (λ m. h o k m was) (λ m. g o k is m)

pub adds_one : (b : Parts) (n : Numbers) (old new : ZoneSet) (o : Owner) (k : ℕ) → AddsZone old new o k → Selects b n o k
    → AddsSelected b n old new
adds_one b n old new o k h s p l is was =
    let e = h p l is was in
    subst (λ r. Selects b n r l) (sym e.0) (subst (λ m. Selects b n o m) (sym e.1) s)

-- ---- notes of a list

self_equal : (x : ℕ) → (x == x) ≡ true
self_equal x = grind arith

pub like_itself : (n : Numbers) → is_like n n ≡ true
like_itself n =
    λ i. self_equal n.bank i && self_equal n.number i && self_equal n.key i && self_equal n.velocity i

pub adds_note : (notes : List Numbers) (b : Parts) (i : ℕ) (n : Numbers) (old new : ZoneSet) → slice_get notes i ≡ Some n
    → AddsSelected b n old new → HasOnlySelected notes b old → HasOnlySelected notes b new
adds_note notes b i n old new at h g o k is =
    by_case (IsSelected notes b o k) (has_zone old o k) (λ was. g o k was)
    (λ was. (n, any_passes_from_place (is_like n) notes i n at (like_itself n), h o k is was))
