-- The target of a zone is in use, so it may be marked.
use Rattle.std.proofs.Common.{refl, ◌≡◌, ℕ, zero, suc, Bool, true, List, [], ◌∷◌, Option, Some, None, slice_get, set}
use Rattle.std.proofs.Common.{eq-eqb}
use Rattle.std.specs.Prelude.{◌==◌}
use Rattle.std.specs.Option.{option_map, option_and_then}
use Rattle.std.specs.List.{list_any}
use Rattle.std.proofs.lemmas.Map.Keys.{any_passes_from_place}
use Rattle.bank_parts.specs.declared.parts.Zone.{Zone}
use Rattle.bank_parts.specs.declared.parts.ZoneOwner.{ZoneOwner}
use Rattle.bank_parts.specs.Owners.{target_at, targets}

-- if t has a property of all marked numbers, all still have it once t is marked
pub marked_too : (P : ℕ → Type 0) (marks : List Bool) (t : ℕ) → P t → ((i : ℕ) → slice_get marks i ≡ Some true → P i)
    → (i : ℕ) → slice_get (set marks t true) i ≡ Some true → P i
marked_too P [] t p h i e = absurd cc
marked_too P (m ∷ ms) zero p h zero e = p
marked_too P (m ∷ ms) zero p h (suc i) e = h (suc i) e
marked_too P (m ∷ ms) (suc t) p h zero e = h zero e
marked_too P (m ∷ ms) (suc t) p h (suc i) e = marked_too (λ n. P (suc n)) ms t p (λ n. h (suc n)) i e

-- ---- zone k of owner i, whose target is t

module _ {H : Type 0} (owners : List (ZoneOwner H)) (i k t : ℕ) where
  is_target : (x : ZoneOwner H) (o : Option Zone) → slice_get x.zones k ≡ o
      → option_map (λ (z : Zone). z.target) o ≡ Some t → targets t x ≡ true
  is_target x None at e = absurd cc
  is_target x (Some z) at e =
      let same : z.target ≡ t = cc in
      any_passes_from_place (λ (y : Zone). y.target == t) x.zones k z at (eq-eqb z.target t same)

  is_targeted : (o : Option (ZoneOwner H)) → slice_get owners i ≡ o
      → option_map (λ (z : Zone). z.target) (option_and_then (λ x. slice_get x.zones k) o) ≡ Some t
      → list_any (targets t) owners ≡ true
  is_targeted None at e = absurd cc
  is_targeted (Some x) at e =
      any_passes_from_place (targets t) owners i x at (is_target x (slice_get x.zones k) refl e)

  -- some zone of an owner targets it
  pub target_of_zone : target_at owners i k ≡ Some t → list_any (targets t) owners ≡ true
  target_of_zone = is_targeted (slice_get owners i) refl
