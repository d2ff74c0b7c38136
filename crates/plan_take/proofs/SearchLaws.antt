-- The first preset with some numbers.
use Rattle.std.proofs.Common.{◌≡◌, ◌<◌, ◌≤◌, ℕ, zero, suc, Bool, true, false, Option, Some, None, List, [], ◌∷◌, length}
use Rattle.std.proofs.Common.{drop, slice_get, refl, sym, ap, ◌∙◌, arith}
use Rattle.std.specs.Prelude.{MatchOption}
use Rattle.std.specs.List.{find}
use Rattle.std.specs.Option.{option_map, option_map_or, is_some}
use Rattle.bank_parts.specs.declared.parts.Head.{Head}
use Rattle.bank_parts.specs.declared.parts.ZoneOwner.{ZoneOwner}
use Rattle.plan_presets.specs.declared.numbers.PresetNumbers.{PresetNumbers}
use Rattle.plan_take.specs.Taking.{is_numbered}

-- whether a preset has the numbers, by its head
pub numbered_there : (k : PresetNumbers) (o : Option (ZoneOwner Head)) (h : Head)
    → option_map (λ (p : ZoneOwner Head). p.head) o ≡ Some h
    → option_map_or (λ (p : ZoneOwner Head). is_numbered k p.head) o false ≡ is_numbered k h
numbered_there k None h e = absurd cc
numbered_there k (Some p) h e = let same : p.head ≡ h = cc in ap (is_numbered k) same

-- nothing is found past the end
pub find_past_end : {X : Type 0} (test : X → Bool) (xs : List X) (i : ℕ) → length xs ≤ i → find test (drop i xs) ≡ None
find_past_end test [] zero h = refl
find_past_end test [] (suc i) h = refl
find_past_end test (x ∷ xs) zero h = absurd (omega arith)
find_past_end test (x ∷ xs) (suc i) h = find_past_end test xs i (omega arith)

pub get_some : {X : Type 0} (xs : List X) (i : ℕ) → i < length xs → is_some (slice_get xs i) ≡ true
get_some [] i h = absurd (omega arith)
get_some (x ∷ xs) zero h = refl
get_some (x ∷ xs) (suc i) h = get_some xs i (omega arith)

-- a number is found exactly if a member is
pub some_if_found : {X : Type 0} (xs : List X) (found : Option X) (r : Option ℕ)
    → MatchOption r (found ≡ None) (λ i. (i < length xs) × (found ≡ slice_get xs i)) → is_some r ≡ is_some found
some_if_found xs found None h = sym (ap is_some h)
some_if_found xs found (Some i) h = sym (ap is_some h.1 ∙ get_some xs i h.0)
