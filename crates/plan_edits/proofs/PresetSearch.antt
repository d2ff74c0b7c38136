-- The search for a preset.
use Rattle.std.proofs.Common.{◌≡◌, ◌==◌, ◌&&◌, ◌||◌, ℕ, zero, suc, Bool, true, false, List, [], ◌∷◌, Some, refl, ap, drop}
use Rattle.std.specs.Prelude.{slice_get}
use Rattle.std.specs.List.{list_any}
use Rattle.std.specs.Option.{option_map}
use Rattle.bank_parts.specs.declared.parts.Head.{Head}
use Rattle.bank_parts.specs.declared.parts.ZoneOwner.{ZoneOwner}
use Rattle.plan_presets.specs.declared.numbers.PresetNumbers.{PresetNumbers}

abbrev pub has_numbers : PresetNumbers → ZoneOwner Head → Bool
has_numbers k p = p.head.bank == k.bank && p.head.number == k.number

-- the first of the rest has the numbers, or a later one has
pub any_from : (k : PresetNumbers) (xs : List (ZoneOwner Head)) (i : ℕ) (h : Head)
    → option_map (λ (x : ZoneOwner Head). x.head) (slice_get xs i) ≡ Some h
    → list_any (has_numbers k) (drop i xs)
    ≡ ((h.bank == k.bank && h.number == k.number) || list_any (has_numbers k) (drop (suc i) xs))
any_from k [] zero h e = absurd cc
any_from k [] (suc i) h e = absurd cc
any_from k (x ∷ xs) zero h e =
    let same : x.head ≡ h = cc in
    ap (λ (y : Head). (y.bank == k.bank && y.number == k.number) || list_any (has_numbers k) xs) same
any_from k (x ∷ xs) (suc i) h e = any_from k xs i h e

pub any_once : (found : Bool) (rest : Bool) → found ≡ true → true ≡ (found || rest)
any_once true rest e = refl
any_once false rest e = absurd cc

pub none_yet : (found : Bool) (rest : Bool) → found ≡ false → (found || rest) ≡ rest
none_yet true rest e = absurd cc
none_yet false rest e = refl
