-- Lists and parts are equal if all that can be borrowed from them is equal.
use Rattle.std.proofs.Common.{◌≡◌, ◌↔◌, ℕ, zero, suc, ◌<◌, Bool, IsTrue, List, [], ◌∷◌, length, Option, Some, None}
use Rattle.std.proofs.Common.{slice_get, refl, ap, sym, ◌∙◌, arith}
use Rattle.std.specs.Option.{option_map, option_and_then}
use Rattle.std.specs.FinMap.{entries, from_entries}
use Rattle.generators.specs.Gens.{Gens}
use Rattle.generators.proofs.EntryLaws as laws
use Rattle.modulators.specs.declared.modulator.Modulator.{Modulator}
use Rattle.bank_parts.specs.declared.owners.ZonePlace.{ZonePlace}
use Rattle.bank_parts.specs.declared.owners.ZonePlace.TheVariants as place
use Rattle.bank_parts.specs.declared.parts.Zone.{Zone}
use Rattle.bank_parts.specs.declared.parts.ZoneOwner.{ZoneOwner}
use Rattle.bank_parts.specs.Owners.{gens_at, mods_at, entries_at}
use Rattle.bank_parts.specs.Settings.{Settings, settings_of_zone, settings_in, settings_at}

some_same : {X : Type 0} (x y : X) → Some x ≡ Some y → x ≡ y
some_same x y e = cc

-- lists with the same members
pub same_members : {X : Type 0} (xs ys : List X) → length xs ≡ length ys
    → ((m : ℕ) → m < length xs → slice_get xs m ≡ slice_get ys m) → xs ≡ ys
same_members [] [] e h = refl
same_members [] (y ∷ ys) e h = absurd (omega arith)
same_members (x ∷ xs) [] e h = absurd (omega arith)
same_members (x ∷ xs) (y ∷ ys) e h =
    let first = some_same x y (h zero (omega arith)) in
    let rest = same_members xs ys (omega arith) (λ m lt. h (suc m) (omega arith)) in
    λ i. first i ∷ rest i

-- the zones of two owners are equal if each zone is
pub same_borrowed_zones : {H K : Type 0} (o : Option (ZoneOwner H)) (p : Option (ZoneOwner K)) (n k : ℕ) → n ≡ k
    → option_map (λ x. length x.zones) o ≡ Some n → option_map (λ x. length x.zones) p ≡ Some k
    → ((m : ℕ) → m < n → option_and_then (λ x. slice_get x.zones m) o ≡ option_and_then (λ x. slice_get x.zones m) p)
    → option_map (λ x. x.zones) o ≡ option_map (λ x. x.zones) p
same_borrowed_zones (Some x) (Some y) n k e a b h =
    let first = some_same (length x.zones) n a in
    let second = some_same (length y.zones) k b in
    ap (λ (zones : List Zone). Some zones)
    (same_members x.zones y.zones (first ∙ e ∙ sym second) (λ m lt. h m (omega arith)))
same_borrowed_zones None None n k e a b h = refl
same_borrowed_zones None (Some y) n k e a b h = cc
same_borrowed_zones (Some x) None n k e a b h = cc

-- what is borrowed from a place equals its settings
module _ {H : Type 0} (owners : List (ZoneOwner H)) (i : ℕ) where
  in_zone : {Y : Type 0} (f : Settings → Y) (k : ℕ) (o : Option (ZoneOwner H))
      → option_map f (option_and_then (settings_in (place.Zone k)) o)
      ≡ option_map (λ (z : Zone). f (settings_of_zone z)) (option_and_then (λ x. slice_get x.zones k) o)
  in_zone f k None = refl
  in_zone f k (Some x) = (elim (slice_get x.zones k) as
      (λ o. option_map f (option_map settings_of_zone o) ≡ option_map (λ (z : Zone). f (settings_of_zone z)) o) [
        | None ↦ refl
        | Some z ↦ refl
      ])

  in_global : {Y : Type 0} (f : Settings → Y) (o : Option (ZoneOwner H))
      → option_map f (option_and_then (settings_in place.Global) o) ≡ option_map (λ x. f x.global) o
  in_global f None = refl
  in_global f (Some x) = refl

  pub gens_borrowed : (at : ZonePlace)
      → gens_at owners i at ≡ option_map (λ (s : Settings). s.gens) (settings_at owners i at)
  gens_borrowed place.Global = sym (in_global (λ (s : Settings). s.gens) (slice_get owners i))
  gens_borrowed (place.Zone k) = sym (in_zone (λ (s : Settings). s.gens) k (slice_get owners i))

  pub mods_borrowed : (at : ZonePlace)
      → mods_at owners i at ≡ option_map (λ (s : Settings). s.mods) (settings_at owners i at)
  mods_borrowed place.Global = sym (in_global (λ (s : Settings). s.mods) (slice_get owners i))
  mods_borrowed (place.Zone k) = sym (in_zone (λ (s : Settings). s.mods) k (slice_get owners i))

gens_of_entries : (m n : Gens) → entries m ≡ entries n → m ≡ n
gens_of_entries m n e = sym (laws.from_entries-entries m) ∙ ap from_entries e ∙ laws.from_entries-entries n

-- settings whose generators and modulators are equal
same_borrowed : (o p : Option Settings) (es : List (ℕ × ℕ)) (ms : List Modulator)
    → option_map entries (option_map (λ (s : Settings). s.gens) o) ≡ Some es
    → option_map entries (option_map (λ (s : Settings). s.gens) p) ≡ Some es
    → option_map (λ (s : Settings). s.mods) o ≡ Some ms → option_map (λ (s : Settings). s.mods) p ≡ Some ms → o ≡ p
same_borrowed None p es ms a b c d = cc
same_borrowed (Some x) None es ms a b c d = cc
same_borrowed (Some x) (Some y) es ms a b c d =
    let gens =
    gens_of_entries x.gens y.gens (some_same (entries x.gens) es a ∙ sym (some_same (entries y.gens) es b)) in
    let mods : x.mods ≡ y.mods = some_same x.mods ms c ∙ sym (some_same y.mods ms d) in
    λ i. let s : Settings = record { gens = gens i; mods = mods i } in Some s

-- two places with the same generators have equal settings exactly if their modulators are equal
pub same_by_mods : {H K : Type 0} (xs : List (ZoneOwner H)) (i : ℕ) (at : ZonePlace) (ys : List (ZoneOwner K))
    (j : ℕ) (other : ZonePlace)
    → (es fs : List (ℕ × ℕ)) (ms ns : List Modulator) (r : Bool)
    → entries_at xs i at ≡ Some es → entries_at ys j other ≡ Some fs → es ≡ fs → mods_at xs i at ≡ Some ms
    → mods_at ys j other ≡ Some ns
    → (IsTrue r ↔ (ms ≡ ns)) → (IsTrue r ↔ (settings_at xs i at ≡ settings_at ys j other))
same_by_mods xs i at ys j other es fs ms ns r a b same c d h =
    let first = ap (option_map entries) (sym (gens_borrowed xs i at)) ∙ a in
    let second =
    ap (option_map entries) (sym (gens_borrowed ys j other)) ∙ b ∙ ap (λ (gs : List (ℕ × ℕ)). Some gs) (sym same) in
    let third = sym (mods_borrowed xs i at) ∙ c in
    let fourth = sym (mods_borrowed ys j other) ∙ d in (
      λ t. same_borrowed (settings_at xs i at) (settings_at ys j other) es ms first second third
          (fourth ∙ ap (λ (ks : List Modulator). Some ks) (sym (h.0 t))),
      λ e. h.1 (some_same ms ns (sym third ∙ ap (option_map (λ (s : Settings). s.mods)) e ∙ fourth)),
    )
