-- The two parts of a split zone contain the notes of the zone, each in one part, and have the same voices.
use Rattle.std.proofs.Common.{◌≡◌, ℕ, ◌-◌, ◌<◌, ◌≤◌, Bool, true, false, cond, nat_le, ◌&&◌, List, [], ◌++◌, refl}
use Rattle.std.proofs.Common.{sym, ap, subst, ◌∙◌, inl, inr, arith, append-nil}
use Rattle.std.proofs.lemmas.Bool.{cases_lt}
use Rattle.std.proofs.lemmas.Bool.Decides.{nat_tests}
use Rattle.script_notes.specs.Notes.{Numbers}
use Rattle.bank_parts.specs.declared.parts.GlobalZone.{GlobalZone}
use Rattle.bank_parts.specs.declared.parts.Zone.{Zone}
use Rattle.bank_zone_ranges.specs.declared.axes.Axis.{Axis}
use Rattle.bank_zone_ranges.specs.declared.axes.Axis.TheVariants.{Key, Vel}
use Rattle.bank_zone_ranges.specs.Ranges.{low_end, high_end, range_from, range_of}
use Rattle.bank_zone_ranges.specs.Splits.{lower_zone, upper_zone}
use Rattle.bank_zone_ranges.proofs.SplitLaws.{IsSplitAt, low_is_small}
use Rattle.zone_select.specs.Ranges.{within, holds}
use Rattle.zone_select.specs.ZoneSettings.{ZoneSettings, zone_settings}
use Rattle.zone_select.proofs.RangeLaws.{zone_settings-with, range-with, other-with, within_ends}

-- a test t of the whole range, and the tests of its two parts
pub data Halved (t lower upper : Bool) : Type 0 where
  in_lower : lower ≡ t → upper ≡ false → Halved t lower upper
  in_upper : lower ≡ false → upper ≡ t → Halved t lower upper

and_false : (a : Bool) → (a && false) ≡ false
and_false true = refl
and_false false = refl

pub halved_first : (t l u v : Bool) → Halved t l u → Halved (t && v) (l && v) (u && v)
halved_first t l u v (in_lower e f) = in_lower (ap (λ b. b && v) e) (ap (λ b. b && v) f)
halved_first t l u v (in_upper e f) = in_upper (ap (λ b. b && v) e) (ap (λ b. b && v) f)

pub halved_second : (t l u v : Bool) → Halved t l u → Halved (v && t) (v && l) (v && u)
halved_second t l u v (in_lower e f) = in_lower (ap (λ b. v && b) e) (ap (λ b. v && b) f ∙ and_false v)
halved_second t l u v (in_upper e f) = in_upper (ap (λ b. v && b) e ∙ and_false v) (ap (λ b. v && b) f)

pub cond_halved : {X : Type 0} (t l u : Bool) (xs : List X) → Halved t l u → cond t xs [] ≡ cond l xs [] ++ cond u xs []
cond_halved t l u xs (in_lower e f) = (sym (append-nil (cond t xs [])) ∙ (λ i. cond (sym e i) xs [] ++ cond (sym f i) xs []))
cond_halved t l u xs (in_upper e f) = λ i. cond (sym e i) xs [] ++ cond (sym f i) xs []

-- a number is in the lower or in the upper part
below_split : (l h m x : ℕ) → x < m → m ≤ h → (nat_le l x && nat_le x (m - 1)) ≡ (nat_le l x && nat_le x h)
below_split l h m x a b = grind (arith, nat_tests)

not_above : (h m x : ℕ) → x < m → (nat_le m x && nat_le x h) ≡ false
not_above h m x a = grind (arith, nat_tests)

not_below : (l m x : ℕ) → m ≤ x → l < m → (nat_le l x && nat_le x (m - 1)) ≡ false
not_below l m x a b = grind (arith, nat_tests)

above_split : (l h m x : ℕ) → m ≤ x → l < m → (nat_le m x && nat_le x h) ≡ (nat_le l x && nat_le x h)
above_split l h m x a b = grind (arith, nat_tests)

halved : (w m x : ℕ) → low_end w < m → m ≤ high_end w → m < 256
    → Halved (within w x) (within (range_from (low_end w) (m - 1)) x) (within (range_from m (high_end w)) x)
halved w m x above inside small =
    let lower = within_ends (low_end w) (m - 1) x (low_is_small w) in
    let upper = within_ends m (high_end w) x small in
    elim (cases_lt x m) [
      | inl h ↦ in_lower (lower ∙ below_split (low_end w) (high_end w) m x h inside)
          (upper ∙ not_above (high_end w) m x h)
      | inr h ↦ in_upper (lower ∙ not_below (low_end w) m x h above)
          (upper ∙ above_split (low_end w) (high_end w) m x h above)
    ]

halves-hold : (n : Numbers) (global : GlobalZone) (z : Zone) (axis : Axis) (m : ℕ) → IsSplitAt axis m global z → m < 256
    → Halved (holds n global z) (holds n global (lower_zone axis m global z))
    (holds n global (upper_zone axis m global z))
unfolding holds
halves-hold n global z Key m h small =
    let w : ℕ = range_of Key global z in
    let lower : ℕ = range_from (low_end w) (m - 1) in
    let upper : ℕ = range_from m (high_end w) in
    subst
    (λ r.
    Halved (within w n.key && within (range_of Vel global z) n.velocity)
    (within r.0 n.key && within r.1 n.velocity) (within r.2 n.key && within r.3 n.velocity))
    (λ i. let r : ℕ × ℕ × ℕ × ℕ = (
      sym (range-with global z Key lower) i,
      sym (other-with global z Key Vel lower (omega arith)) i,
      sym (range-with global z Key upper) i,
      sym (other-with global z Key Vel upper (omega arith)) i,
    )
    in r)
    (halved_first (within w n.key) (within lower n.key) (within upper n.key)
    (within (range_of Vel global z) n.velocity) (halved w m n.key h.above h.within small))
halves-hold n global z Vel m h small =
    let w : ℕ = range_of Vel global z in
    let lower : ℕ = range_from (low_end w) (m - 1) in
    let upper : ℕ = range_from m (high_end w) in
    subst
    (λ r.
    Halved (within (range_of Key global z) n.key && within w n.velocity)
    (within r.1 n.key && within r.0 n.velocity) (within r.3 n.key && within r.2 n.velocity))
    (λ i. let r : ℕ × ℕ × ℕ × ℕ = (
      sym (range-with global z Vel lower) i,
      sym (other-with global z Vel Key lower (omega arith)) i,
      sym (range-with global z Vel upper) i,
      sym (other-with global z Vel Key upper (omega arith)) i,
    )
    in r)
    (halved_second (within w n.velocity) (within lower n.velocity) (within upper n.velocity)
    (within (range_of Key global z) n.key) (halved w m n.velocity h.above h.within small))

-- one part has the voices of the zone's target, and the other has none
pub halves-give : {X : Type 0} (inside : ZoneSettings → ℕ → List X) (n : Numbers) (global : GlobalZone) (z : Zone)
    (axis : Axis) (m : ℕ)
    → IsSplitAt axis m global z → m < 256
    →
    (let give : Zone → List X =
    λ y.
    cond (holds n global y) (inside (zone_settings global y) y.target) [] in give z
    ≡ give (lower_zone axis m global z) ++ give (upper_zone axis m global z))
halves-give inside n global z axis m h small =
    let lower : Zone = lower_zone axis m global z in
    let upper : Zone = upper_zone axis m global z in
    let w : ℕ = range_of axis global z in
    cond_halved (holds n global z) (holds n global lower) (holds n global upper) (inside (zone_settings global z) z.target)
    (halves-hold n global z axis m h small)
    ∙ (λ i. cond (holds n global lower)
    (inside (zone_settings-with global z axis (range_from (low_end w) (m - 1)) i) z.target) []
    ++ cond (holds n global upper) (inside (zone_settings-with global z axis (range_from m (high_end w)) i) z.target) [])
