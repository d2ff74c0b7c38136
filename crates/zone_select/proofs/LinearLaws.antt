-- Fractions rounded down, and the contributions of linear modulators.
use Rattle.std.proofs.Common.{◌≡◌, ◌≤◌, ◌<◌, ℕ, suc, ◌*◌, ◌/◌, ◌+◌, ◌-◌, ℤ, pos, negsuc, ◌+ℤ◌, ◌-ℤ◌, ◌*ℤ◌, ◌≤ℤ◌}
use Rattle.std.proofs.Common.{List, length, map, take, get_or, SFits, unsigned_abs, lit<, refl, sym, ap, ◌∙◌, arith}
use Rattle.std.specs.Int.{int_div_euclid, int_rem_euclid, cast_signed, w16, w32}
use Rattle.std.specs.List.{fold}
use Rattle.std.specs.Option.{option_map_or}
use Rattle.std.proofs.lemmas.Int.{ints, fits_signed_mul, unsigned_abs-mul}
use Rattle.std.proofs.lemmas.List.{take_all}
use Rattle.std.proofs.lemmas.List.Folds.{fold-map}
use Rattle.std.proofs.lemmas.List.Sums.{fold_more}
use Rattle.std.proofs.lemmas.Nat.{mul-le, div_below}
use Rattle.generators.specs.Defaults.{default_of}
use Rattle.generators.specs.Levels.{is_allowed}
use Rattle.sound_tables.specs.Floor.{floor_div, floor_mod}
use Rattle.sound_tables.proofs.FloorLaws.{floor_div_is}
use Rattle.script_notes.specs.Notes.{Numbers}
use Rattle.bank_parts.specs.declared.parts.Sample.{Sample}
use Rattle.zone_select.specs.ZoneSettings.{ZoneSettings}
use Rattle.zone_select.specs.Amounts.{amount, total, linear_part, linear_sources, key_of, velocity_of, root_of}
use Rattle.zone_select.specs.Amounts.{cents_of, moved, moved_amount}

pub euclid_is_floor : (z : ℤ) (n : ℕ) → int_div_euclid z (pos n) ≡ floor_div z n
euclid_is_floor (pos a) n = refl
euclid_is_floor (negsuc a) n = refl

pub euclid_is_mod : (z : ℤ) (n : ℕ) → int_rem_euclid z (pos n) ≡ pos (floor_mod z n)
euclid_is_mod (pos a) n = refl
euclid_is_mod (negsuc a) n = refl

-- ---- fractions of an amount

abs_below : (z : ℤ) (b : ℕ) → pos 0 ≤ℤ (z +ℤ pos b) → z ≤ℤ pos b → unsigned_abs z ≤ b
abs_below (pos a) b lo hi = omega (arith, ints, lo, hi)
abs_below (negsuc a) b lo hi = omega (arith, ints, lo, hi)

abs_between : (z : ℤ) (b : ℕ) → unsigned_abs z ≤ b → (pos 0 ≤ℤ (z +ℤ pos b)) × (z ≤ℤ pos b)
abs_between (pos a) b h = (omega (arith, ints, h), omega (arith, ints, h))
abs_between (negsuc a) b h = (omega (arith, ints, h), omega (arith, ints, h))

product_below : (a x : ℤ) (w : ℕ) → negsuc 65535 ≤ℤ a → a ≤ℤ pos 65534 → pos 0 ≤ℤ (x +ℤ pos w) → x ≤ℤ pos w
    → unsigned_abs (a *ℤ x) ≤ 65536 * w
product_below a x w al ah xl xh =
    let p : unsigned_abs a ≤ 65536 = abs_below a 65536 (omega (arith, ints, al)) (omega (arith, ints, ah)) in
    let q : unsigned_abs x ≤ w = abs_below x w xl xh in
    let m : unsigned_abs a * unsigned_abs x ≤ 65536 * w = mul-le (unsigned_abs a) (unsigned_abs x) 65536 w p q in
    let e = unsigned_abs-mul a x in
    omega (arith, m, e)

pub product_fits : (a x : ℤ) (w : ℕ) → w ≤ 1000 → negsuc 65535 ≤ℤ a → a ≤ℤ pos 65534 → pos 0 ≤ℤ (x +ℤ pos w)
    → x ≤ℤ pos w → SFits w32 (a *ℤ x)
product_fits a x w h al ah xl xh =
    let p : unsigned_abs a ≤ 65536 = abs_below a 65536 (omega (arith, ints, al)) (omega (arith, ints, ah)) in
    let q : unsigned_abs x ≤ w = abs_below x w xl xh in
    fits_signed_mul w32 a x 65536 1000 p (omega (arith, q, h)) (lit< tt)

pub above_least : (z : ℤ) (k : ℕ) → pos 0 ≤ℤ (z +ℤ pos k) → (m : ℕ) × (z +ℤ pos k ≡ pos m)
above_least (pos a) k h = (a + k, refl)
above_least (negsuc a) k h = (k - suc a, omega (arith, ints, h))

pub part_within : (a x : ℤ) (w : ℕ) → 0 < w → negsuc 65535 ≤ℤ a → a ≤ℤ pos 65534 → pos 0 ≤ℤ (x +ℤ pos w) → x ≤ℤ pos w
    → (negsuc 65535 ≤ℤ floor_div (a *ℤ x) w) × (floor_div (a *ℤ x) w ≤ℤ pos 65536)
part_within a x w h al ah xl xh =
    let b = abs_between (a *ℤ x) (65536 * w) (product_below a x w al ah xl xh) in
    let m = above_least (a *ℤ x) (65536 * w) b.0 in
    let top = b.1 in
    let is : a *ℤ x +ℤ pos (65536 * w) ≡ pos m.0 = m.1 in
    let most : m.0 ≤ 131072 * w = omega (arith, ints, is, top) in
    let q : m.0 / w < 131073 = div_below m.0 w 131073 h (omega (arith, most, h)) in
    let f : floor_div (a *ℤ x) w +ℤ pos 65536 ≡ pos (m.0 / w) = floor_div_is (a *ℤ x) 65536 w m.0 h is in
    (omega (arith, ints, f, q), omega (arith, ints, f, q))

-- ---- only an instrument sets the exclusive class

added_none : (z : ℤ) → z +ℤ pos 0 ≡ z
added_none (pos a) = omega (arith, ints)
added_none (negsuc a) = omega (arith, ints)

pub class_is : (v u : ZoneSettings) → amount v u 57 ≡ option_map_or (cast_signed w16) (v.settings 57) (pos 0)
unfolding amount is_allowed default_of
class_is v u = added_none (option_map_or (cast_signed w16) (v.settings 57) (pos 0))

-- ---- the sum over the sources

pub one_more : (f : ℕ → ℤ) (xs : List ℕ) (i d : ℕ) → i < length xs
    → fold (λ s y. s +ℤ f y) (pos 0) (take (i + 1) xs)
    ≡ fold (λ s y. s +ℤ f y) (pos 0) (take i xs) +ℤ f (get_or xs i d)
one_more f xs i d h = fold_more (λ s y. s +ℤ f y) (pos 0) xs i d h

pub all_summed : (f : ℕ → ℤ) (xs : List ℕ) (i : ℕ) → length xs ≤ i
    → fold (λ s y. s +ℤ f y) (pos 0) (take i xs) ≡ total (map f xs)
all_summed f xs i h =
    ap (fold (λ s y. s +ℤ f y) (pos 0)) (take_all i xs h) ∙ sym (fold-map (λ s y. s +ℤ y) f (pos 0) xs)

pub moved_is : (n : Numbers) (v u : ZoneSettings) (op key velocity : ℕ) (own added : ℤ) → key ≡ key_of n v u
    → velocity ≡ velocity_of n v u → own ≡ amount v u op
    → added ≡ total (map (linear_part key velocity v u op) linear_sources) → own +ℤ added ≡ moved n v u op
unfolding moved_amount
moved_is n v u op key velocity own added k l e f = rw (e, f, k, l) refl

-- ---- the pitch

pub interval_within : (tuning keys : ℤ) → negsuc 65535 ≤ℤ tuning → tuning ≤ℤ pos 65534 → pos 0 ≤ℤ (keys +ℤ pos 127)
    → keys ≤ℤ pos 127
    → (pos 0 ≤ℤ ((tuning *ℤ keys) +ℤ pos 8323072)) × ((tuning *ℤ keys) ≤ℤ pos 8323072)
interval_within tuning keys tl th kl kh =
    abs_between (tuning *ℤ keys) 8323072 (product_below tuning keys 127 tl th kl kh)

pub cents_is : (n : Numbers) (v u : ZoneSettings) (s : Sample) (key root : ℕ) (keys tuning scaled coarse fine : ℤ)
    → key ≡ key_of n v u → root ≡ root_of v u s → keys ≡ pos key -ℤ pos root
    → tuning ≡ amount v u 56 → scaled ≡ tuning *ℤ keys → coarse ≡ amount v u 51 → fine ≡ moved n v u 52
    → scaled +ℤ pos 100 *ℤ coarse +ℤ fine +ℤ s.correction ≡ cents_of n v u s
cents_is n v u s key root keys tuning scaled coarse fine e f g h i j k = rw (i, j, k, h, g, e, f) refl
