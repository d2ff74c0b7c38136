-- Windows of windows, and windows of an empty list of modulators.
use Rattle.std.proofs.Common.{◌≡◌, ◌≤◌, ◌+◌, ◌-◌, ◌&&◌, ◌∙◌, ℕ, zero, suc, Bool, true, false, leb, List, [], ◌∷◌}
use Rattle.std.proofs.Common.{length, take, drop, map, refl, sym, ap, inl, inr, arith}
use Rattle.std.specs.List.{slice_range, list_all}
use Rattle.std.proofs.lemmas.Bool.{cases_lt, leb-true}
use Rattle.std.proofs.lemmas.List.{length-take, length-take-le}
use Rattle.std.proofs.Math.Seq.{take-nil}
use Rattle.modulators.specs.declared.modulator.Modulator.{Modulator}
use Rattle.hydra_records.specs.declared.zone.Bag.{Bag}
use Rattle.hydra_records.specs.declared.zone.Generator.{Generator}
use Rattle.bank_format.specs.Windows.{windows, windows_from, zip_with, without_terminal}
use Rattle.bank_format.specs.Tables.{modulator_end}
use Rattle.bank_format.specs.Chunks.{or_terminal}
use Rattle.bank_format.specs.Reading.{bagged, bags_in}

-- ---- a range of windows

drop-none : {X : Type 0} (n : ℕ) → drop {A = X} n [] ≡ []
drop-none zero = refl
drop-none (suc n) = refl

take-windows_from : {X : Type 0} (table : List X) (n at : ℕ) (is : List ℕ)
    → take n (windows_from table at is) ≡ windows_from table at (take n is)
take-windows_from table zero at is = refl
take-windows_from table (suc n) at [] = refl
take-windows_from table (suc n) at (i ∷ is) = ap (λ l. slice_range table at i ∷ l) (take-windows_from table n i is)

take-windows : {X : Type 0} (table : List X) (n : ℕ) (is : List ℕ)
    → take n (windows table is) ≡ windows table (take (suc n) is)
take-windows table n [] = take-nil n
take-windows table n (i ∷ is) = take-windows_from table n i is

drop-windows : {X : Type 0} (table : List X) (n : ℕ) (is : List ℕ)
    → drop n (windows table is) ≡ windows table (drop n is)
drop-windows table zero is = refl
drop-windows table (suc n) [] = refl
drop-windows table (suc n) (i ∷ []) = sym (ap (windows table) (drop-none n))
drop-windows table (suc n) (i ∷ j ∷ is) = drop-windows table n (j ∷ is)

take-zip_with : {X Y Z : Type 0} (f : X → Y → Z) (n : ℕ) (xs : List X) (ys : List Y)
    → take n (zip_with f xs ys) ≡ zip_with f (take n xs) (take n ys)
take-zip_with f zero xs ys = refl
take-zip_with f (suc n) [] ys = refl
take-zip_with f (suc n) (x ∷ xs) [] = refl
take-zip_with f (suc n) (x ∷ xs) (y ∷ ys) = ap (λ l. f x y ∷ l) (take-zip_with f n xs ys)

zip_with-none : {X Y Z : Type 0} (f : X → Y → Z) (xs : List X) → zip_with f xs [] ≡ []
zip_with-none f [] = refl
zip_with-none f (x ∷ xs) = refl

drop-zip_with : {X Y Z : Type 0} (f : X → Y → Z) (n : ℕ) (xs : List X) (ys : List Y)
    → drop n (zip_with f xs ys) ≡ zip_with f (drop n xs) (drop n ys)
drop-zip_with f zero xs ys = refl
drop-zip_with f (suc n) [] ys = refl
drop-zip_with f (suc n) (x ∷ xs) [] = sym (zip_with-none f (drop n xs))
drop-zip_with f (suc n) (x ∷ xs) (y ∷ ys) = drop-zip_with f n xs ys

map-take : {X Y : Type 0} (f : X → Y) (n : ℕ) (xs : List X) → map f (take n xs) ≡ take n (map f xs)
map-take f zero xs = refl
map-take f (suc n) [] = refl
map-take f (suc n) (x ∷ xs) = ap (λ l. f x ∷ l) (map-take f n xs)

map-drop : {X Y : Type 0} (f : X → Y) (n : ℕ) (xs : List X) → map f (drop n xs) ≡ drop n (map f xs)
map-drop f zero xs = refl
map-drop f (suc n) [] = refl
map-drop f (suc n) (x ∷ xs) = map-drop f n xs

-- there is one index more than windows
range-windows : {X Y : Type 0} (table : List X) (index : Y → ℕ) (ys : List Y) (n at : ℕ)
    → take n (drop at (windows table (map index ys))) ≡ windows table (map index (take (suc n) (drop at ys)))
range-windows table index ys n at =
    ap (take n) (drop-windows table at (map index ys))
    ∙ take-windows table n (drop at (map index ys))
    ∙ ap (windows table) (ap (take (suc n)) (sym (map-drop index at ys)) ∙ sym (map-take index (suc n) (drop at ys)))

range-bags : (bags : List Bag) (gens : List Generator) (mods : List Modulator) (n at : ℕ)
    → take n (drop at (bags_in bags gens mods)) ≡ bags_in (take (suc n) (drop at bags)) gens mods
unfolding bags_in
range-bags bags gens mods n at =
    let gw = windows gens (map (λ (r : Bag). r.gens) bags) in
    let mw = windows mods (map (λ (r : Bag). r.mods) bags) in
    ap (take n) (drop-zip_with bagged at gw mw)
    ∙ take-zip_with bagged n (drop at gw) (drop at mw)
    ∙ ap (λ l. zip_with bagged l (take n (drop at mw))) (range-windows gens (λ (r : Bag). r.gens) bags n at)
    ∙ ap (zip_with bagged (windows gens (map (λ (r : Bag). r.gens) (take (suc n) (drop at bags)))))
    (range-windows mods (λ (r : Bag). r.mods) bags n at)

no-bags : (bags : List Bag) (gens : List Generator) (mods : List Modulator) → length bags ≤ 1
    → bags_in bags gens mods ≡ []
unfolding bags_in
no-bags [] gens mods h = refl
no-bags (b ∷ []) gens mods h = refl
no-bags (b ∷ c ∷ bags) gens mods h = absurd (omega arith)

-- The bags between two indexes, from their records and the record after the last one.
pub slice-bags_in : (bags : List Bag) (gens : List Generator) (mods : List Modulator) (from to : ℕ)
    → slice_range (bags_in bags gens mods) from to ≡ bags_in (slice_range bags from (to + 1)) gens mods
slice-bags_in bags gens mods from to = elim (cases_lt to from) [
  | inr le ↦ (
      let more : to + 1 - from ≡ suc (to - from) = omega (arith, le) in
      range-bags bags gens mods (to - from) from
      ∙ ap (λ (n : ℕ). bags_in (take n (drop from bags)) gens mods) (sym more))
  | inl lt ↦ (
      let none : to - from ≡ 0 = omega (arith, lt) in
      let few : to + 1 - from ≤ 1 = omega (arith, lt) in
      rw none (sym (no-bags (take (to + 1 - from) (drop from bags)) gens mods
      (omega (arith, few, length-take (to + 1 - from) (drop from bags))))))
]

-- ---- an empty list of modulators

split_and : (b c : Bool) → (b && c) ≡ true → (b ≡ true) × (c ≡ true)
split_and true c h = (refl, h)
split_and false c h = absurd cc

-- if all indexes are 0, the single zero record is in no window
zero-windows_from : (at : ℕ) (is : List ℕ) → at ≤ 0 → list_all (λ i. leb i 0) is ≡ true
    → windows_from (modulator_end ∷ []) at is ≡ windows_from [] at is
zero-windows_from at [] h all = refl
zero-windows_from at (i ∷ is) h all =
    let both = split_and (leb i 0) (list_all (λ j. leb j 0) is) all in
    let here : i - at ≡ 0 = omega (arith, leb-true i 0 both.0) in
    rw here (ap (λ l. [] ∷ l) (zero-windows_from i is (leb-true i 0 both.0) both.1))

zero-windows : (is : List ℕ) → list_all (λ i. leb i 0) is ≡ true → windows (modulator_end ∷ []) is ≡ windows [] is
zero-windows [] all = refl
zero-windows (i ∷ is) all =
    let both = split_and (leb i 0) (list_all (λ j. leb j 0) is) all in
    zero-windows_from i is (leb-true i 0 both.0) both.1

pub or_terminal-windows : (mods : List Modulator) (is : List ℕ)
    → list_all (λ i. leb i (length (or_terminal mods) - 1)) is ≡ true → windows (or_terminal mods) is ≡ windows mods is
or_terminal-windows [] is all = zero-windows is all
or_terminal-windows (m ∷ mods) is all = refl

pub or_terminal-bags : (bags : List Bag) (gens : List Generator) (mods : List Modulator)
    → list_all (λ i. leb i (length (or_terminal mods) - 1)) (map (λ (r : Bag). r.mods) bags) ≡ true
    → bags_in bags gens (or_terminal mods) ≡ bags_in bags gens mods
unfolding bags_in
or_terminal-bags bags gens mods all =
    ap (zip_with bagged (windows gens (map (λ (r : Bag). r.gens) bags)))
    (or_terminal-windows mods (map (λ (r : Bag). r.mods) bags) all)

-- ---- the number of windows

length-windows_from : {X : Type 0} (table : List X) (at : ℕ) (is : List ℕ)
    → length (windows_from table at is) ≡ length is
length-windows_from table at [] = refl
length-windows_from table at (i ∷ is) = ap suc (length-windows_from table i is)

pub length-windows : {X : Type 0} (table : List X) (is : List ℕ) → length (windows table is) ≡ length is - 1
length-windows table [] = refl
length-windows table (i ∷ is) = let h = length-windows_from table i is in omega (arith, h)

pub length-without_terminal : {X : Type 0} (xs : List X) → length (without_terminal xs) ≡ length xs - 1
length-without_terminal xs = length-take-le (length xs - 1) xs (omega arith)
