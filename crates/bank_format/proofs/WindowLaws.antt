-- Lists concatenated into a table are the windows of that table at their starts.
use Rattle.std.proofs.Common.{◌≡◌, ◌≤◌, ◌+◌, ◌-◌, ℕ, zero, suc, List, [], ◌∷◌, ◌++◌, length, take, map, refl, sym}
use Rattle.std.proofs.Common.{ap, ◌∙◌, append_assoc, arith}
use Rattle.std.specs.List.{flat_map, slice_range}
use Rattle.std.proofs.lemmas.List.{length-append, length-map, append-nil, take_at, drop_at}
use Rattle.bank_format.specs.Windows.{ends, starts, windows_from, windows, zip_with, without_terminal}

-- a list in the middle of a table
pub window-again : {X : Type 0} (before xs rest : List X) (a b : ℕ) → a ≡ length before
    → b ≡ length before + length xs → slice_range (before ++ (xs ++ rest)) a b ≡ xs
window-again before xs rest a b ea eb =
    ap (take (b - a)) (drop_at before (xs ++ rest) a (sym ea)) ∙ take_at xs rest (b - a) (omega (arith, ea, eb))

pub without_terminal-push : {X : Type 0} (xs : List X) (x : X) → without_terminal (xs ++ x ∷ []) ≡ xs
without_terminal-push xs x = take_at xs (x ∷ []) (length (xs ++ x ∷ []) - 1) (let a = length-append xs (x ∷ []) in omega (arith, a))

module _ {X Y : Type 0} (f : Y → List X) where
  abbrev pub sizes : List Y → List ℕ
  sizes ys = map (λ y. length (f y)) ys

  windows_from-again : (before rest : List X) (ys : List Y) (at : ℕ) → at ≡ length before
      → windows_from (before ++ (flat_map f ys ++ rest)) at (ends at (sizes ys)) ≡ map f ys
  windows_from-again before rest [] at e = refl
  windows_from-again before rest (y ∷ ys) at e =
      let later = flat_map f ys ++ rest in
      let grouped : before ++ ((f y ++ flat_map f ys) ++ rest) ≡ before ++ (f y ++ later) =
      ap (λ (t : List X). before ++ t) (append_assoc (f y) (flat_map f ys) rest) in
      let moved : before ++ (f y ++ later) ≡ (before ++ f y) ++ later = sym (append_assoc before (f y) later) in
      let next =
      windows_from-again (before ++ f y) rest ys (at + length (f y))
      (omega (arith, e, length-append before (f y))) in
      ap (λ (t : List X). windows_from t at (ends at (sizes (y ∷ ys)))) grouped
      ∙ ap
      (λ (x : List X).
      x ∷ windows_from (before ++ (f y ++ later)) (at + length (f y)) (ends (at + length (f y)) (sizes ys)))
      (window-again before (f y) later at (at + length (f y)) e (omega (arith, e)))
      ∙ ap (λ (t : List X). f y ∷ windows_from t (at + length (f y)) (ends (at + length (f y)) (sizes ys))) moved
      ∙ ap (λ (xs : List (List X)). f y ∷ xs) next

  -- the windows of a table at the running sums of the lists' lengths are those lists
  pub windows-again : (ys : List Y) (rest : List X) → windows (flat_map f ys ++ rest) (starts (sizes ys)) ≡ map f ys
  windows-again ys rest = windows_from-again [] rest ys 0 refl

  -- the same when nothing follows the lists
  pub windows-all : (ys : List Y) → windows (flat_map f ys) (starts (sizes ys)) ≡ map f ys
  windows-all ys =
      ap (λ (t : List X). windows t (starts (sizes ys))) (sym (append-nil (flat_map f ys))) ∙ windows-again ys []

-- ---- where lists begin

-- the total length of lists of these sizes
abbrev pub total : List ℕ → ℕ
total [] = 0
total (n ∷ ns) = n + total ns

pub length-flat : {X Y : Type 0} (f : Y → List X) (ys : List Y) → length (flat_map f ys) ≡ total (sizes f ys)
length-flat f [] = refl
length-flat f (y ∷ ys) = let a = length-append (f y) (flat_map f ys) in let r = length-flat f ys in omega (arith, a, r)

length-ends : (at : ℕ) (ns : List ℕ) → length (ends at ns) ≡ length ns
length-ends at [] = refl
length-ends at (n ∷ ns) = ap suc (length-ends (at + n) ns)

pub length-starts : {X Y : Type 0} (f : Y → List X) (ys : List Y) → length (starts (sizes f ys)) ≡ suc (length ys)
length-starts f ys =
    let a = length-ends 0 (sizes f ys) in let b = length-map ys (λ y. length (f y)) in omega (arith, a, b)

-- ---- zipped lists

-- projecting the zip of two lists
pub map-together_left : {X Y Z : Type 0} (f : X → Y → Z) (g : Z → X) → ((x : X) (y : Y) → g (f x y) ≡ x)
    → (xs : List X) (ys : List Y) → length xs ≤ length ys → map g (zip_with f xs ys) ≡ xs
map-together_left f g same [] ys le = refl
map-together_left f g same (x ∷ xs) [] le = absurd (omega arith)
map-together_left f g same (x ∷ xs) (y ∷ ys) le = λ i. same x y i ∷ map-together_left f g same xs ys (omega arith) i

pub map-together_right : {X Y Z : Type 0} (f : X → Y → Z) (g : Z → Y) → ((x : X) (y : Y) → g (f x y) ≡ y)
    → (xs : List X) (ys : List Y) → length ys ≤ length xs → map g (zip_with f xs ys) ≡ ys
map-together_right f g same [] [] le = refl
map-together_right f g same [] (y ∷ ys) le = absurd (omega arith)
map-together_right f g same (x ∷ xs) [] le = refl
map-together_right f g same (x ∷ xs) (y ∷ ys) le = λ i. same x y i ∷ map-together_right f g same xs ys (omega arith) i

-- zipping the two projections of a list
pub zip_with-maps : {X Y Z W : Type 0} (f : X → Y → Z) (g : W → X) (h : W → Y) (ws : List W)
    → zip_with f (map g ws) (map h ws) ≡ map (λ w. f (g w) (h w)) ws
zip_with-maps f g h [] = refl
zip_with-maps {Z = Z} f g h (w ∷ ws) = ap (λ (zs : List Z). f (g w) (h w) ∷ zs) (zip_with-maps f g h ws)

-- elements after the shorter list's end are ignored
pub zip_with-take : {X Y Z : Type 0} (f : X → Y → Z) (n : ℕ) (xs : List X) (ys : List Y) → length ys ≤ n
    → zip_with f (take n xs) ys ≡ zip_with f xs ys
zip_with-take f zero [] ys le = refl
zip_with-take f (suc n) [] ys le = refl
zip_with-take f zero (x ∷ xs) [] le = refl
zip_with-take f zero (x ∷ xs) (y ∷ ys) le = absurd (omega arith)
zip_with-take f (suc n) (x ∷ xs) [] le = refl
zip_with-take {Z = Z} f (suc n) (x ∷ xs) (y ∷ ys) le =
    ap (λ (zs : List Z). f x y ∷ zs) (zip_with-take f n xs ys (omega arith))

pub length-zip_with : {X Y Z : Type 0} (f : X → Y → Z) (xs : List X) (ys : List Y) → length xs ≡ length ys
    → length (zip_with f xs ys) ≡ length xs
length-zip_with f [] ys e = refl
length-zip_with f (x ∷ xs) [] e = absurd (omega (arith, e))
length-zip_with f (x ∷ xs) (y ∷ ys) e = ap suc (length-zip_with f xs ys (omega (arith, e)))
