-- Lists changed after a prefix, and properties of all members.
use Rattle.std.proofs.Common.{◌≡◌, ℕ, ◌<◌, ◌≤◌, ◌+◌, suc, zero, List, [], ◌∷◌, ◌++◌, length, insert, remove}
use Rattle.std.proofs.Common.{slice_get, set, take, drop, Some, refl, sym, subst, ◌∙◌, ap, zero-add, suc-add, arith}
use Rattle.std.specs.List.{AllByRecursion}
use Rattle.base_numbered_lists.specs.Moved.{moved, changed}
use Rattle.base_numbered_lists.proofs.Lists.{slice_get-found, slice_get-within, moved-found, changed-found}
use Rattle.flat_records.specs.Runs.{put, cut}

-- ---- properties of all members

module _ {X : Type 0} (P : X → Type 0) where
  pub everywhere-found : (xs : List X) (i : ℕ) (x : X) → slice_get xs i ≡ Some x → AllByRecursion P xs → P x
  everywhere-found [] i x e p = cc
  everywhere-found (y ∷ ys) zero x e p = let same : y ≡ x = cc in subst P same p.0
  everywhere-found (y ∷ ys) (suc i) x e p = everywhere-found ys i x e p.1

  pub everywhere-set : (xs : List X) (i : ℕ) (x : X) → P x → AllByRecursion P xs → AllByRecursion P (set xs i x)
  everywhere-set [] i x q p = tt
  everywhere-set (y ∷ ys) zero x q p = (q, p.1)
  everywhere-set (y ∷ ys) (suc i) x q p = (p.0, everywhere-set ys i x q p.1)

  pub everywhere-remove : (xs : List X) (i : ℕ) → AllByRecursion P xs → AllByRecursion P (remove xs i)
  everywhere-remove [] zero p = p
  everywhere-remove [] (suc i) p = p
  everywhere-remove (y ∷ ys) zero p = p.1
  everywhere-remove (y ∷ ys) (suc i) p = (p.0, everywhere-remove ys i p.1)

  pub everywhere-insert : (xs : List X) (i : ℕ) (x : X) → P x → AllByRecursion P xs → AllByRecursion P (insert xs i x)
  everywhere-insert xs zero x q p = (q, p)
  everywhere-insert [] (suc i) x q p = (q, p)
  everywhere-insert (y ∷ ys) (suc i) x q p = (p.0, everywhere-insert ys i x q p.1)

  pub everywhere-moved : (xs : List X) (i j : ℕ) → i < length xs → AllByRecursion P xs → AllByRecursion P (moved xs i j)
  everywhere-moved xs i j h p =
      let (x, e) = slice_get-found xs i h in
      subst (AllByRecursion P) (sym (moved-found xs i j x e))
      (everywhere-insert (remove xs i) j x (everywhere-found xs i x e p) (everywhere-remove xs i p))

  pub everywhere-changed : (xs : List X) (i : ℕ) (f : X → X) (x : X) → slice_get xs i ≡ Some x → P (f x)
      → AllByRecursion P xs → AllByRecursion P (changed xs i f)
  everywhere-changed xs i f x e q p =
      subst (AllByRecursion P) (sym (changed-found xs i f x e)) (everywhere-set xs i (f x) q p)

  -- of an inserted or a replaced member
  pub everywhere-inserted : (xs : List X) (i : ℕ) (x : X) → AllByRecursion P (insert xs i x) → P x
  everywhere-inserted xs zero x p = p.0
  everywhere-inserted [] (suc i) x p = p.0
  everywhere-inserted (y ∷ ys) (suc i) x p = everywhere-inserted ys i x p.1

  everywhere-in_place : (xs : List X) (i : ℕ) (x : X) → i < length xs → AllByRecursion P (set xs i x) → P x
  everywhere-in_place [] i x h p = absurd (omega arith)
  everywhere-in_place (y ∷ ys) zero x h p = p.0
  everywhere-in_place (y ∷ ys) (suc i) x h p = everywhere-in_place ys i x (omega arith) p.1

  pub everywhere-sent : (xs : List X) (i : ℕ) (f : X → X) (x : X) → slice_get xs i ≡ Some x
      → AllByRecursion P (changed xs i f) → P (f x)
  everywhere-sent xs i f x e p =
      everywhere-in_place xs i (f x) (slice_get-within xs i x e)
      (subst (AllByRecursion P) (changed-found xs i f x e) p)

-- ---- after a prefix

module _ {X : Type 0} where
  pub get-right : (ws ys : List X) (k : ℕ) → slice_get (ws ++ ys) (length ws + k) ≡ slice_get ys k
  get-right [] ys k = ap (slice_get ys) (zero-add k)
  get-right (a ∷ ws) ys k = ap (slice_get (a ∷ (ws ++ ys))) (suc-add (length ws) k) ∙ get-right ws ys k

  pub set-right : (ws ys : List X) (k : ℕ) (x : X) → set (ws ++ ys) (length ws + k) x ≡ ws ++ set ys k x
  set-right [] ys k x = ap (λ n. set ys n x) (zero-add k)
  set-right (w ∷ ws) ys k x =
      ap (λ n. set (w ∷ (ws ++ ys)) n x) (suc-add (length ws) k) ∙ ap (λ zs. w ∷ zs) (set-right ws ys k x)

  pub insert-right : (ws ys : List X) (k : ℕ) (x : X) → insert (ws ++ ys) (length ws + k) x ≡ ws ++ insert ys k x
  insert-right [] ys k x = ap (λ n. insert ys n x) (zero-add k)
  insert-right (w ∷ ws) ys k x =
      ap (λ n. insert (w ∷ (ws ++ ys)) n x) (suc-add (length ws) k) ∙ ap (λ zs. w ∷ zs) (insert-right ws ys k x)

  pub remove-right : (ws ys : List X) (k : ℕ) → remove (ws ++ ys) (length ws + k) ≡ ws ++ remove ys k
  remove-right [] ys k = ap (remove ys) (zero-add k)
  remove-right (w ∷ ws) ys k =
      ap (remove (w ∷ (ws ++ ys))) (suc-add (length ws) k) ∙ ap (λ zs. w ∷ zs) (remove-right ws ys k)

  pub moved-right : (ws ys : List X) (i j : ℕ) → i < length ys
      → moved (ws ++ ys) (length ws + i) (length ws + j) ≡ ws ++ moved ys i j
  moved-right ws ys i j h =
      let (y, there) = slice_get-found ys i h in
      moved-found (ws ++ ys) (length ws + i) (length ws + j) y (get-right ws ys i ∙ there)
      ∙ (ap (λ zs. insert zs (length ws + j) y) (remove-right ws ys i)
      ∙ (insert-right ws (remove ys i) j y ∙ ap (λ zs. ws ++ zs) (sym (moved-found ys i j y there))))

  pub changed-right : (ws ys : List X) (k : ℕ) (f : X → X) (y : X) → slice_get ys k ≡ Some y
      → changed (ws ++ ys) (length ws + k) f ≡ ws ++ changed ys k f
  changed-right ws ys k f y there =
      changed-found (ws ++ ys) (length ws + k) f y (get-right ws ys k ∙ there)
      ∙ (set-right ws ys k (f y) ∙ ap (λ zs. ws ++ zs) (sym (changed-found ys k f y there)))

  pub get-last : (xs : List X) (x : X) → slice_get (xs ++ x ∷ []) (length xs) ≡ Some x
  get-last [] x = refl
  get-last (y ∷ ys) x = get-last ys x

  pub remove-last : (xs : List X) (x : X) → remove (xs ++ x ∷ []) (length xs) ≡ xs
  remove-last [] x = refl
  remove-last (y ∷ ys) x = ap (λ zs. y ∷ zs) (remove-last ys x)

  -- the last one moved to its index
  pub moved-last : (xs : List X) (x : X) (i : ℕ) → moved (xs ++ x ∷ []) (length xs) i ≡ insert xs i x
  moved-last xs x i =
      moved-found (xs ++ x ∷ []) (length xs) i x (get-last xs x) ∙ ap (λ zs. insert zs i x) (remove-last xs x)

  pub insert-last : (xs : List X) (x : X) → insert xs (length xs) x ≡ xs ++ x ∷ []
  insert-last [] x = refl
  insert-last (y ∷ ys) x = ap (λ zs. y ∷ zs) (insert-last ys x)

  pub set-last : (xs : List X) (x y : X) → set (xs ++ x ∷ []) (length xs) y ≡ xs ++ y ∷ []
  set-last [] x y = refl
  set-last (z ∷ zs) x y = ap (λ ws. z ∷ ws) (set-last zs x y)

  -- ---- before a suffix

  pub get-left : (ws ys : List X) (k : ℕ) → k < length ws → slice_get (ws ++ ys) k ≡ slice_get ws k
  get-left [] ys k h = absurd (omega arith)
  get-left (w ∷ ws) ys zero h = refl
  get-left (w ∷ ws) ys (suc k) h = get-left ws ys k (omega arith)

  pub set-left : (ws ys : List X) (k : ℕ) (x : X) → k < length ws → set (ws ++ ys) k x ≡ set ws k x ++ ys
  set-left [] ys k x h = absurd (omega arith)
  set-left (w ∷ ws) ys zero x h = refl
  set-left (w ∷ ws) ys (suc k) x h = ap (λ zs. w ∷ zs) (set-left ws ys k x (omega arith))

  pub put-left : (ws ys : List X) (k : ℕ) (x : X) → k ≤ length ws → put (ws ++ ys) k (x ∷ []) ≡ insert ws k x ++ ys
  put-left ws ys zero x h = refl
  put-left [] ys (suc k) x h = absurd (omega arith)
  put-left (w ∷ ws) ys (suc k) x h = ap (λ zs. w ∷ zs) (put-left ws ys k x (omega arith))

  pub cut-left : (ws ys : List X) (k : ℕ) → k < length ws → cut (ws ++ ys) k 1 ≡ remove ws k ++ ys
  cut-left [] ys k h = absurd (omega arith)
  cut-left (w ∷ ws) ys zero h = refl
  cut-left (w ∷ ws) ys (suc k) h =
      ap (λ n. take (suc k) (w ∷ (ws ++ ys)) ++ drop n (w ∷ (ws ++ ys))) (suc-add k 1)
      ∙ ap (λ zs. w ∷ zs) (cut-left ws ys k (omega arith))

  pub put-one : (xs : List X) (k : ℕ) (x : X) → put xs k (x ∷ []) ≡ insert xs k x
  put-one xs k x = refl

  pub cut-one : (xs : List X) (k : ℕ) → k < length xs → cut xs k 1 ≡ remove xs k
  cut-one [] k h = absurd (omega arith)
  cut-one (x ∷ xs) zero h = refl
  cut-one (x ∷ xs) (suc k) h =
      ap (λ n. take (suc k) (x ∷ xs) ++ drop n (x ∷ xs)) (suc-add k 1)
      ∙ ap (λ zs. x ∷ zs) (cut-one xs k (omega arith))

  pub length-insert : (xs : List X) (k : ℕ) (x : X) → k ≤ length xs → length (insert xs k x) ≡ suc (length xs)
  length-insert xs zero x h = refl
  length-insert [] (suc k) x h = absurd (omega arith)
  length-insert (y ∷ ys) (suc k) x h = ap suc (length-insert ys k x (omega arith))

  pub length-cut : (xs : List X) (k : ℕ) → k < length xs → suc (length (remove xs k)) ≡ length xs
  length-cut [] k h = absurd (omega arith)
  length-cut (x ∷ xs) zero h = refl
  length-cut (x ∷ xs) (suc k) h = ap suc (length-cut xs k (omega arith))
