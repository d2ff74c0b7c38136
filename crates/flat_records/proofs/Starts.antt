-- The starts of consecutive members in a list.
use Rattle.std.proofs.Common.{◌≡◌, ℕ, ◌<◌, ◌≤◌, ◌+◌, suc, zero, List, [], ◌∷◌, ◌++◌, length, map, All, insert}
use Rattle.std.proofs.Common.{remove, slice_get, Some, refl, sym, ◌∙◌, ap, take, drop, get_or, ◌-◌, set}
use Rattle.std.proofs.Common.{append_assoc, length-append, length-take, length-drop, zero-add, suc-add, arith}
use Rattle.std.specs.List.{flat_map}
use Rattle.std.proofs.lemmas.List.Concat.{flat_map-append}
use Rattle.std.proofs.lemmas.List.Elements.{All-cons, All-nil}
use Rattle.std.proofs.lemmas.List.{drop-append-le, set-append_right, set-append_left}
use Rattle.flat_records.specs.Runs.{starts, changed_from, put, cut}

map_undone : {X : Type 0} (f g : X → X) → ((x : X) → f (g x) ≡ x) → (xs : List X) → map f (map g xs) ≡ xs
map_undone f g h [] = refl
map_undone f g h (x ∷ xs) = λ i. h x i ∷ map_undone f g h xs i

-- Members from an index on, changed and changed back.
pub changed_from-undone : {X : Type 0} (f g : X → X) → ((x : X) → g (f x) ≡ x) → (k : ℕ) (xs : List X)
    → changed_from k g (changed_from k f xs) ≡ xs
changed_from-undone f g h zero [] = refl
changed_from-undone f g h zero (x ∷ xs) = λ i. h x i ∷ changed_from-undone f g h zero xs i
changed_from-undone f g h (suc k) [] = refl
changed_from-undone f g h (suc k) (x ∷ xs) = ap (λ zs. x ∷ zs) (changed_from-undone f g h k xs)

-- A function that changes no member changes no list.
pub unchanged : {X : Type 0} (f : X → X) → ((x : X) → f x ≡ x) → (xs : List X) → xs ≡ map f xs
unchanged f h [] = refl
unchanged f h (x ∷ xs) = λ i. sym (h x) i ∷ unchanged f h xs i

-- An insertion or a removal in one of several concatenated lists.
pub put-right : {X : Type 0} (xs ys : List X) (j : ℕ) (zs : List X)
    → put (xs ++ ys) (length xs + j) zs ≡ xs ++ put ys j zs
put-right [] ys j zs = rw (zero-add j) refl
put-right (x ∷ xs) ys j zs = rw (suc-add (length xs) j) (ap (λ ws. x ∷ ws) (put-right xs ys j zs))

pub put-left : {X : Type 0} (xs ys : List X) (j : ℕ) (zs : List X) → j ≤ length xs
    → put (xs ++ ys) j zs ≡ put xs j zs ++ ys
put-left xs ys zero zs h = sym (append_assoc zs xs ys)
put-left [] ys (suc j) zs h = absurd (omega arith)
put-left (x ∷ xs) ys (suc j) zs h = ap (λ ws. x ∷ ws) (put-left xs ys j zs (omega arith))

pub cut-right : {X : Type 0} (xs ys : List X) (j n : ℕ) → cut (xs ++ ys) (length xs + j) n ≡ xs ++ cut ys j n
cut-right [] ys j n = rw (zero-add j) refl
cut-right (x ∷ xs) ys j n =
    rw (suc-add (length xs) j, suc-add (length xs + j) n) (ap (λ ws. x ∷ ws) (cut-right xs ys j n))

pub cut-left : {X : Type 0} (xs ys : List X) (j n : ℕ) → j + n ≤ length xs → cut (xs ++ ys) j n ≡ cut xs j n ++ ys
cut-left xs ys zero n h = rw (zero-add n) (drop-append-le n xs ys (omega arith))
cut-left [] ys (suc j) n h = absurd (omega arith)
cut-left (x ∷ xs) ys (suc j) n h = rw (suc-add j n) (ap (λ ws. x ∷ ws) (cut-left xs ys j n (omega arith)))

pub length-cut : {X : Type 0} (xs : List X) (j n : ℕ) → j + n ≤ length xs → length (cut xs j n) + n ≡ length xs
length-cut xs j n h = simp (length-append, length-take, length-drop) (omega arith)

pub length-put : {X : Type 0} (xs : List X) (j : ℕ) (zs : List X) → j ≤ length xs
    → length (put xs j zs) ≡ length xs + length zs
length-put xs j zs h = simp (length-append, length-take, length-drop) (omega arith)

-- A list of lists with one of them changed.
module _ {X Y : Type 0} (part : Y → List X) where
  pub flat-among : (front : List Y) (y : Y) (back : List Y) (rest : List X)
      → flat_map part (front ++ y ∷ back) ++ rest ≡ flat_map part front ++ (part y ++ (flat_map part back ++ rest))
  flat-among front y back rest =
      ap (λ xs. xs ++ rest) (flat_map-append part front (y ∷ back))
      ∙ (append_assoc (flat_map part front) (part y ++ flat_map part back) rest
      ∙ ap (λ xs. flat_map part front ++ xs) (append_assoc (part y) (flat_map part back) rest))

  pub flat-put : (front : List Y) (y z : Y) (back : List Y) (rest : List X) (at j : ℕ) (xs : List X)
      → at ≡ length (flat_map part front) → j ≤ length (part y) → part z ≡ put (part y) j xs
      → put (flat_map part (front ++ y ∷ back) ++ rest) (at + j) xs ≡ flat_map part (front ++ z ∷ back) ++ rest
  flat-put front y z back rest at j xs e h same =
      rw (
        e,
        flat-among front y back rest,
        flat-among front z back rest,
        put-right (flat_map part front) (part y ++ (flat_map part back ++ rest)) j xs,
        put-left (part y) (flat_map part back ++ rest) j xs h,
        same,
      )
      refl

  pub flat-cut : (front : List Y) (y z : Y) (back : List Y) (rest : List X) (at j n : ℕ)
      → at ≡ length (flat_map part front) → j + n ≤ length (part y) → part z ≡ cut (part y) j n
      → cut (flat_map part (front ++ y ∷ back) ++ rest) (at + j) n ≡ flat_map part (front ++ z ∷ back) ++ rest
  flat-cut front y z back rest at j n e h same =
      rw (
        e,
        flat-among front y back rest,
        flat-among front z back rest,
        cut-right (flat_map part front) (part y ++ (flat_map part back ++ rest)) j n,
        cut-left (part y) (flat_map part back ++ rest) j n h,
        same,
      )
      refl

  pub flat-set : (front : List Y) (y z : Y) (back : List Y) (rest : List X) (at j : ℕ) (x : X)
      → at ≡ length (flat_map part front) → j < length (part y) → part z ≡ set (part y) j x
      → set (flat_map part (front ++ y ∷ back) ++ rest) (at + j) x ≡ flat_map part (front ++ z ∷ back) ++ rest
  flat-set front y z back rest at j x e h same =
      let k : (length (flat_map part front) + j) - length (flat_map part front) ≡ j = omega arith in
      rw (
        e,
        flat-among front y back rest,
        flat-among front z back rest,
        set-append_right (flat_map part front) (part y ++ (flat_map part back ++ rest))
            (length (flat_map part front)) (length (flat_map part front) + j) x refl (omega arith),
        k,
        set-append_left (part y) (flat_map part back ++ rest) j x h,
        same,
      )
      refl

  pub flat-none : (front : List Y) (y : Y) (back : List Y) (rest : List X) → part y ≡ []
      → flat_map part (front ++ y ∷ back) ++ rest ≡ flat_map part (front ++ back) ++ rest
  flat-none front y back rest e = rw (flat_map-append part front (y ∷ back), flat_map-append part front back, e) refl

  pub flat-kept : (front : List Y) (y z : Y) (back : List Y) (rest : List X) → part y ≡ part z
      → flat_map part (front ++ y ∷ back) ++ rest ≡ flat_map part (front ++ z ∷ back) ++ rest
  flat-kept front y z back rest e = rw (flat-among front y back rest, flat-among front z back rest, e) refl

module _ {X M : Type 0} (past : M → X → M) where
  -- The starts without the end, and the end.
  abbrev pub begins : M → List X → List M
  begins at [] = []
  begins at (x ∷ xs) = at ∷ begins (past at x) xs

  abbrev pub end : M → List X → M
  end at [] = at
  end at (x ∷ xs) = end (past at x) xs

  pub length-begins : (at : M) (xs : List X) → length (begins at xs) ≡ length xs
  length-begins at [] = refl
  length-begins at (x ∷ xs) = ap suc (length-begins (past at x) xs)

  pub length-starts : (at : M) (xs : List X) → length (starts past at xs) ≡ suc (length xs)
  length-starts at [] = refl
  length-starts at (x ∷ xs) = ap suc (length-starts (past at x) xs)

  pub starts-append : (at : M) (xs ys : List X) → starts past at (xs ++ ys) ≡ begins at xs ++ starts past (end at xs) ys
  starts-append at [] ys = refl
  starts-append at (x ∷ xs) ys = ap (λ zs. at ∷ zs) (starts-append (past at x) xs ys)

  -- With another first start, s applies to each start.
  pub starts-shifted : (s : M → M) → ((m : M) (x : X) → s (past m x) ≡ past (s m) x) → (at : M) (xs : List X)
      → starts past (s at) xs ≡ map s (starts past at xs)
  starts-shifted s h at [] = refl
  starts-shifted s h at (x ∷ xs) =
      ap (λ m. s at ∷ starts past m xs) (sym (h at x)) ∙ ap (λ zs. s at ∷ zs) (starts-shifted s h (past at x) xs)

  -- The starts of a prefix.
  pub take-starts : (at : M) (xs ys : List X) → take (length xs) (starts past at (xs ++ ys)) ≡ begins at xs
  take-starts at [] ys = refl
  take-starts at (x ∷ xs) ys = ap (λ zs. at ∷ zs) (take-starts (past at x) xs ys)

  pub drop-starts : (at : M) (xs ys : List X)
      → drop (length xs) (starts past at (xs ++ ys)) ≡ starts past (end at xs) ys
  drop-starts at [] ys = refl
  drop-starts at (x ∷ xs) ys = drop-starts (past at x) xs ys

  pub at-starts : (at d : M) (xs ys : List X) → get_or (starts past at (xs ++ ys)) (length xs) d ≡ end at xs
  at-starts at d [] [] = refl
  at-starts at d [] (y ∷ ys) = refl
  at-starts at d (x ∷ xs) ys = at-starts (past at x) d xs ys

  -- With a member replaced, s applies to its end and to all later starts.
  pub starts-replaced : (s : M → M) → ((m : M) (x : X) → s (past m x) ≡ past (s m) x)
      → (at : M) (front : List X) (x y : X) (back : List X) → ((m : M) → s (past m x) ≡ past m y)
      → changed_from (suc (length front)) s (starts past at (front ++ x ∷ back)) ≡ starts past at (front ++ y ∷ back)
  starts-replaced s h at [] x y back e =
      ap (λ zs. at ∷ zs) (sym (starts-shifted s h (past at x) back) ∙ ap (λ m. starts past m back) (e at))
  starts-replaced s h at (z ∷ zs) x y back e = ap (λ ms. at ∷ ms) (starts-replaced s h (past at z) zs x y back e)

  pub starts-same : (at : M) (front : List X) (x y : X) (back : List X) → ((m : M) → past m x ≡ past m y)
      → starts past at (front ++ x ∷ back) ≡ starts past at (front ++ y ∷ back)
  starts-same at [] x y back e = ap (λ m. at ∷ starts past m back) (e at)
  starts-same at (z ∷ zs) x y back e = ap (λ ms. at ∷ ms) (starts-same (past at z) zs x y back e)

  -- An empty member inserted.
  pub starts-put : (at d : M) (front : List X) (x : X) (back : List X) → ((m : M) → past m x ≡ m)
      → insert (starts past at (front ++ back)) (length front)
      (get_or (starts past at (front ++ back)) (length front) d)
      ≡ starts past at (front ++ x ∷ back)
  starts-put at d [] x [] e = ap (λ m. at ∷ m ∷ []) (sym (e at))
  starts-put at d [] x (y ∷ ys) e = ap (λ m. at ∷ starts past m (y ∷ ys)) (sym (e at))
  starts-put at d (z ∷ zs) x back e = ap (λ ms. at ∷ ms) (starts-put (past at z) d zs x back e)

  -- An empty member removed.
  pub starts-cut : (at : M) (front : List X) (x : X) (back : List X) → ((m : M) → past m x ≡ m)
      → remove (starts past at (front ++ x ∷ back)) (length front) ≡ starts past at (front ++ back)
  starts-cut at [] x back e = ap (λ m. starts past m back) (e at)
  starts-cut at (z ∷ zs) x back e = ap (λ ms. at ∷ ms) (starts-cut (past at z) zs x back e)

  pub next-starts : (at d : M) (front : List X) (x : X) (back : List X)
      → get_or (starts past at (front ++ x ∷ back)) (suc (length front)) d ≡ past (end at front) x
  next-starts at d [] x [] = refl
  next-starts at d [] x (y ∷ ys) = refl
  next-starts at d (z ∷ zs) x back = next-starts (past at z) d zs x back

  pub drop-past : (at : M) (front : List X) (x : X) (back : List X)
      → drop (suc (length front)) (starts past at (front ++ x ∷ back)) ≡ starts past (past (end at front) x) back
  drop-past at [] x back = refl
  drop-past at (z ∷ zs) x back = drop-past (past at z) zs x back

  pub starts-first : (at : M) (xs : List X) → slice_get (starts past at xs) 0 ≡ Some at
  starts-first at [] = refl
  starts-first at (x ∷ xs) = refl

  pub starts-end : (at : M) (xs : List X) → slice_get (starts past at xs) (length xs) ≡ Some (end at xs)
  starts-end at [] = refl
  starts-end at (x ∷ xs) = starts-end (past at x) xs

  -- A property that `past` keeps holds for all starts.
  pub All-starts : (P : M → Type 0) → ((m : M) (x : X) → P m → P (past m x)) → (at : M) (xs : List X) → P at
      → All P (starts past at xs)
  All-starts P h at [] p = All-cons P at [] p (All-nil P)
  All-starts P h at (x ∷ xs) p = All-cons P at (starts past (past at x) xs) p (All-starts P h (past at x) xs (h at x p))

  -- A property that `past` keeps backwards holds for the first start.
  pub at_first : (P : M → Type 0) → ((m : M) (x : X) → P (past m x) → P m) → (at : M) (xs : List X) → P (end at xs)
      → P at
  at_first P h at [] p = p
  at_first P h at (x ∷ xs) p = h at x (at_first P h (past at x) xs p)

  pub All-starts_back : (P : M → Type 0) → ((m : M) (x : X) → P (past m x) → P m) → (at : M) (xs : List X)
      → P (end at xs) → All P (starts past at xs)
  All-starts_back P h at [] p = All-cons P at [] p (All-nil P)
  All-starts_back P h at (x ∷ xs) p =
      All-cons P at (starts past (past at x) xs) (at_first P h at (x ∷ xs) p) (All-starts_back P h (past at x) xs p)

  -- ---- exchanges of neighbouring runs

  pub begins-shifted : (s : M → M) → ((m : M) (x : X) → s (past m x) ≡ past (s m) x) → (at : M) (xs : List X)
      → begins (s at) xs ≡ map s (begins at xs)
  begins-shifted s h at [] = refl
  begins-shifted s h at (x ∷ xs) =
      ap (λ m. s at ∷ begins m xs) (sym (h at x)) ∙ ap (λ zs. s at ∷ zs) (begins-shifted s h (past at x) xs)

  pub end-shifted : (s : M → M) → ((m : M) (x : X) → s (past m x) ≡ past (s m) x) → (at : M) (xs : List X)
      → end (s at) xs ≡ s (end at xs)
  end-shifted s h at [] = refl
  end-shifted s h at (x ∷ xs) = ap (λ m. end m xs) (sym (h at x)) ∙ end-shifted s h (past at x) xs

  pub end-append : (at : M) (xs ys : List X) → end at (xs ++ ys) ≡ end (end at xs) ys
  end-append at [] ys = refl
  end-append at (x ∷ xs) ys = end-append (past at x) xs ys

  pub All-begins : (P : M → Type 0) → ((m : M) (x : X) → P m → P (past m x)) → (at : M) (xs : List X) → P at
      → All P (begins at xs)
  All-begins P h at [] p = All-nil P
  All-begins P h at (x ∷ xs) p = All-cons P at (begins (past at x) xs) p (All-begins P h (past at x) xs (h at x p))

  pub All-begins_back : (P : M → Type 0) → ((m : M) (x : X) → P (past m x) → P m) → (at : M) (xs : List X)
      → P (end at xs) → All P (begins at xs)
  All-begins_back P h at [] p = All-nil P
  All-begins_back P h at (x ∷ xs) p =
      All-cons P at (begins (past at x) xs) (at_first P h at (x ∷ xs) p) (All-begins_back P h (past at x) xs p)

  -- The starts of four runs.
  pub starts-parts : (at : M) (ws xs ys zs : List X)
      → starts past at (ws ++ (xs ++ (ys ++ zs)))
      ≡ begins at ws
      ++ (begins (end at ws) xs ++ (begins (end (end at ws) xs) ys ++ starts past (end (end (end at ws) xs) ys) zs))
  starts-parts at ws xs ys zs =
      starts-append at ws (xs ++ (ys ++ zs))
      ∙ ap (λ ms. begins at ws ++ ms)
      (starts-append (end at ws) xs (ys ++ zs)
      ∙ ap (λ ms. begins (end at ws) xs ++ ms) (starts-append (end (end at ws) xs) ys zs))

  -- r maps the start of xs to its end, and l is its inverse; s maps the start of ys, if first, to its end.
  pub starts-exchanged : (r l s : M → M) → ((m : M) (x : X) → r (past m x) ≡ past (r m) x)
      → ((m : M) (x : X) → s (past m x) ≡ past (s m) x) → ((m : M) → l (r m) ≡ m) → ((m : M) → r (s m) ≡ s (r m))
      → (at : M) (ws xs ys zs : List X) → end (end at ws) xs ≡ r (end at ws) → end (end at ws) ys ≡ s (end at ws)
      → begins at ws
      ++
      (map l (begins (end (end at ws) xs) ys)
      ++ (map s (begins (end at ws) xs) ++ starts past (end (end (end at ws) xs) ys) zs))
      ≡ starts past at (ws ++ (ys ++ (xs ++ zs)))
  starts-exchanged r l s hr hs undo swap at ws xs ys zs e f =
      let m = end at ws in
      let second : map l (begins (end m xs) ys) ≡ begins m ys =
      ap (λ n. map l (begins n ys)) e ∙ (ap (map l) (begins-shifted r hr m ys) ∙ map_undone l r undo (begins m ys)) in
      let third : map s (begins m xs) ≡ begins (end m ys) xs =
      sym (begins-shifted s hs m xs) ∙ ap (λ n. begins n xs) (sym f) in
      let last : end (end m xs) ys ≡ end (end m ys) xs =
      ap (λ n. end n ys) e
      ∙ (end-shifted r hr m ys
      ∙ (ap r f ∙ (swap m ∙ (ap s (sym e) ∙ (sym (end-shifted s hs m xs) ∙ ap (λ n. end n xs) (sym f)))))) in
      (λ i. begins at ws ++ (second i ++ (third i ++ starts past (last i) zs))) ∙ sym (starts-parts at ws ys xs zs)
