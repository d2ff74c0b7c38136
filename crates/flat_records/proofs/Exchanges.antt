-- Exchanges of neighbouring ranges of a list.
use Rattle.std.proofs.Common.{◌≡◌, ℕ, ◌≤◌, ◌+◌, ◌-◌, List, ◌++◌, length, sym, ◌∙◌, ap, take, drop, map, append_assoc}
use Rattle.std.proofs.Common.{length-append, length-take, length-drop, arith}
use Rattle.std.proofs.lemmas.List.{take_at, drop_at, take-take, drop-take, drop-drop, take-append-drop}
use Rattle.std.proofs.lemmas.List.{length-take-le, length-map}
use Rattle.base_numbered_lists.specs.Moved.{changed_within}
use Rattle.flat_records.specs.Runs.{exchanged, changed_exchanged}

module _ {X : Type 0} (xs : List X) where
  window : (a c : ℕ) → a ≤ c → take (c - a) (drop a xs) ≡ drop a (take c xs)
  window a c h = let n : a + (c - a) ≡ c = omega arith in sym (drop-take a (c - a) xs) ∙ ap (λ n. drop a (take n xs)) n

  -- The result of a rotation of the range a..c.
  pub turned : (a b c : ℕ) → a ≤ b → b ≤ c
      → take a xs
      ++
      ((drop (b - a) (take (c - a) (drop a xs)) ++ take (b - a) (take (c - a) (drop a xs)))
      ++ drop (c - a) (drop a xs))
      ≡ exchanged xs a b c
  turned a b c h1 h2 =
      let m : a + (b - a) ≡ b = omega arith in
      let n : a + (c - a) ≡ c = omega arith in
      let second : drop (b - a) (take (c - a) (drop a xs)) ≡ drop b (take c xs) =
      ap (drop (b - a)) (window a c (omega arith))
      ∙ (drop-drop (b - a) a (take c xs) ∙ ap (λ n. drop n (take c xs)) m) in
      let first : take (b - a) (take (c - a) (drop a xs)) ≡ drop a (take b xs) =
      take-take (b - a) (c - a) (drop a xs) (omega arith) ∙ window a b h1 in
      let rest : drop (c - a) (drop a xs) ≡ drop c xs = drop-drop (c - a) a xs ∙ ap (λ n. drop n xs) n in
      rw (second, first, rest)
      (ap (λ ys. take a xs ++ ys) (append_assoc (drop b (take c xs)) (drop a (take b xs)) (drop c xs)))

-- Four parts of a list, by the indexes between them.
pub record Parts {X : Type 0} (all ws xs ys zs : List X) (a b c : ℕ) : Type 0 where
  pub first : take a all ≡ ws
  pub second : drop a (take b all) ≡ xs
  pub third : drop b (take c all) ≡ ys
  pub last : drop c all ≡ zs

pub parts : {X : Type 0} (ws xs ys zs : List X) (a b c : ℕ) → a ≡ length ws → b ≡ length ws + length xs
    → c ≡ length ws + (length xs + length ys)
    → Parts (ws ++ (xs ++ (ys ++ zs))) ws xs ys zs a b c
parts ws xs ys zs a b c e f g =
    let through : (ws ++ xs) ++ (ys ++ zs) ≡ ws ++ (xs ++ (ys ++ zs)) = append_assoc ws xs (ys ++ zs) in
    let all : ((ws ++ xs) ++ ys) ++ zs ≡ ws ++ (xs ++ (ys ++ zs)) = append_assoc (ws ++ xs) ys zs ∙ through in
    let b_is : length (ws ++ xs) ≡ b = simp length-append (sym f) in
    let c_is : length ((ws ++ xs) ++ ys) ≡ c = omega (arith, length-append (ws ++ xs) ys, length-append ws xs) in
    let upto_c : take c (ws ++ (xs ++ (ys ++ zs))) ≡ (ws ++ xs) ++ ys =
    ap (take c) (sym all) ∙ take_at ((ws ++ xs) ++ ys) zs c c_is in
    let upto_b : take b (ws ++ (xs ++ (ys ++ zs))) ≡ ws ++ xs =
    ap (take b) (sym through) ∙ take_at (ws ++ xs) (ys ++ zs) b b_is in
    record {
      first = take_at ws (xs ++ (ys ++ zs)) a (sym e);
      second = ap (drop a) upto_b ∙ drop_at ws xs a (sym e);
      third = ap (drop b) upto_c ∙ drop_at (ws ++ xs) ys b b_is;
      last = ap (drop c) (sym all) ∙ drop_at ((ws ++ xs) ++ ys) zs c c_is;
    }

pub exchanged-parts : {X : Type 0} (ws xs ys zs : List X) (a b c : ℕ) → a ≡ length ws → b ≡ length ws + length xs
    → c ≡ length ws + (length xs + length ys)
    → exchanged (ws ++ (xs ++ (ys ++ zs))) a b c ≡ ws ++ (ys ++ (xs ++ zs))
exchanged-parts ws xs ys zs a b c e f g =
    let p = parts ws xs ys zs a b c e f g in
    λ i. p.first i ++ (p.third i ++ (p.second i ++ p.last i))

-- Any list in four parts.
pub record Quarters {X : Type 0} (xs : List X) (a b c : ℕ) : Type 0 where
  pub whole : xs ≡ take a xs ++ (drop a (take b xs) ++ (drop b (take c xs) ++ drop c xs))
  pub first : a ≡ length (take a xs)
  pub second : b ≡ length (take a xs) + length (drop a (take b xs))
  pub third : c ≡ length (take a xs) + (length (drop a (take b xs)) + length (drop b (take c xs)))

upto : {X : Type 0} (xs : List X) (a b : ℕ) → a ≤ b → take a xs ++ drop a (take b xs) ≡ take b xs
upto xs a b h = ap (λ ys. ys ++ drop a (take b xs)) (sym (take-take a b xs h)) ∙ take-append-drop a (take b xs)

pub quarters : {X : Type 0} (xs : List X) (a b c : ℕ) → a ≤ b → b ≤ c → c ≤ length xs → Quarters xs a b c
quarters xs a b c h1 h2 h3 =
    let ws = take a xs in
    let ps = drop a (take b xs) in
    let qs = drop b (take c xs) in
    let zs = drop c xs in
    record {
      whole =
          sym (sym (append_assoc ws ps (qs ++ zs))
          ∙ (ap (λ ys. ys ++ (qs ++ zs)) (upto xs a b h1)
          ∙ (sym (append_assoc (take b xs) qs zs)
          ∙ (ap (λ ys. ys ++ zs) (upto xs b c h2) ∙ take-append-drop c xs))));
      first = sym (length-take-le a xs (omega arith));
      second = omega (arith, length-take a xs, length-drop a (take b xs), length-take b xs);
      third =
          omega (
            arith,
            length-take a xs,
            length-drop a (take b xs),
            length-take b xs,
            length-drop b (take c xs),
            length-take c xs,
          );
    }

pub within_of : {X : Type 0} (xs : List X) (a b : ℕ) (f : X → X) → a ≤ b
    → take a xs ++ (map f (take (b - a) (drop a xs)) ++ drop (b - a) (drop a xs)) ≡ changed_within a b f xs
within_of xs a b f h =
    let n : a + (b - a) ≡ b = omega arith in
    let rest : drop (b - a) (drop a xs) ≡ drop b xs = drop-drop (b - a) a xs ∙ ap (λ n. drop n xs) n in
    λ i. take a xs ++ (map f (window xs a b h i) ++ rest i)

-- A change g of the first range keeps the second range.
pub following : {X : Type 0} (xs : List X) (a b c : ℕ) (g : X → X) → a ≤ b → b ≤ c → c ≤ length xs
    → changed_within a b g xs ≡ take a xs ++ (map g (drop a (take b xs)) ++ (drop b (take c xs) ++ drop c xs))
following xs a b c g h1 h2 h3 =
    let front : length (take b xs) ≡ b = length-take-le b xs (omega arith) in
    let whole : take b xs ++ (drop b (take c xs) ++ drop c xs) ≡ xs =
    sym (append_assoc (take b xs) (drop b (take c xs)) (drop c xs))
    ∙ (ap (λ ys. ys ++ drop c xs) (upto xs b c h2) ∙ take-append-drop c xs) in
    let last : drop b xs ≡ drop b (take c xs) ++ drop c xs =
    ap (drop b) (sym whole) ∙ drop_at (take b xs) (drop b (take c xs) ++ drop c xs) b front in
    ap (λ zs. take a xs ++ (map g (drop a (take b xs)) ++ zs)) last

pub second_stays : {X : Type 0} (xs : List X) (a b c : ℕ) (g : X → X) → a ≤ b → b ≤ c → c ≤ length xs
    → drop b (take c (changed_within a b g xs)) ≡ drop b (take c xs)
second_stays xs a b c g h1 h2 h3 =
    let q = quarters xs a b c h1 h2 h3 in
    let n = length-map (drop a (take b xs)) g in
    let e1 = q.first in
    let e2 = q.second in
    let e3 = q.third in
    let p =
    parts (take a xs) (map g (drop a (take b xs))) (drop b (take c xs)) (drop c xs) a b c e1 (omega arith)
    (omega arith) in
    ap (λ ys. drop b (take c ys)) (following xs a b c g h1 h2 h3) ∙ p.third

-- Changes of both ranges, then their exchange.
pub changed-exchanged : {X : Type 0} (xs : List X) (a b c : ℕ) (f g : X → X) → a ≤ b → b ≤ c → c ≤ length xs
    → exchanged (changed_within b c f (changed_within a b g xs)) a b c ≡ changed_exchanged a b c f g xs
changed-exchanged xs a b c f g h1 h2 h3 =
    let q = quarters xs a b c h1 h2 h3 in
    let ws = take a xs in
    let ps = drop a (take b xs) in
    let qs = drop b (take c xs) in
    let zs = drop c xs in
    let n = length-map ps g in
    let m = length-map qs f in
    let e1 = q.first in
    let e2 = q.second in
    let e3 = q.third in
    let p = parts ws (map g ps) qs zs a b c e1 (omega arith) (omega arith) in
    let front : take b (ws ++ (map g ps ++ (qs ++ zs))) ≡ ws ++ map g ps =
    ap (take b) (sym (append_assoc ws (map g ps) (qs ++ zs)))
    ∙ take_at (ws ++ map g ps) (qs ++ zs) b (omega (arith, length-append ws (map g ps))) in
    let inner : changed_within b c f (changed_within a b g xs) ≡ ws ++ (map g ps ++ (map f qs ++ zs)) =
    ap (changed_within b c f) (following xs a b c g h1 h2 h3)
    ∙ ((λ i. front i ++ (map f (p.third i) ++ p.last i)) ∙ append_assoc ws (map g ps) (map f qs ++ zs)) in
    ap (λ xs. exchanged xs a b c) inner
    ∙ exchanged-parts ws (map g ps) (map f qs) zs a b c e1 (omega arith) (omega arith)
