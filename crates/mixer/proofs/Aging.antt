-- Voices that a block advances, one after another.
use Rattle.std.proofs.Common.{◌≡◌, ℕ, ◌+◌, ◌-◌, ◌/◌, ◌<◌, ◌≤◌, ℤ, pos, ◌+ℤ◌, List, [], ◌∷◌, ◌++◌, map, take, drop}
use Rattle.std.proofs.Common.{length, get_or, refl, sym, ap, ◌∙◌, subst, arith}
use Rattle.std.proofs.lemmas.List.{take_more, map-append, drop-drop, append_assoc}
use Rattle.std.proofs.lemmas.List.Elements.{All-take, All-drop}
use Rattle.std.proofs.Math.Seq.{take-add}
use Rattle.std.proofs.lemmas.Grind.{common_steps}
use Rattle.voices.specs.Sound.{Live}
use Rattle.voices.specs.Sound.{snd}
use Rattle.mixer.specs.declared.playing.PlayingVoice.{PlayingVoice}
use Rattle.mixer.specs.Sums.{sum_over}
use Rattle.mixer.specs.StartFrames.{is_left}
use Rattle.mixer.specs.Events.{aged, total_at}
use Rattle.mixer.specs.KeptVoices.{AllYounger}
use Rattle.mixer.proofs.Sums.{sum_over-append, add_z-zero, add_z-assoc}

-- the element at the loop's index is unchanged
pub still : {X : Type 0} (f : X → X) (xs ys : List X) (i : ℕ) (d : X) → i < length xs
    → ys ≡ map f (take i xs) ++ drop i xs → get_or ys i d ≡ get_or xs i d
still f xs ys i d h e = grind (arith, common_steps)

pub aged_is : (n m : ℕ) (p : PlayingVoice) (v : Live) → v ≡ record { value = p.voice.value; age = p.voice.age + m / 2 }
    → m ≡ n
    → (let q : PlayingVoice = record { voice = v; bank = p.bank; number = p.number; handle = p.handle } in q) ≡ aged (n / 2) p
unfolding aged
aged_is n m p v e h =
    λ j.
    record {
      voice =
          (e
          ∙ ap
          (λ (k : ℕ).
          (let l : Live = record { value = p.voice.value; age = p.voice.age + k / 2 } in l))
          h)
          j;
      bank =
          p.bank;
      number = p.number;
      handle = p.handle;
    }

pub total_more : (xs : List PlayingVoice) (i k : ℕ) (d p : PlayingVoice) → i < length xs → p ≡ get_or xs i d
    → total_at (take (i + 1) xs) k ≡ total_at (take i xs) k +ℤ snd p.voice.value (is_left k) (p.voice.age + k / 2)
unfolding total_at sum_over
total_more xs i k d p h e =
    let f : PlayingVoice → ℤ = λ q. snd q.voice.value (is_left k) (q.voice.age + k / 2) in
    ap (sum_over f) (take_more xs i d h)
    ∙ sum_over-append f (take i xs) (get_or xs i d ∷ [])
    ∙ ap (λ (z : ℤ). sum_over f (take i xs) +ℤ z) (add_z-zero (f (get_or xs i d)) ∙ ap f (sym e))

pub total_none : (k : ℕ) → total_at [] k ≡ pos 0
unfolding total_at sum_over
total_none k = refl

-- one more voice is added
pub added : (new was first before this : ℤ) → new ≡ was +ℤ this → was ≡ first +ℤ before
    → new ≡ first +ℤ (before +ℤ this)
added new was first before this e h = e ∙ ap (λ (z : ℤ). z +ℤ this) h ∙ add_z-assoc first before this

pub added_on : (new was before this : ℤ) → new ≡ was +ℤ this → was ≡ before → new ≡ before +ℤ this
added_on new was before this e h = e ∙ ap (λ (z : ℤ). z +ℤ this) h

-- the list after the first i elements
aged_prefix : {X : Type 0} (f : X → X) (xs ys : List X) (i : ℕ) → i ≤ length xs → ys ≡ map f (take i xs) ++ drop i xs
    → take i ys ≡ map f (take i xs)
aged_prefix f xs ys i h e = grind (arith, common_steps)

back : {X : Type 0} (f : X → X) (xs ys : List X) (i : ℕ) → i ≤ length xs → ys ≡ map f (take i xs) ++ drop i xs
    → drop i ys ≡ drop i xs
back f xs ys i h e = grind (arith, common_steps)

part_is : {X : Type 0} (xs ys : List X) (i n : ℕ) → drop i ys ≡ drop i xs
    → take (i + n - i) (drop i ys) ≡ take n (drop i xs)
part_is xs ys i n e = λ j. take ((let k : i + n - i ≡ n = omega arith in k) j) (e j)

pub young_part : (f : PlayingVoice → PlayingVoice) (xs ys : List PlayingVoice) (i n m : ℕ) → i ≤ length xs
    → ys ≡ map f (take i xs) ++ drop i xs → AllYounger m xs → AllYounger m (take (i + n - i) (drop i ys))
young_part f xs ys i n m h e young =
    let P : List PlayingVoice → Type 0 = λ zs. AllYounger m zs in
    let y : PlayingVoice → Type 0 = λ p. p.voice.age < m in
    subst P (sym (part_is xs ys i n (back f xs ys i h e))) (All-take y n (drop i xs) (All-drop y i xs young))

-- the list after n more elements
pub part_live : {X : Type 0} (f : X → X) (xs ys mid : List X) (i n : ℕ) → i + n ≤ length xs
    → ys ≡ map f (take i xs) ++ drop i xs → mid ≡ map f (take (i + n - i) (drop i ys))
    → take i ys ++ (mid ++ drop (i + n - i) (drop i ys)) ≡ map f (take (i + n) xs) ++ drop (i + n) xs
part_live f xs ys mid i n h e m =
    let le : i ≤ length xs = omega arith in
    let mid_is : mid ≡ map f (take n (drop i xs)) = m ∙ ap (map f) (part_is xs ys i n (back f xs ys i le e)) in
    let rest : drop (i + n - i) (drop i ys) ≡ drop (i + n) xs =
    (λ j. drop ((let k : i + n - i ≡ n = omega arith in k) j) (back f xs ys i le e j)) ∙ drop-drop n i xs in
    let whole : map f (take (i + n) xs) ≡ map f (take i xs) ++ map f (take n (drop i xs)) =
    ap (map f) (take-add i n xs) ∙ map-append f (take i xs) (take n (drop i xs)) in
    (λ j. aged_prefix f xs ys i le e j ++ (mid_is j ++ rest j))
    ∙ sym (append_assoc (map f (take i xs)) (map f (take n (drop i xs))) (drop (i + n) xs))
    ∙ ap (λ l. l ++ drop (i + n) xs) (sym whole)

pub total_part : (f : PlayingVoice → PlayingVoice) (xs ys : List PlayingVoice) (i n k : ℕ) → i ≤ length xs
    → ys ≡ map f (take i xs) ++ drop i xs
    → total_at (take (i + n) xs) k ≡ total_at (take i xs) k +ℤ total_at (take (i + n - i) (drop i ys)) k
unfolding total_at
total_part f xs ys i n k h e =
    let g : PlayingVoice → ℤ = λ q. snd q.voice.value (is_left k) (q.voice.age + k / 2) in
    ap (sum_over g) (take-add i n xs) ∙ sum_over-append g (take i xs) (take n (drop i xs))
    ∙ ap (λ l. sum_over g (take i xs) +ℤ sum_over g l) (sym (part_is xs ys i n (back f xs ys i h e)))
