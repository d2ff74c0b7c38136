-- What a comment shows.
use Rattle.std.proofs.Common.{◌≡◌, ◌<◌, ◌≤◌, ◌-◌, ◌++◌, inr, ℕ, min, Bool, true, false, nat_le, List, length, map, take, drop, codes, refl, sym, ap}
use Rattle.std.proofs.Common.{subst, ◌∙◌, arith, append_assoc}
use Rattle.std.proofs.lemmas.List.{take-take, take_all, length-take, take-append-drop}
use Rattle.std.proofs.lemmas.Bool.Decides.{nat_tests}
use Rattle.live_lines.specs.declared.comment.TheConstants.{LONGEST}
use Rattle.live_lines.specs.Comments.{visible, IsShown, ShowsPart}

pub front_few : (front text : List ℕ) → front ≡ take LONGEST text → length front ≤ LONGEST
front_few front text e =
    let l = length-take LONGEST text in
    subst (λ (xs : List ℕ). length xs ≤ LONGEST) (sym e) (omega (arith, l))

pub front_shown : (text front shown : List ℕ) → front ≡ take LONGEST text → shown ≡ map visible front ++ codes ".."
    → IsShown text shown
front_shown text front shown e h =
    inr (record { count = LONGEST; few = omega arith; is = h ∙ ap (λ (xs : List ℕ). map visible xs ++ codes "..") e })

take_twice : (m n : ℕ) (xs : List ℕ) → take m (take n xs) ≡ take (min m n) xs
take_twice m n xs =
    let P : Bool → Type 0 = λ b. nat_le m n ≡ b → take m (take n xs) ≡ take (min m n) xs in
    let at : (b : Bool) → P b = elim [
      | true ↦ λ e.
          (let h : m ≤ n = grind (arith, nat_tests, e) in
          let k : min m n ≡ m = omega (arith, h) in
          take-take m n xs h ∙ ap (λ (j : ℕ). take j xs) (sym k))
      | false ↦ λ e.
          (let h : n ≤ m = grind (arith, nat_tests, e) in
          let k : min m n ≡ n = omega (arith, h) in
          take_all m (take n xs) (let l = length-take n xs in omega (arith, h, l)) ∙ ap (λ (j : ℕ). take j xs) (sym k))
    ] in
    at (nat_le m n) refl

-- both prefixes are within the first w bytes
cut_both : (w : ℕ) (text : List ℕ) → w < length text
    → take LONGEST (take w text) ≡ take (min LONGEST w) (take (length text - 1) text)
cut_both w text h =
    let short : min LONGEST w ≤ length text - 1 = omega (arith, h) in
    take_twice LONGEST w text ∙ sym (take-take (min LONGEST w) (length text - 1) text short)

-- a line that was cut after w bytes
pub edit_shown : (text items front shown : List ℕ) (w : ℕ) → w < length text → items ≡ take w text
    → front ≡ take LONGEST items → shown ≡ map visible front ++ codes ".."
    → IsShown (take (length text - 1) text) shown
edit_shown text items front shown w within e f h =
    inr
    (record {
      count = min LONGEST w;
      few = omega arith;
      is =
          h
          ∙ ap (λ (xs : List ℕ). map visible xs ++ codes "..")
          (f ∙ ap (take LONGEST) e ∙ cut_both w text within);
    })

pub part_shown : (line part shown : List ℕ) (start size : ℕ) → part ≡ take size (drop start line) → IsShown part shown
    → ShowsPart line shown
part_shown line part shown start size e h = record {
  before = take start line;
  part = part;
  after = drop size (drop start line);
  parts =
      sym (take-append-drop start line)
      ∙ ap (λ (xs : List ℕ). take start line ++ xs)
      (sym (take-append-drop size (drop start line)) ∙ ap (λ (xs : List ℕ). xs ++ drop size (drop start line)) (sym e))
      ∙ sym (append_assoc (take start line) part (drop size (drop start line)));
  is = h;
}
