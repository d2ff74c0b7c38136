-- A repeated part: how many tokens it consumes, how it continues, and how it ends.
use Rattle.std.proofs.Common.{◌≡◌, ◌≤◌, ◌<◌, ℕ, zero, suc, Bool, true, false, cond, List, ◌∷◌, length, Option}
use Rattle.std.proofs.Common.{Result, Ok, Err, refl, sym, ap, ◌∙◌, arith}
use Rattle.script_tokens.specs.declared.cursor.TokenValue.{TokenValue}
use Rattle.script_tokens.specs.declared.cursor.TokenValue.TheVariants.{Word}
use Rattle.script_tokens.specs.declared.fault.LineFault.{LineFault}
use Rattle.script_tokens.specs.Parsers.{Parsed, Parser, and_then, ◌>>=◌, pure, or_fault, word, number, signed, range}
use Rattle.script_tokens.proofs.ReadLaws.{AllHoldBytes, both, or_fault_is, word_is, number_is, signed_is, range_is}
use Rattle.script_grammar.specs.Repeated.{repeated_within, repeated}

-- ---- consumed tokens

-- the parser leaves no more tokens than there were
abbrev pub Keeps : {X : Type 0} → Parser X → Type 0
Keeps {X} p = (line : List TokenValue) (t : Parsed X) → p line ≡ Ok t → length t.rest ≤ length line

-- the parser leaves fewer tokens than there were
abbrev pub Shortens : {X : Type 0} → Parser X → Type 0
Shortens {X} p = (line : List TokenValue) (t : Parsed X) → p line ≡ Ok t → length t.rest < length line

pub shortens_keeps : {X : Type 0} (p : Parser X) → Shortens p → Keeps p
shortens_keeps p h line t e = let l = h line t e in omega (arith, l)

pub pure_keeps : {X : Type 0} (x : X) → Keeps (pure x)
pure_keeps x line t e = let k : line ≡ t.rest = cc in omega (arith, ap length k)

pub fault_keeps : {X : Type 0} (d : LineFault) (o : Option X) → Keeps (or_fault d o)
fault_keeps d o line t e = let k = or_fault_is d o line t e in omega (arith, ap length k.1)

pub then_keeps : {X Y : Type 0} (p : Parser X) (f : X → Parser Y) → Keeps p → ((x : X) → Keeps (f x)) → Keeps (p >>= f)
then_keeps p f h k line t e =
    let b = both (p line) f t e in
    let l = h line b.first b.is in
    let m = k b.first.value b.first.rest t b.second in
    omega (arith, l, m)

pub then_shortens : {X Y : Type 0} (p : Parser X) (f : X → Parser Y) → Shortens p → ((x : X) → Keeps (f x))
    → Shortens (p >>= f)
then_shortens p f h k line t e =
    let b = both (p line) f t e in
    let l = h line b.first b.is in
    let m = k b.first.value b.first.rest t b.second in
    omega (arith, l, m)

pub either_keeps : {X : Type 0} (b : Bool) (p q : Parser X) → Keeps p → Keeps q → Keeps (cond b p q)
either_keeps true p q h k = h
either_keeps false p q h k = k

rest_is_shorter : (s : TokenValue) (line rest : List TokenValue) → line ≡ s ∷ rest → length rest < length line
rest_is_shorter s line rest e = omega (arith, ap length e)

pub word_shortens : Shortens word
word_shortens line t e = rest_is_shorter (Word t.value) line t.rest (word_is line t e)

pub number_shortens : (limit : ℕ) → Shortens (number limit)
number_shortens limit line t e = let k = number_is limit line t e in rest_is_shorter (Word k.digits) line t.rest k.parts

pub signed_shortens : (limit : ℕ) → Shortens (signed limit)
signed_shortens limit line t e = let k = signed_is limit line t e in rest_is_shorter (Word k.digits) line t.rest k.parts

pub range_shortens : Shortens range
range_shortens line t e = let k = range_is line t e in rest_is_shorter (Word k.digits) line t.rest k.parts

-- ---- a repeated part

then_alike : {X Y : Type 0} (r : Result (Parsed X) LineFault) (f g : X → Parser Y)
    → ((t : Parsed X) → r ≡ Ok t → f t.value t.rest ≡ g t.value t.rest) → and_then r f ≡ and_then r g
then_alike (Ok t) f g h = h t refl
then_alike (Err e) f g h = refl

module _ {X Y : Type 0} (ends : List TokenValue → Bool) (last : Y → Parser Y) (part : Parser X) (with : Y → X → Y) where
  pub within_ends : (n : ℕ) (y : Y) (line : List TokenValue) → ends line ≡ true
      → repeated_within ends last part with (suc n) y line ≡ last y line
  unfolding repeated_within
  within_ends n y line e = rw e refl

  pub within_continues : (n : ℕ) (y : Y) (line : List TokenValue) → ends line ≡ false
      → repeated_within ends last part with (suc n) y line
      ≡ and_then (part line) (λ x. repeated_within ends last part with n (with y x))
  unfolding repeated_within
  within_continues n y line e = rw e refl

  -- a bound above the number of tokens changes nothing
  enough : Shortens part → (n m : ℕ) (y : Y) (line : List TokenValue) → length line < n → length line < m
      → repeated_within ends last part with n y line ≡ repeated_within ends last part with m y line
  enough h zero m y line l k = absurd (omega (arith, l))
  enough h (suc n) zero y line l k = absurd (omega (arith, k))
  enough h (suc n) (suc m) y line l k =
      from
      (λ t i. let s =
      h line t i in enough h n m (with y t.value) t.rest (omega (arith, s, l)) (omega (arith, s, k)))
      (ends line) refl
    where
      from :
          ((t : Parsed X) → part line ≡ Ok t
          → repeated_within ends last part with n (with y t.value) t.rest
          ≡ repeated_within ends last part with m (with y t.value) t.rest)
          → (b : Bool) → ends line ≡ b
          → repeated_within ends last part with (suc n) y line ≡ repeated_within ends last part with (suc m) y line
      from on true e = within_ends n y line e ∙ sym (within_ends m y line e)
      from on false e =
          within_continues n y line e
          ∙ then_alike (part line) (λ x. repeated_within ends last part with n (with y x))
          (λ x. repeated_within ends last part with m (with y x)) on
          ∙ sym (within_continues m y line e)

  pub repeated_ends : (y : Y) (line : List TokenValue) → ends line ≡ true
      → repeated ends last part with y line ≡ last y line
  repeated_ends y line e = within_ends (length line) y line e

  pub repeated_continues : Shortens part → (y : Y) (line : List TokenValue) (t : Parsed X) → ends line ≡ false
      → part line ≡ Ok t → repeated ends last part with y line ≡ repeated ends last part with (with y t.value) t.rest
  repeated_continues h y line t e i =
      let s = h line t i in
      within_continues (length line) y line e
      ∙ ap
      (λ (r : Result (Parsed X) LineFault).
      and_then r (λ x. repeated_within ends last part with (length line) (with y x)))
      i
      ∙ enough h (length line) (suc (length t.rest)) (with y t.value) t.rest s (omega arith)

  pub repeated_fails : (y : Y) (line : List TokenValue) (d : LineFault) → ends line ≡ false → part line ≡ Err d
      → repeated ends last part with y line ≡ Err d
  repeated_fails y line d e i =
      within_continues (length line) y line e
      ∙ ap
      (λ (r : Result (Parsed X) LineFault).
      and_then r (λ x. repeated_within ends last part with (length line) (with y x)))
      i

  within_keeps : ((y : Y) → Keeps (last y)) → Keeps part → (n : ℕ) (y : Y)
      → Keeps (repeated_within ends last part with n y)
  unfolding repeated_within
  within_keeps h k zero y line t e = cc
  within_keeps h k (suc n) y line t e = from (λ x. within_keeps h k n (with y x)) (ends line) refl
    where
      from : ((x : X) → Keeps (repeated_within ends last part with n (with y x))) → (b : Bool) → ends line ≡ b
          → length t.rest ≤ length line
      from on true i = h y line t (sym (within_ends n y line i) ∙ e)
      from on false i =
          then_keeps part (λ x. repeated_within ends last part with n (with y x)) k on line t
          (sym (within_continues n y line i) ∙ e)

  pub repeated_keeps : ((y : Y) → Keeps (last y)) → Keeps part → (y : Y) → Keeps (repeated ends last part with y)
  repeated_keeps h k y line t e = within_keeps h k (suc (length line)) y line t e

  -- induction over the parts that are read: the base holds at the end, and the step for each part
  module _ (Reads : Y → List TokenValue → Parsed Y → Type 0)
      (over : (y : Y) (line : List TokenValue) (t : Parsed Y) → AllHoldBytes line → ends line ≡ true → last y line ≡ Ok t
      → Reads y line t)
      (more : (y : Y) (line : List TokenValue) (x : Parsed X) (t : Parsed Y) → AllHoldBytes line → part line ≡ Ok x
      → (AllHoldBytes x.rest → Reads (with y x.value) x.rest t) → Reads y line t)
    where
      within_reads : (n : ℕ) (y : Y) (line : List TokenValue) (t : Parsed Y) → AllHoldBytes line
          → repeated_within ends last part with n y line ≡ Ok t → Reads y line t
      unfolding repeated_within
      within_reads zero y line t h e = cc
      within_reads (suc n) y line t h e = from (λ x. within_reads n (with y x)) (ends line) refl
        where
          from :
              ((x : X) (rest : List TokenValue) (u : Parsed Y) → AllHoldBytes rest
              → repeated_within ends last part with n (with y x) rest ≡ Ok u → Reads (with y x) rest u)
              → (b : Bool) → ends line ≡ b → Reads y line t
          from on true i = over y line t h i (sym (within_ends n y line i) ∙ e)
          from on false i =
              let x =
              both (part line) (λ x. repeated_within ends last part with n (with y x)) t
              (sym (within_continues n y line i) ∙ e) in
              more y line x.first t h x.is (λ holds. on x.first.value x.first.rest t holds x.second)

      pub repeated_reads : (y : Y) (line : List TokenValue) (t : Parsed Y) → AllHoldBytes line
          → repeated ends last part with y line ≡ Ok t → Reads y line t
      repeated_reads y line t h e = within_reads (suc (length line)) y line t h e
