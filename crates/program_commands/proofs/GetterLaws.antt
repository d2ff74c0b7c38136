-- What clap's getters return, in terms of operands.
use Rattle.std.proofs.Common.{◌≡◌, ◌<◌, ◌^◌, ℕ, List, Option, Some, None, Result, sym, subst, refl, IsSome}
use Rattle.std.specs.Str.Parse.{ParsesUnsigned}
use Rattle.clap.specs.Words.{ReadsOne, Row, Text, one_of}
use Rattle.program_commands.specs.Words.{FindsOne, IsGiven, Number}

-- a number with its width in bits, as `from_str` reads it
pub number_read : {E : Type 0} (P Q : Text → Result ℕ E → Type 0)
    → (rows : List Row) (name : Text) (bits : ℕ) (result : Option ℕ)
    → (one_of name rows ≡ None → result ≡ None)
    → ((text : Text) → one_of name rows ≡ Some text
    → ReadsOne (λ t r. ParsesUnsigned bits 10 t r × P t r × Q t r) text result)
    → FindsOne result (λ n. IsGiven rows (Number name bits n))
number_read P Q rows name bits None none value =
    let fits : ℕ → Type 0 = λ k. k < 2 ^ bits in
    (tt, λ n given. absurd ((value given.0 given.1).1.0 (given.2.0, subst fits given.2.1 given.2.2)))
number_read P Q rows name bits (Some n) none value = (go (one_of name rows) refl, λ other given. refl)
  where
    go : (one : Option Text) → one_of name rows ≡ one → IsGiven rows (Number name bits n)
    go None e = let bad : Some n ≡ None = none e in absurd cc
    go (Some text) e =
        let read = (value text e).0 in
        let fits : ℕ → Type 0 = λ k. k < 2 ^ bits in
        (text, e, (read.0.0, read.1, subst fits (sym read.1) read.0.1))

-- where a part is missing that each value needs, none is found
pub none_found : {A B : Type 0} (P : A → Type 0) (Q : B → Type 0) (whole : Option A) (part : Option B)
    → whole ≡ None → part ≡ None → FindsOne part Q
    → ((value : A) → P value → (piece : B) × Q piece) → FindsOne whole P
none_found P Q whole part none missing found needs =
    let found_in : Option _ → Type 0 = λ o. FindsOne o P in
    let some : Option _ → Type 0 = λ o. IsSome o in
    subst found_in (sym none)
    (tt, λ value holds. subst some missing (found.1 (needs value holds).0 (needs value holds).1))
