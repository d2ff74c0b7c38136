-- A line of a note list is read in the same way without the bytes of its literals, as no literal is part of a note.
use Rattle.std.proofs.Common.{◌≡◌, ℕ, Bool, true, false, cond, List, [], ◌∷◌, take, drop, map, Option, Some, None}
use Rattle.std.proofs.Common.{Result, Ok, Err, refl}
use Rattle.std.specs.List.{list_all}
use Rattle.script_tokens.specs.declared.tokens.Token.{Token}
use Rattle.script_tokens.specs.declared.tokens.Token.TheVariants.{Plain, Quoted, Broken}
use Rattle.script_tokens.specs.declared.cursor.TokenValue.{TokenValue}
use Rattle.script_tokens.specs.declared.cursor.TokenValue.TheVariants.{Word, Literal, Malformed}
use Rattle.script_tokens.specs.declared.fault.LineFault.{LineFault}
use Rattle.script_tokens.specs.declared.fault.LineFault.TheVariants as faults
use Rattle.script_tokens.specs.TokenValue.{is_plain, is_hex, decoded, token_value, size_of, value_over, values_over}
use Rattle.script_tokens.specs.Parsers.{Parsed, Parser, and_then, pure, or_fault, number_word, number_of, number, ended}
use Rattle.script_tokens.specs.Parsers.{most_word, most_double_word}
use Rattle.script_notes.specs.declared.limits.TheConstants.{HIGHEST_KEY, HIGHEST_VELOCITY}
use Rattle.script_notes.specs.Notes.{Numbers, note, note_of, note_of_line}

-- ---- lines with the same words and literals in the same positions

abbrev AreAlike : List TokenValue → List TokenValue → Type 0
AreAlike [] [] = Unit {0}
AreAlike [] (t ∷ ys) = ⊥
AreAlike (s ∷ xs) [] = ⊥
AreAlike (Word w ∷ xs) (Word v ∷ ys) = (w ≡ v) × AreAlike xs ys
AreAlike (Word w ∷ xs) (Literal b ∷ ys) = ⊥
AreAlike (Word w ∷ xs) (Malformed ∷ ys) = ⊥
AreAlike (Literal a ∷ xs) (Word v ∷ ys) = ⊥
AreAlike (Literal a ∷ xs) (Literal b ∷ ys) = AreAlike xs ys
AreAlike (Literal a ∷ xs) (Malformed ∷ ys) = AreAlike xs ys
AreAlike (Malformed ∷ xs) (Word v ∷ ys) = ⊥
AreAlike (Malformed ∷ xs) (Literal b ∷ ys) = AreAlike xs ys
AreAlike (Malformed ∷ xs) (Malformed ∷ ys) = AreAlike xs ys

plain_alike : (pool w : List ℕ) (xs ys : List TokenValue) → AreAlike xs ys
    → AreAlike (value_over pool (Plain w) ∷ xs) (token_value (Plain w) ∷ ys)
unfolding token_value value_over
plain_alike pool w xs ys h = from (is_hex w) _
  where
    from : {E : Type 0} (t : Bool) (r : Result (List ℕ) E)
        → AreAlike (cond t (Literal (take (size_of (Plain w)) pool)) (Word w) ∷ xs)
        (cond t (decoded r) (Word w) ∷ ys)
    from false r = (refl, h)
    from true (Ok bytes) = h
    from true (Err e) = h

quoted_alike : (pool i : List ℕ) (xs ys : List TokenValue) → AreAlike xs ys
    → AreAlike (value_over pool (Quoted i) ∷ xs) (token_value (Quoted i) ∷ ys)
unfolding token_value value_over
quoted_alike pool i xs ys h = from (list_all is_plain i)
  where
    from : (t : Bool) → AreAlike (Literal (take (size_of (Quoted i)) pool) ∷ xs) (cond t (Literal i) Malformed ∷ ys)
    from true = h
    from false = h

broken_alike : (pool : List ℕ) (xs ys : List TokenValue) → AreAlike xs ys
    → AreAlike (value_over pool Broken ∷ xs) (token_value Broken ∷ ys)
unfolding token_value value_over
broken_alike pool xs ys h = h

tokens_alike : (pool : List ℕ) (ts : List Token) → AreAlike (values_over pool ts) (map token_value ts)
tokens_alike pool [] = tt
tokens_alike pool (Plain w ∷ ts) = plain_alike pool w _ _ (tokens_alike (drop (size_of (Plain w)) pool) ts)
tokens_alike pool (Quoted i ∷ ts) = quoted_alike pool i _ _ (tokens_alike (drop (size_of (Quoted i)) pool) ts)
tokens_alike pool (Broken ∷ ts) = broken_alike pool _ _ (tokens_alike (drop (size_of Broken) pool) ts)

-- ---- parsers that read such lines alike

abbrev Agree : {X : Type 0} → Result (Parsed X) LineFault → Result (Parsed X) LineFault → Type 0
Agree (Ok a) (Ok b) = (a.value ≡ b.value) × AreAlike a.rest b.rest
Agree (Ok a) (Err e) = ⊥
Agree (Err d) (Ok b) = ⊥
Agree (Err d) (Err e) = Unit {0}

abbrev ReadsAlike : {X : Type 0} → Parser X → Type 0
ReadsAlike part = (xs ys : List TokenValue) → AreAlike xs ys → Agree (part xs) (part ys)

then_alike : {X Y : Type 0} (a b : Result (Parsed X) LineFault) (f : X → Parser Y) → Agree a b
    → ((x : X) → ReadsAlike (f x)) → Agree (and_then a f) (and_then b f)
then_alike (Ok a) (Ok b) f h g = rw h.0 (g b.value a.rest b.rest h.1)
then_alike (Ok a) (Err e) f h g = absurd h
then_alike (Err d) (Ok b) f h g = absurd h
then_alike (Err d) (Err e) f h g = tt

found_alike : {X : Type 0} (o : Option X) (xs ys : List TokenValue) → AreAlike xs ys
    → Agree (or_fault faults.Number o xs) (or_fault faults.Number o ys)
found_alike None xs ys h = tt
found_alike (Some x) xs ys h = (refl, h)

number_word_alike : ReadsAlike number_word
unfolding number_word
number_word_alike [] [] h = tt
number_word_alike [] (t ∷ ys) h = absurd h
number_word_alike (s ∷ xs) [] h = absurd h
number_word_alike (Word w ∷ xs) (Word v ∷ ys) h = h
number_word_alike (Word w ∷ xs) (Literal b ∷ ys) h = absurd h
number_word_alike (Word w ∷ xs) (Malformed ∷ ys) h = absurd h
number_word_alike (Literal a ∷ xs) (Word v ∷ ys) h = absurd h
number_word_alike (Literal a ∷ xs) (Literal b ∷ ys) h = tt
number_word_alike (Literal a ∷ xs) (Malformed ∷ ys) h = tt
number_word_alike (Malformed ∷ xs) (Word v ∷ ys) h = absurd h
number_word_alike (Malformed ∷ xs) (Literal b ∷ ys) h = tt
number_word_alike (Malformed ∷ xs) (Malformed ∷ ys) h = tt

number_alike : (limit : ℕ) → ReadsAlike (number limit)
unfolding number
number_alike limit xs ys h = then_alike _ _ _ (number_word_alike xs ys h) (λ w. found_alike (number_of limit w))

ended_alike : {X : Type 0} (x : X) → ReadsAlike (ended x)
unfolding ended
ended_alike x [] [] h = (refl, tt)
ended_alike x [] (t ∷ ys) h = absurd h
ended_alike x (s ∷ xs) [] h = absurd h
ended_alike x (s ∷ xs) (t ∷ ys) h = tt

pure_alike : {X : Type 0} (x : X) → ReadsAlike (pure x)
pure_alike x xs ys h = (refl, h)

note_alike : ReadsAlike note
unfolding note
note_alike xs ys h =
    then_alike _ _ _ (number_alike most_double_word xs ys h) (λ s xs ys h.
    then_alike _ _ _ (number_alike most_double_word xs ys h) (λ l xs ys h.
    then_alike _ _ _ (number_alike most_word xs ys h) (λ b xs ys h.
    then_alike _ _ _ (number_alike most_word xs ys h) (λ n xs ys h.
    then_alike _ _ _ (number_alike HIGHEST_KEY xs ys h) (λ k xs ys h.
    then_alike _ _ _ (number_alike HIGHEST_VELOCITY xs ys h) (λ v xs ys h.
    then_alike _ _ _ (ended_alike (tt {0}) xs ys h) (λ u.
    pure_alike (note_of (record { start = s; length = l; bank = b; number = n; key = k; velocity = v })))))))))

agree_judged : (k n : ℕ) (a b : Result (Parsed (Option Numbers)) LineFault) → Agree a b → note_of_line k n a ≡ note_of_line k n b
agree_judged k n (Ok a) (Ok b) h = rw h.0 refl
agree_judged k n (Ok a) (Err e) h = absurd h
agree_judged k n (Err d) (Ok b) h = absurd h
agree_judged k n (Err d) (Err e) h = refl

pub judged_alike : (k n : ℕ) (pool : List ℕ) (ts : List Token)
    → note_of_line k n (note (values_over pool ts)) ≡ note_of_line k n (note (map token_value ts))
judged_alike k n pool ts = agree_judged k n _ _ (note_alike _ _ (tokens_alike pool ts))

pub nothing_alike : (pool : List ℕ) (ts : List Token) → values_over pool ts ≡ [] → map token_value ts ≡ []
nothing_alike pool [] e = refl
nothing_alike pool (t ∷ ts) e = cc

pub something_alike : (pool : List ℕ) (ts : List Token) → (values_over pool ts ≡ [] → ⊥) → map token_value ts ≡ [] → ⊥
something_alike pool [] some e = some refl
something_alike pool (t ∷ ts) some e = cc
