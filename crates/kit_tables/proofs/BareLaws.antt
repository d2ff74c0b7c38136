-- A zone is read in the same way without the bytes of the line's literals, as no literal is part of a zone.
use Rattle.std.proofs.Common.{◌≡◌, ℕ, Bool, true, false, cond, List, [], ◌∷◌, take, drop, map, codes, Option, Some}
use Rattle.std.proofs.Common.{None, Result, Ok, Err, refl}
use Rattle.std.specs.List.{list_all}
use Rattle.script_tokens.specs.declared.tokens.Token.{Token}
use Rattle.script_tokens.specs.declared.tokens.Token.TheVariants.{Plain, Quoted, Broken}
use Rattle.script_tokens.specs.declared.cursor.TokenValue.{TokenValue}
use Rattle.script_tokens.specs.declared.cursor.TokenValue.TheVariants.{Word, Literal, Malformed}
use Rattle.script_tokens.specs.declared.fault.LineFault.{LineFault}
use Rattle.script_tokens.specs.declared.fault.LineFault.TheVariants as faults
use Rattle.script_tokens.specs.Tokens.{FirstToken, tokens_of}
use Rattle.script_tokens.specs.TokenValue.{is_plain, is_hex, decoded, token_value, size_of, value_over, values_over}
use Rattle.script_tokens.specs.Parsers.{Parsed, Parser, and_then, ◌>>=◌, pure, or_fault, numeral, number_word, number}
use Rattle.script_tokens.specs.Parsers.{signed, range, ended, is_next, word}
use Rattle.kit_tables.specs.declared.limits.TheConstants.{HIGHEST_KEY}
use Rattle.kit_tables.specs.declared.zone.KitZone.{KitZone}
use Rattle.kit_tables.specs.Zones.{all}
use Rattle.kit_tables.specs.ZoneParsers.{or_else, ◌<|>◌, optional, range_with, single_key, keys, velocity_range}
use Rattle.kit_tables.specs.ZoneParsers.{is_without_velocities, velocities, root, pan, pan_value, class, class_value}
use Rattle.kit_tables.specs.ZoneParsers.{zone}
use Rattle.kit_tables.specs.Rows.{file_of, row_with, row}

-- ---- lines with the same words and literals in the same positions

abbrev AreAlike : List TokenValue → List TokenValue → Type 0
AreAlike [] [] = Unit {0}
AreAlike [] (t ∷ ys) = ⊥
AreAlike (s ∷ xs) [] = ⊥
AreAlike (Word w ∷ xs) (Word v ∷ ys) = (w ≡ v) × AreAlike xs ys
AreAlike (Word w ∷ xs) (Literal b ∷ ys) = ⊥
AreAlike (Word w ∷ xs) (Malformed ∷ ys) = ⊥
AreAlike (Literal a ∷ xs) (Word v ∷ ys) = ⊥
AreAlike (Literal a ∷ xs) (Literal b ∷ ys) = AreAlike xs ys
AreAlike (Literal a ∷ xs) (Malformed ∷ ys) = AreAlike xs ys
AreAlike (Malformed ∷ xs) (Word v ∷ ys) = ⊥
AreAlike (Malformed ∷ xs) (Literal b ∷ ys) = AreAlike xs ys
AreAlike (Malformed ∷ xs) (Malformed ∷ ys) = AreAlike xs ys

plain_alike : (pool w : List ℕ) (xs ys : List TokenValue) → AreAlike xs ys
    → AreAlike (value_over pool (Plain w) ∷ xs) (token_value (Plain w) ∷ ys)
unfolding token_value value_over
plain_alike pool w xs ys h = from (is_hex w) _
  where
    from : {E : Type 0} (t : Bool) (r : Result (List ℕ) E)
        → AreAlike (cond t (Literal (take (size_of (Plain w)) pool)) (Word w) ∷ xs)
        (cond t (decoded r) (Word w) ∷ ys)
    from false r = (refl, h)
    from true (Ok bytes) = h
    from true (Err e) = h

quoted_alike : (pool i : List ℕ) (xs ys : List TokenValue) → AreAlike xs ys
    → AreAlike (value_over pool (Quoted i) ∷ xs) (token_value (Quoted i) ∷ ys)
unfolding token_value value_over
quoted_alike pool i xs ys h = from (list_all is_plain i)
  where
    from : (t : Bool) → AreAlike (Literal (take (size_of (Quoted i)) pool) ∷ xs) (cond t (Literal i) Malformed ∷ ys)
    from true = h
    from false = h

broken_alike : (pool : List ℕ) (xs ys : List TokenValue) → AreAlike xs ys
    → AreAlike (value_over pool Broken ∷ xs) (token_value Broken ∷ ys)
unfolding token_value value_over
broken_alike pool xs ys h = h

tokens_alike : (pool : List ℕ) (ts : List Token) → AreAlike (values_over pool ts) (map token_value ts)
tokens_alike pool [] = tt
tokens_alike pool (Plain w ∷ ts) = plain_alike pool w _ _ (tokens_alike (drop (size_of (Plain w)) pool) ts)
tokens_alike pool (Quoted i ∷ ts) = quoted_alike pool i _ _ (tokens_alike (drop (size_of (Quoted i)) pool) ts)
tokens_alike pool (Broken ∷ ts) = broken_alike pool _ _ (tokens_alike (drop (size_of Broken) pool) ts)

-- ---- parsers that read such lines alike

abbrev Agree : {X : Type 0} → Result (Parsed X) LineFault → Result (Parsed X) LineFault → Type 0
Agree (Ok a) (Ok b) = (a.value ≡ b.value) × AreAlike a.rest b.rest
Agree (Ok a) (Err e) = ⊥
Agree (Err d) (Ok b) = ⊥
Agree (Err d) (Err e) = Unit {0}

abbrev ReadsAlike : {X : Type 0} → Parser X → Type 0
ReadsAlike part = (xs ys : List TokenValue) → AreAlike xs ys → Agree (part xs) (part ys)

and_then_alike : {X Y : Type 0} (a b : Result (Parsed X) LineFault) (f : X → Parser Y) → Agree a b
    → ((x : X) → ReadsAlike (f x)) → Agree (and_then a f) (and_then b f)
and_then_alike (Ok a) (Ok b) f h g = rw h.0 (g b.value a.rest b.rest h.1)
and_then_alike (Ok a) (Err e) f h g = absurd h
and_then_alike (Err d) (Ok b) f h g = absurd h
and_then_alike (Err d) (Err e) f h g = tt

then_alike : {X Y : Type 0} (part : Parser X) (f : X → Parser Y) → ReadsAlike part → ((x : X) → ReadsAlike (f x))
    → ReadsAlike (part >>= f)
then_alike part f p g xs ys h = and_then_alike (part xs) (part ys) f (p xs ys h) g

or_else_alike : {X : Type 0} (a b c d : Result (Parsed X) LineFault) → Agree a b → Agree c d
    → Agree (or_else a c) (or_else b d)
or_else_alike (Ok a) (Ok b) c d h g = h
or_else_alike (Ok a) (Err e) c d h g = absurd h
or_else_alike (Err e) (Ok b) c d h g = absurd h
or_else_alike (Err e) (Err f) c d h g = g

or_alike : {X : Type 0} (p q : Parser X) → ReadsAlike p → ReadsAlike q → ReadsAlike (p <|> q)
or_alike p q f g xs ys h = or_else_alike (p xs) (p ys) (q xs) (q ys) (f xs ys h) (g xs ys h)

found_alike : {X : Type 0} (o : Option X) → ReadsAlike (or_fault faults.Number o)
found_alike None xs ys h = tt
found_alike (Some x) xs ys h = (refl, h)

pure_alike : {X : Type 0} (x : X) → ReadsAlike (pure x)
pure_alike x xs ys h = (refl, h)

word_alike : ReadsAlike word
unfolding word
word_alike [] [] h = tt
word_alike [] (t ∷ ys) h = absurd h
word_alike (s ∷ xs) [] h = absurd h
word_alike (Word w ∷ xs) (Word v ∷ ys) h = h
word_alike (Word w ∷ xs) (Literal b ∷ ys) h = absurd h
word_alike (Word w ∷ xs) (Malformed ∷ ys) h = absurd h
word_alike (Literal a ∷ xs) (Word v ∷ ys) h = absurd h
word_alike (Literal a ∷ xs) (Literal b ∷ ys) h = tt
word_alike (Literal a ∷ xs) (Malformed ∷ ys) h = tt
word_alike (Malformed ∷ xs) (Word v ∷ ys) h = absurd h
word_alike (Malformed ∷ xs) (Literal b ∷ ys) h = tt
word_alike (Malformed ∷ xs) (Malformed ∷ ys) h = tt

number_word_alike : ReadsAlike number_word
unfolding number_word
number_word_alike [] [] h = tt
number_word_alike [] (t ∷ ys) h = absurd h
number_word_alike (s ∷ xs) [] h = absurd h
number_word_alike (Word w ∷ xs) (Word v ∷ ys) h = h
number_word_alike (Word w ∷ xs) (Literal b ∷ ys) h = absurd h
number_word_alike (Word w ∷ xs) (Malformed ∷ ys) h = absurd h
number_word_alike (Literal a ∷ xs) (Word v ∷ ys) h = absurd h
number_word_alike (Literal a ∷ xs) (Literal b ∷ ys) h = tt
number_word_alike (Literal a ∷ xs) (Malformed ∷ ys) h = tt
number_word_alike (Malformed ∷ xs) (Word v ∷ ys) h = absurd h
number_word_alike (Malformed ∷ xs) (Literal b ∷ ys) h = tt
number_word_alike (Malformed ∷ xs) (Malformed ∷ ys) h = tt

numeral_alike : {X : Type 0} (f : List ℕ → Option X) → ReadsAlike (numeral f)
numeral_alike f = then_alike number_word _ number_word_alike (λ w. found_alike (f w))

number_alike : (limit : ℕ) → ReadsAlike (number limit)
unfolding number
number_alike limit = numeral_alike _

signed_alike : (limit : ℕ) → ReadsAlike (signed limit)
unfolding signed
signed_alike limit = numeral_alike _

range_alike : ReadsAlike range
unfolding range
range_alike = numeral_alike _

ended_alike : {X : Type 0} (x : X) → ReadsAlike (ended x)
unfolding ended
ended_alike x [] [] h = (refl, tt)
ended_alike x [] (t ∷ ys) h = absurd h
ended_alike x (s ∷ xs) [] h = absurd h
ended_alike x (s ∷ xs) (t ∷ ys) h = tt

-- ---- choices by the next word

next_alike : (w : List ℕ) (xs ys : List TokenValue) → AreAlike xs ys → is_next w xs ≡ is_next w ys
next_alike w [] [] h = refl
next_alike w [] (t ∷ ys) h = absurd h
next_alike w (s ∷ xs) [] h = absurd h
next_alike w (Word a ∷ xs) (Word b ∷ ys) h = rw h.0 refl
next_alike w (Word a ∷ xs) (Literal b ∷ ys) h = absurd h
next_alike w (Word a ∷ xs) (Malformed ∷ ys) h = absurd h
next_alike w (Literal a ∷ xs) (Word v ∷ ys) h = absurd h
next_alike w (Literal a ∷ xs) (Literal b ∷ ys) h = refl
next_alike w (Literal a ∷ xs) (Malformed ∷ ys) h = refl
next_alike w (Malformed ∷ xs) (Word v ∷ ys) h = absurd h
next_alike w (Malformed ∷ xs) (Literal b ∷ ys) h = refl
next_alike w (Malformed ∷ xs) (Malformed ∷ ys) h = refl

choice_alike : {X : Type 0} (p q : Parser X) (a b : Bool) (xs ys : List TokenValue) → a ≡ b → ReadsAlike p
    → ReadsAlike q → AreAlike xs ys → Agree (cond a (p xs) (q xs)) (cond b (p ys) (q ys))
choice_alike p q true true xs ys e f g h = f xs ys h
choice_alike p q true false xs ys e f g h = cc
choice_alike p q false true xs ys e f g h = cc
choice_alike p q false false xs ys e f g h = g xs ys h

optional_alike : {X : Type 0} (w : List ℕ) (part : Parser X) → ReadsAlike part → ReadsAlike (optional w part)
optional_alike w part f xs ys h =
    choice_alike (word >>= λ v. part >>= λ x. pure (Some x)) (pure None) _ _ xs ys (next_alike w xs ys h)
    (then_alike word _ word_alike (λ v. then_alike part _ f (λ x. pure_alike (Some x)))) (pure_alike None) h

without_alike : (xs ys : List TokenValue) → AreAlike xs ys → is_without_velocities xs ≡ is_without_velocities ys
without_alike [] [] h = refl
without_alike [] (t ∷ ys) h = absurd h
without_alike (s ∷ xs) [] h = absurd h
without_alike (s ∷ xs) (t ∷ ys) h =
    rw (
      next_alike (codes "root") (s ∷ xs) (t ∷ ys) h,
      next_alike (codes "pan") (s ∷ xs) (t ∷ ys) h,
      next_alike (codes "class") (s ∷ xs) (t ∷ ys) h,
    ) refl

-- ---- the parts of a zone

single_key_alike : ReadsAlike single_key
unfolding single_key
single_key_alike = then_alike (number HIGHEST_KEY) _ (number_alike HIGHEST_KEY) (λ k. pure_alike (k, k))

keys_alike : ReadsAlike keys
unfolding keys
keys_alike =
    then_alike (range <|> single_key) _ (or_alike range single_key range_alike single_key_alike)
    (λ ends. found_alike (range_with ends))

velocity_range_alike : ReadsAlike velocity_range
unfolding velocity_range
velocity_range_alike = then_alike range _ range_alike (λ ends. found_alike (range_with ends))

velocities_alike : ReadsAlike velocities
unfolding velocities
velocities_alike xs ys h =
    choice_alike (pure all) velocity_range _ _ xs ys (without_alike xs ys h) (pure_alike all) velocity_range_alike h

root_alike : ReadsAlike root
unfolding root
root_alike = optional_alike (codes "root") (number HIGHEST_KEY) (number_alike HIGHEST_KEY)

pan_value_alike : ReadsAlike pan_value
unfolding pan_value
pan_value_alike = then_alike (signed _) _ (signed_alike _) (λ z. found_alike _)

pan_alike : ReadsAlike pan
unfolding pan
pan_alike = optional_alike (codes "pan") pan_value pan_value_alike

class_value_alike : ReadsAlike class_value
unfolding class_value
class_value_alike = then_alike (number _) _ (number_alike _) (λ n. found_alike _)

class_alike : ReadsAlike class
unfolding class
class_alike = optional_alike (codes "class") class_value class_value_alike

zone_alike : ReadsAlike zone
unfolding zone
zone_alike =
    then_alike keys _ keys_alike (λ k.
    then_alike velocities _ velocities_alike (λ v.
    then_alike root _ root_alike (λ r.
    then_alike pan _ pan_alike (λ p.
    then_alike class _ class_alike (λ c.
    then_alike (ended (tt {0})) _ (ended_alike (tt {0})) (λ u.
    pure_alike (record { keys = k; velocities = v; root = r; pan = p; class = c })))))))

agree_row : (n : ℕ) (file : Option (List ℕ)) (a b : Result (Parsed KitZone) LineFault) → Agree a b
    → row_with n file a ≡ row_with n file b
agree_row n None a b h = refl
agree_row n (Some file) (Ok a) (Ok b) h = rw h.0 refl
agree_row n (Some file) (Ok a) (Err e) h = absurd h
agree_row n (Some file) (Err d) (Ok b) h = absurd h
agree_row n (Some file) (Err d) (Err e) h = refl

-- the row of a line, whose zone is read without the bytes of literals
pub row_is : (n : ℕ) (first : FirstToken) (file : List ℕ) (r : Result (Parsed KitZone) LineFault)
    → Some file ≡ file_of first.token → zone (values_over [] (tokens_of first.after)) ≡ r
    → row_with n (Some file) r ≡ row n first
unfolding row
row_is n first file r e f =
    rw (← e, ← f) (agree_row n (Some file) _ _ (zone_alike _ _ (tokens_alike [] (tokens_of first.after))))
