-- Lines and tokens, one at a time.
use Rattle.std.proofs.Common.{◌≡◌, ◌≤◌, ◌<◌, ◌+◌, ℕ, zero, suc, Bool, true, false, cond, eqb, ltb, ◌&&◌, List, []}
use Rattle.std.proofs.Common.{◌∷◌, length, get_or, take, drop, Option, Some, None, refl, sym, ap, subst, ◌∙◌, arith}
use Rattle.std.specs.List.{before_first, after_first, position_or_len, prefix_len}
use Rattle.std.proofs.lemmas.Bool.{ne_eqb}
use Rattle.std.proofs.lemmas.List.{length-drop}
use Rattle.script_tokens.specs.declared.tokens.Token.{Token}
use Rattle.script_tokens.specs.declared.tokens.Token.TheVariants.{Quoted, Broken}
use Rattle.script_tokens.specs.Lines.{lines_of, onto, is_feed}
use Rattle.script_tokens.specs.Tokens.{is_blank, is_quote, after_blanks, FirstToken, quoted_at, plain_at, token_at}
use Rattle.script_tokens.specs.Tokens.{and_tokens_after, tokens_for, tokens_of, ends_well}
use Rattle.script_tokens.proofs.TestLaws.{first_yes, first_no}

-- ---- lines

pub lines_none : lines_of [] ≡ []
unfolding lines_of
lines_none = refl

pub lines_yes : (b : ℕ) (bs : List ℕ) → is_feed b ≡ true → lines_of (b ∷ bs) ≡ [] ∷ lines_of bs
unfolding lines_of
lines_yes b bs e = rw e refl

pub lines_no : (b : ℕ) (bs : List ℕ) → is_feed b ≡ false → lines_of (b ∷ bs) ≡ onto b (lines_of bs)
unfolding lines_of
lines_no b bs e = rw e refl

pub lines_empty : (bs : List ℕ) → length bs ≡ 0 → lines_of bs ≡ []
unfolding lines_of
lines_empty [] e = refl
lines_empty (b ∷ bs) e = absurd (omega arith)

abbrev at_feed : List ℕ → ℕ
at_feed bs = position_or_len is_feed bs

lines_step : (b : ℕ) (bs : List ℕ)
    → (0 < length bs → lines_of bs ≡ take (at_feed bs) bs ∷ lines_of (drop (at_feed bs + 1) bs)) → (t : Bool)
    → is_feed b ≡ t
    → lines_of (b ∷ bs) ≡ take (at_feed (b ∷ bs)) (b ∷ bs) ∷ lines_of (drop (at_feed (b ∷ bs) + 1) (b ∷ bs))
lines_step b bs ih true e = rw (first_yes is_feed b bs e) (lines_yes b bs e)
lines_step b [] ih false e =
    rw (first_no is_feed b [] e)
    (lines_no b [] e ∙ ap (onto b) lines_none ∙ ap (λ (ls : List (List ℕ)). (b ∷ []) ∷ ls) (sym lines_none))
lines_step b (c ∷ bs) ih false e =
    let a : suc (at_feed (c ∷ bs)) + 1 ≡ suc (at_feed (c ∷ bs) + 1) = omega arith in
    subst (λ (k : ℕ). lines_of (b ∷ c ∷ bs) ≡ take k (b ∷ c ∷ bs) ∷ lines_of (drop (k + 1) (b ∷ c ∷ bs)))
    (sym (first_no is_feed b (c ∷ bs) e))
    (rw a (lines_no b (c ∷ bs) e ∙ ap (onto b) (ih (omega arith))))

lines_front : (bs : List ℕ) → 0 < length bs → lines_of bs ≡ take (at_feed bs) bs ∷ lines_of (drop (at_feed bs + 1) bs)
lines_front [] l = absurd (omega arith)
lines_front (b ∷ bs) l = lines_step b bs (λ more. lines_front bs more) (is_feed b) refl

pub lines_at : (k : ℕ) (bs : List ℕ) → 0 < length bs → k ≡ position_or_len is_feed bs
    → lines_of bs ≡ take k bs ∷ lines_of (drop (k + 1) bs)
lines_at k bs l e = rw e (lines_front bs l)

pub fewer : {X : Type 0} (xs : List X) (x : X) (ys : List X) → xs ≡ x ∷ ys → length ys < length xs
fewer xs x ys e = let h = ap length e in omega (arith, h)

-- ---- tokens

pub front_of_plain : (k : ℕ) (line : List ℕ) → 0 < length line
    → take (k + 1) line ≡ get_or line 0 0 ∷ take k (drop 1 line)
front_of_plain k [] l = absurd (omega arith)
front_of_plain k (b ∷ line) l = let e : k + 1 ≡ suc k = omega arith in rw e refl

shorter_quoted : (line : List ℕ) → length (quoted_at line).after ≤ length line
unfolding quoted_at
shorter_quoted line = from (ltb (position_or_len is_quote line) (length line) && ends_well (after_first is_quote line))
  where
    from : (t : Bool)
        → length
        (cond {A = FirstToken} t
        (record { token = Quoted (before_first is_quote line); after = after_first is_quote line })
        (record { token = Broken; after = [] })).after
        ≤ length line
    from true = omega (arith, length-drop (position_or_len is_quote line + 1) line)
    from false = omega arith

shorter_plain : (b : ℕ) (line : List ℕ) → length (plain_at b line).after ≤ length line
unfolding plain_at
shorter_plain b line = omega (arith, length-drop (position_or_len is_blank line) line)

token_shorter : (line : List ℕ) (c : FirstToken) → token_at line ≡ Some c → length c.after < length line
unfolding token_at
token_shorter [] c e = cc
token_shorter (b ∷ line) c e = from (eqb b 35) (is_quote b) e
  where
    from : (s t : Bool) → cond s None (cond t (Some (quoted_at line)) (Some (plain_at b line))) ≡ Some c
        → length c.after < suc (length line)
    from true t e = cc
    from false true e =
        let h : quoted_at line ≡ c = cc in
        subst (λ (d : FirstToken). length d.after < suc (length line)) h (omega (arith, shorter_quoted line))
    from false false e =
        let h : plain_at b line ≡ c = cc in
        subst (λ (d : FirstToken). length d.after < suc (length line)) h (omega (arith, shorter_plain b line))

length-after_blanks : (line : List ℕ) → length (after_blanks line) ≤ length line
unfolding after_blanks
length-after_blanks line = omega (arith, length-drop (prefix_len is_blank line) line)

blank_token_shorter : (line : List ℕ) (c : FirstToken) → token_at (after_blanks line) ≡ Some c → length c.after < length line
blank_token_shorter line c e = omega (arith, token_shorter (after_blanks line) c e, length-after_blanks line)

same_on : (o : Option FirstToken) (f g : List ℕ → List Token) → ((c : FirstToken) → o ≡ Some c → f c.after ≡ g c.after)
    → and_tokens_after o f ≡ and_tokens_after o g
same_on None f g h = refl
same_on (Some c) f g h = ap (λ (ts : List Token). c.token ∷ ts) (h c refl)

none_of_nothing : (n : ℕ) → tokens_for n [] ≡ []
unfolding tokens_for token_at after_blanks
none_of_nothing zero = refl
none_of_nothing (suc n) = refl

-- a bound above the number of bytes gives no more tokens
tokens_for_enough : (n m : ℕ) (line : List ℕ) → length line ≤ n → length line ≤ m
    → tokens_for n line ≡ tokens_for m line
unfolding tokens_for
tokens_for_enough n m [] p q = none_of_nothing n ∙ sym (none_of_nothing m)
tokens_for_enough zero m (b ∷ line) p q = absurd (omega arith)
tokens_for_enough (suc n) zero (b ∷ line) p q = absurd (omega arith)
tokens_for_enough (suc n) (suc m) (b ∷ line) p q =
    same_on (token_at (after_blanks (b ∷ line))) (λ rest. tokens_for n rest) (λ rest. tokens_for m rest)
    (λ c e. let s : length c.after < length (b ∷ line) =
    blank_token_shorter (b ∷ line) c e in tokens_for_enough n m c.after (omega arith) (omega arith))

for_once : (n : ℕ) (line : List ℕ)
    → tokens_for (suc n) line ≡ and_tokens_after (token_at (after_blanks line)) (λ rest. tokens_for n rest)
unfolding tokens_for
for_once n line = refl

pub tokens_once : (line : List ℕ) → tokens_of line ≡ and_tokens_after (token_at (after_blanks line)) tokens_of
unfolding tokens_of
tokens_once line =
    tokens_for_enough (length line) (suc (length line)) line (omega arith) (omega arith)
    ∙ for_once (length line) line
    ∙ same_on (token_at (after_blanks line)) (λ rest. tokens_for (length line) rest)
    (λ rest. tokens_for (length rest) rest)
    (λ c e. let s : length c.after < length line =
    blank_token_shorter line c e in tokens_for_enough (length line) (length c.after) c.after (omega arith)
    (omega arith))

pub tokens_end : (line : List ℕ) → token_at (after_blanks line) ≡ None → tokens_of line ≡ []
tokens_end line e = tokens_once line ∙ ap (λ (o : Option FirstToken). and_tokens_after o tokens_of) e

pub tokens_front : (line : List ℕ) (c : FirstToken) → token_at (after_blanks line) ≡ Some c
    → tokens_of line ≡ c.token ∷ tokens_of c.after
tokens_front line c e = tokens_once line ∙ ap (λ (o : Option FirstToken). and_tokens_after o tokens_of) e

pub token_empty : (line : List ℕ) → length line ≡ 0 → token_at line ≡ None
unfolding token_at
token_empty [] e = refl
token_empty (b ∷ line) e = absurd (omega arith)

pub token_comment : (line : List ℕ) → 0 < length line → get_or line 0 0 ≡ 35 → token_at line ≡ None
unfolding token_at
token_comment [] l e = absurd (omega arith)
token_comment (b ∷ line) l e = rw e refl

pub token_quote : (line : List ℕ) → 0 < length line → get_or line 0 0 ≡ 34
    → token_at line ≡ Some (quoted_at (drop 1 line))
unfolding token_at
token_quote [] l e = absurd (omega arith)
token_quote (b ∷ line) l e = rw e refl

pub token_plain : (line : List ℕ) → 0 < length line → (get_or line 0 0 ≡ 35 → ⊥) → (get_or line 0 0 ≡ 34 → ⊥)
    → token_at line ≡ Some (plain_at (get_or line 0 0) (drop 1 line))
unfolding token_at
token_plain [] l e f = absurd (omega arith)
token_plain (b ∷ line) l e f =
    let g : eqb b 35 ≡ false = ne_eqb b 35 e in let h : is_quote b ≡ false = ne_eqb b 34 f in rw (g, h) refl

pub blanks_gone : (line rest : List ℕ) (n : ℕ) → n ≡ prefix_len is_blank line → rest ≡ drop n line
    → after_blanks line ≡ rest
unfolding after_blanks
blanks_gone line rest n e f = rw (f, e) refl

pub tokens_nothing : tokens_of [] ≡ []
unfolding tokens_of tokens_for
tokens_nothing = refl
