-- The values of lines over the pool of their text are the values of the lines by themselves.
use Rattle.std.proofs.Common.{◌≡◌, ◌-◌, ◌/◌, ℕ, suc, Bool, true, false, List, [], ◌∷◌, ◌++◌, length, drop, map}
use Rattle.std.proofs.Common.{Result, Ok, Err, refl, sym, ap, ◌∙◌, append_assoc, arith}
use Rattle.std.specs.List.{list_all}
use Rattle.std.proofs.lemmas.List.{append-nil, take_at, drop_at, length-drop}
use Rattle.hex.specs.Hex.{decode_of}
use Rattle.hex.specs.declared.error.FromHexError.{FromHexError}
use Rattle.hex.proofs.HexLemmas.{decode_of-ok}
use Rattle.script_tokens.specs.declared.tokens.Token.{Token}
use Rattle.script_tokens.specs.declared.tokens.Token.TheVariants.{Plain, Quoted, Broken}
use Rattle.script_tokens.specs.declared.cursor.TokenValue.{TokenValue}
use Rattle.script_tokens.specs.declared.cursor.TokenValue.TheVariants.{Word, Literal, Malformed}
use Rattle.script_tokens.specs.Lines.{lines_of}
use Rattle.script_tokens.specs.Tokens.{tokens_of}
use Rattle.script_tokens.specs.TokenValue.{is_plain, is_hex, decoded, token_value}
use Rattle.script_tokens.specs.TokenValue.{values_in, values_of_lines, size_of, value_over}
use Rattle.script_tokens.specs.TokenValue.{values_over, pool_after, line_values_over}
use Rattle.script_tokens.specs.Pool.{ListOrFault, and_then, gather, literal_of, literals_of, pool_bytes}

-- ---- the cursor

pub pool_at_end : (pool : List ℕ) (ts : List Token) → values_over pool ts ≡ [] → pool ≡ pool_after pool ts
pool_at_end pool [] e = refl
pool_at_end pool (t ∷ ts) e = cc

pub lines_values_step : (pool bytes_after : List ℕ) (l : List ℕ) (ls all : List (List ℕ))
    → bytes_after ≡ pool_after pool (tokens_of l) → all ≡ l ∷ ls
    → line_values_over pool all ≡ values_over pool (tokens_of l) ∷ line_values_over bytes_after ls
lines_values_step pool bytes_after l ls all b e = rw (e, b) refl

pub lines_values_end : (pool : List ℕ) (all : List (List ℕ)) → all ≡ [] → line_values_over pool all ≡ []
lines_values_end pool all e = rw e refl

-- ---- both results are values

pub record Through {X : Type 0} (r : ListOrFault X) (f : List X → ListOrFault X) (ys : List X) : Type 0 where
  pub between : List X
  pub first : r ≡ Ok between
  pub second : f between ≡ Ok ys

pub through : {X : Type 0} (r : ListOrFault X) (f : List X → ListOrFault X) (ys : List X) → and_then r f ≡ Ok ys
    → Through r f ys
through (Ok xs) f ys e = record { between = xs; first = refl; second = e }
through (Err d) f ys e = cc

-- ---- a token's literal is at the front of the pool

pub record LiteralInPool (t : Token) (pool more : List ℕ) : Type 0 where
  pub bytes : List ℕ
  pub parts : more ≡ pool ++ bytes
  pub size : size_of t ≡ length bytes
  pub same : (rest : List ℕ) → value_over (bytes ++ rest) t ≡ token_value t

literal_added : (n : ℕ) (bytes pool more : List ℕ) → literal_of n (Literal bytes) pool ≡ Ok more → more ≡ pool ++ bytes
unfolding literal_of
literal_added n bytes pool more e = cc

pool_stays : (n : ℕ) (w pool more : List ℕ) → literal_of n (Word w) pool ≡ Ok more → more ≡ pool ++ []
unfolding literal_of
pool_stays n w pool more e = let same : pool ≡ more = cc in sym same ∙ sym (append-nil pool)

never : (n : ℕ) (pool more : List ℕ) → literal_of n Malformed pool ≡ Ok more → ⊥
unfolding literal_of
never n pool more e = cc

value_of_word : (w : List ℕ) → is_hex w ≡ false → token_value (Plain w) ≡ Word w
unfolding token_value
value_of_word w x = rw x refl

value_of_digits : (w : List ℕ) → is_hex w ≡ true → token_value (Plain w) ≡ decoded (decode_of (drop 1 w))
unfolding token_value
value_of_digits w x = rw x refl

value_of_quoted : (i : List ℕ) → list_all is_plain i ≡ true → token_value (Quoted i) ≡ Literal i
unfolding token_value
value_of_quoted i x = rw x refl

value_of_unquoted : (i : List ℕ) → list_all is_plain i ≡ false → token_value (Quoted i) ≡ Malformed
unfolding token_value
value_of_unquoted i x = rw x refl

digits_in_pool : (n : ℕ) (w pool more : List ℕ) (r : Result (List ℕ) FromHexError) → is_hex w ≡ true
    → decode_of (drop 1 w) ≡ r → literal_of n (decoded r) pool ≡ Ok more → LiteralInPool (Plain w) pool more
unfolding size_of value_over
digits_in_pool n w pool more (Ok bytes) x d e =
    let h = decode_of-ok (drop 1 w) bytes d in
    let len : (length w - 1) / 2 ≡ length bytes = (let a = h.2 in omega (arith, a, length-drop 1 w)) in
    record {
      bytes = bytes;
      parts = literal_added n bytes pool more e;
      size = rw (x, len) refl;
      same =
          λ rest.
          rw (value_of_digits w x, d, x, len)
          (ap (λ (b : List ℕ). Literal b) (take_at bytes rest (length bytes) refl));
    }
digits_in_pool n w pool more (Err f) x d e = absurd (never n pool more e)

plain_in_pool : (n : ℕ) (w pool more : List ℕ) (t : Bool) → is_hex w ≡ t
    → literal_of n (token_value (Plain w)) pool ≡ Ok more
    → LiteralInPool (Plain w) pool more
unfolding size_of value_over
plain_in_pool n w pool more true x e =
    digits_in_pool n w pool more (decode_of (drop 1 w)) x refl (rw (value_of_digits w x) at e)
plain_in_pool n w pool more false x e = record {
  bytes = [];
  parts = pool_stays n w pool more (rw (value_of_word w x) at e);
  size = rw x refl;
  same = λ rest. rw (value_of_word w x, x) refl;
}

quoted_in_pool : (n : ℕ) (i pool more : List ℕ) (t : Bool) → list_all is_plain i ≡ t
    → literal_of n (token_value (Quoted i)) pool ≡ Ok more → LiteralInPool (Quoted i) pool more
unfolding size_of value_over
quoted_in_pool n i pool more true x e = record {
  bytes = i;
  parts = literal_added n i pool more (rw (value_of_quoted i x) at e);
  size = refl;
  same = λ rest. rw (value_of_quoted i x) (ap (λ (b : List ℕ). Literal b) (take_at i rest (length i) refl));
}
quoted_in_pool n i pool more false x e = absurd (never n pool more (rw (value_of_unquoted i x) at e))

value_of_broken : token_value Broken ≡ Malformed
unfolding token_value
value_of_broken = refl

pub literal_in_pool : (n : ℕ) (t : Token) (pool more : List ℕ) → literal_of n (token_value t) pool ≡ Ok more
    → LiteralInPool t pool more
literal_in_pool n (Plain w) pool more e = plain_in_pool n w pool more (is_hex w) refl e
literal_in_pool n (Quoted i) pool more e = quoted_in_pool n i pool more (list_all is_plain i) refl e
literal_in_pool n Broken pool more e = absurd (never n pool more (rw value_of_broken at e))

-- ---- the literals of a line are at the front of the pool

pub record LiteralsInPool (ts : List Token) (pool more : List ℕ) : Type 0 where
  pub bytes : List ℕ
  pub parts : more ≡ pool ++ bytes
  pub same : (rest : List ℕ) → values_over (bytes ++ rest) ts ≡ map token_value ts
  pub bytes_after : (rest : List ℕ) → pool_after (bytes ++ rest) ts ≡ rest

no_literals_in_pool : (n : ℕ) (pool more : List ℕ) → literals_of n [] pool ≡ Ok more → LiteralsInPool [] pool more
unfolding literals_of
no_literals_in_pool n pool more e =
    let same : pool ≡ more = cc in
    record { bytes = []; parts = sym same ∙ sym (append-nil pool); same = λ rest. refl; bytes_after = λ rest. refl }

pub literals_through : (n : ℕ) (s : TokenValue) (line : List TokenValue) (pool more : List ℕ)
    → literals_of n (s ∷ line) pool ≡ Ok more → Through (literal_of n s pool) (λ p. literals_of n line p) more
unfolding literals_of
literals_through n s line pool more e = through (literal_of n s pool) (λ p. literals_of n line p) more e

pub literals_in_pool : (n : ℕ) (ts : List Token) (pool more : List ℕ)
    → literals_of n (map token_value ts) pool ≡ Ok more
    → LiteralsInPool ts pool more
literals_in_pool n [] pool more e = no_literals_in_pool n pool more e
literals_in_pool n (t ∷ ts) pool more e =
    let b = literals_through n (token_value t) (map token_value ts) pool more e in
    let l = literal_in_pool n t pool b.between b.first in
    let s = literals_in_pool n ts b.between more b.second in
    let split = λ (rest : List ℕ). append_assoc l.bytes s.bytes rest in
    let left =
    λ (rest : List ℕ).
    ap (drop (size_of t)) (split rest) ∙ drop_at l.bytes (s.bytes ++ rest) (size_of t) (sym l.size) in
    record {
      bytes = l.bytes ++ s.bytes;
      parts = s.parts ∙ ap (λ (x : List ℕ). x ++ s.bytes) l.parts ∙ append_assoc pool l.bytes s.bytes;
      same = λ rest.
          ap (λ (x : TokenValue). x ∷ values_over (drop (size_of t) ((l.bytes ++ s.bytes) ++ rest)) ts)
          (ap (λ (x : List ℕ). value_over x t) (split rest) ∙ l.same (s.bytes ++ rest))
          ∙ ap (λ (x : List ℕ). token_value t ∷ values_over x ts) (left rest)
          ∙ ap (λ (x : List TokenValue). token_value t ∷ x) (s.same rest);
      bytes_after = λ rest. ap (λ (x : List ℕ). pool_after x ts) (left rest) ∙ s.bytes_after rest;
    }

-- ---- the literals of all lines are in the pool

pub record LinesInPool (ls : List (List ℕ)) (pool more : List ℕ) : Type 0 where
  pub bytes : List ℕ
  pub parts : more ≡ pool ++ bytes
  pub same : line_values_over bytes ls ≡ map values_in ls

no_lines_in_pool : (n : ℕ) (pool more : List ℕ) → gather literals_of n [] pool ≡ Ok more → LinesInPool [] pool more
unfolding gather
no_lines_in_pool n pool more e =
    let same : pool ≡ more = cc in
    record { bytes = []; parts = sym same ∙ sym (append-nil pool); same = refl }

pub lines_through : (n : ℕ) (l : List TokenValue) (ls : List (List TokenValue)) (pool more : List ℕ)
    → gather literals_of n (l ∷ ls) pool ≡ Ok more
    → Through (literals_of n l pool) (λ p. gather literals_of (suc n) ls p) more
unfolding gather
lines_through n l ls pool more e = through (literals_of n l pool) (λ p. gather literals_of (suc n) ls p) more e

lines_in_pool : (n : ℕ) (ls : List (List ℕ)) (pool more : List ℕ)
    → gather literals_of n (map values_in ls) pool ≡ Ok more → LinesInPool ls pool more
lines_in_pool n [] pool more e = no_lines_in_pool n pool more e
lines_in_pool n (l ∷ ls) pool more e =
    let b = lines_through n (values_in l) (map values_in ls) pool more e in
    let s = literals_in_pool n (tokens_of l) pool b.between b.first in
    let r = lines_in_pool (suc n) ls b.between more b.second in
    record {
      bytes = s.bytes ++ r.bytes;
      parts = r.parts ∙ ap (λ (x : List ℕ). x ++ r.bytes) s.parts ∙ append_assoc pool s.bytes r.bytes;
      same =
          ap (λ (x : List TokenValue). x ∷ line_values_over (pool_after (s.bytes ++ r.bytes) (tokens_of l)) ls)
          (s.same r.bytes)
          ∙ ap (λ (x : List ℕ). values_in l ∷ line_values_over x ls) (s.bytes_after r.bytes)
          ∙ ap (λ (x : List (List TokenValue)). values_in l ∷ x) r.same;
    }

pub over_pool : (text pool : List ℕ) → pool_bytes text ≡ Ok pool
    → line_values_over pool (lines_of text) ≡ values_of_lines text
unfolding pool_bytes
over_pool text pool e =
    let s = lines_in_pool 1 (lines_of text) [] pool e in
    ap (λ (p : List ℕ). line_values_over p (lines_of text)) s.parts ∙ s.same
