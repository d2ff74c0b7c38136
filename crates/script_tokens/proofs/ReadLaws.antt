-- Soundness of reading: the values read from a text satisfy its grammar.
use Rattle.std.proofs.Common.{◌≡◌, ◌≤◌, ◌<◌, ◌+◌, ℕ, zero, suc, Bool, true, false, cond, eqb, eqb-true, not, List}
use Rattle.std.proofs.Common.{[], ◌∷◌, ◌++◌, length, get_or, take, drop, map, Option, Some, None, Result, Ok, Err}
use Rattle.std.proofs.Common.{refl, sym, ap, subst, ◌∙◌, take-append-drop, append_assoc, arith, inl, inr, ℤ, pos}
use Rattle.std.specs.Prelude.{nat_lt, nat_le, ◌&&◌, neg_ℤ, option_map}
use Rattle.std.specs.List.{list_all, AllByRecursion, position_or_len, prefix_len, before_first, after_first}
use Rattle.std.proofs.lemmas.Bool.{ltb-true, leb-true, and_parts, and_from}
use Rattle.std.proofs.lemmas.List.{length-drop}
use Rattle.std.proofs.lemmas.List.Sums.{split_at_first, passes_at_first}
use Rattle.hex.specs.Hex.{IsBytes, decode_of}
use Rattle.hex.specs.declared.error.FromHexError.{FromHexError}
use Rattle.hex.proofs.HexLemmas.{decode_of-ok}
use Rattle.sf_base.specs.Names.{IsTextByte, IsName}
use Rattle.script_tokens.specs.declared.tokens.Token.{Token}
use Rattle.script_tokens.specs.declared.tokens.Token.TheVariants.{Plain, Quoted, Broken}
use Rattle.script_tokens.specs.declared.cursor.TokenValue.{TokenValue}
use Rattle.script_tokens.specs.declared.cursor.TokenValue.TheVariants.{Word, Literal, Malformed}
use Rattle.script_tokens.specs.declared.fault.LineFault.{LineFault}
use Rattle.script_tokens.specs.declared.fault.LineFault.TheVariants as faults
use Rattle.script_tokens.specs.Tokens.{is_blank, is_quote, after_blanks, ends_well, FirstToken, quoted_at, plain_at}
use Rattle.script_tokens.specs.Tokens.{token_at, and_tokens_after, tokens_of}
use Rattle.script_tokens.specs.TokenValue.{is_plain, is_hex, decoded, token_value, values_in}
use Rattle.script_tokens.specs.Parsers.{Parsed, Parser, and_then, or_fault, word, literal, number, number_of, signed}
use Rattle.script_tokens.specs.Parsers.{signed_of, dots_at, both_of, number_word}
use Rattle.script_tokens.specs.Parsers.{numeral, range, range_of, digits_value}
use Rattle.script_tokens.specs.Parsers.{is_digit, is_name, name_of, name, ended}
use Rattle.script_tokens.specs.Pool.{gather, literal_of, literals_of}
use Rattle.script_tokens.specs.TextForm.{not_blank, Shows, is_silent, HasNoTokens, Begins, LineHasValues, Writes}
use Rattle.script_tokens.specs.TextForm.{WritesMinus, WritesPlus, WritesSigned, WritesRange}
use Rattle.script_tokens.proofs.TestLaws.{front_passes, split_at_dots}
use Rattle.script_tokens.proofs.LexLaws.{tokens_once}
use Rattle.script_tokens.proofs.PoolLaws.{literals_through, lines_through}

-- ---- the first byte after blanks is no blank

first_stays : (line : List ℕ) (b : ℕ) (rest : List ℕ) → after_blanks line ≡ b ∷ rest → is_blank b ≡ false
unfolding after_blanks
first_stays [] b rest e = cc
first_stays (a ∷ line) b rest e = from (first_stays line b rest) (is_blank a) refl e
  where
    from : (drop (prefix_len is_blank line) line ≡ b ∷ rest → is_blank b ≡ false) → (t : Bool) → is_blank a ≡ t
        → drop (cond t (1 + prefix_len is_blank line) 0) (a ∷ line) ≡ b ∷ rest → is_blank b ≡ false
    from h true x k =
        let n : 1 + prefix_len is_blank line ≡ suc (prefix_len is_blank line) = omega arith in h (rw n at k)
    from h false x k = let same : a ≡ b = cc in ap is_blank (sym same) ∙ x

-- the blanks, and the bytes after them
pub record Split (line : List ℕ) : Type 0 where
  pub blanks : List ℕ
  pub parts : line ≡ blanks ++ after_blanks line
  pub blank : list_all is_blank blanks ≡ true

split : (line : List ℕ) → Split line
unfolding after_blanks
split line = record {
  blanks = take (prefix_len is_blank line) line;
  parts = sym (take-append-drop (prefix_len is_blank line) line);
  blank = front_passes is_blank line;
}

-- ---- a line without tokens has no values

silent : (rest : List ℕ) → token_at rest ≡ None → is_silent rest ≡ true
unfolding token_at
silent [] e = refl
silent (b ∷ rest) e = from (eqb b 35) (is_quote b) e
  where
    from : (s t : Bool) → cond s None (cond t (Some (quoted_at rest)) (Some (plain_at b rest))) ≡ None → s ≡ true
    from true t k = refl
    from false true k = cc
    from false false k = cc

no_token : (line : List ℕ) → token_at (after_blanks line) ≡ None → HasNoTokens line
no_token line e =
    let s = split line in
    record {
      blanks =
          s.blanks;
      rest =
          after_blanks line;
      parts = s.parts;
      blank = s.blank;
      silent = silent (after_blanks line) e;
    }

-- ---- a well-formed token has the value that is read

abbrev pub Good : TokenValue → Type 0
Good (Word w) = Unit {0}
Good (Literal bytes) = Unit {0}
Good Malformed = ⊥

-- a token and its value
pub record Shown (rest : List ℕ) (s : TokenValue) (after : List ℕ) : Type 0 where
  pub token : List ℕ
  pub parts : rest ≡ token ++ after
  pub shows : Shows token s
  pub apart : ends_well after ≡ true

value_of_quoted : (i : List ℕ) (t : Bool) → list_all is_plain i ≡ t
    → token_value (Quoted i) ≡ cond t (Literal i) Malformed
unfolding token_value
value_of_quoted i t e = rw e refl

value_of_broken : token_value Broken ≡ Malformed
unfolding token_value
value_of_broken = refl

value_of_plain : (w : List ℕ) (t : Bool) → is_hex w ≡ t
    → token_value (Plain w) ≡ cond t (decoded (decode_of (drop 1 w))) (Word w)
unfolding token_value
value_of_plain w t e = rw e refl

both_pass : (p q : ℕ → Bool) (xs : List ℕ) → list_all p xs ≡ true → list_all q xs ≡ true
    → list_all (λ x. p x && q x) xs ≡ true
both_pass p q [] h k = refl
both_pass p q (x ∷ xs) h k =
    let a = and_parts (p x) (list_all p xs) h in
    let b = and_parts (q x) (list_all q xs) k in
    and_from (p x && q x) (list_all (λ y. p y && q y) xs) (and_from (p x) (q x) a.0 b.0) (both_pass p q xs a.1 b.1)

quoted_parts : (r : List ℕ) → position_or_len is_quote r < length r
    → 34 ∷ r ≡ (34 ∷ before_first is_quote r ++ 34 ∷ []) ++ after_first is_quote r
quoted_parts r lt =
    let q = eqb-true (get_or r (position_or_len is_quote r) 0) 34 (passes_at_first is_quote r 0 lt) in
    ap (λ (x : List ℕ). 34 ∷ x)
    (split_at_first is_quote r 0 lt
    ∙ ap (λ (b : ℕ). before_first is_quote r ++ (b ∷ after_first is_quote r)) q
    ∙ sym (append_assoc (before_first is_quote r) (34 ∷ []) (after_first is_quote r)))

quoted_good : (r : List ℕ) (t : Bool) → list_all is_plain (before_first is_quote r) ≡ t
    → position_or_len is_quote r < length r → ends_well (after_first is_quote r) ≡ true
    → Good (token_value (Quoted (before_first is_quote r)))
    → Shown (34 ∷ r) (token_value (Quoted (before_first is_quote r))) (after_first is_quote r)
quoted_good r true e lt w g = record {
  token = 34 ∷ before_first is_quote r ++ 34 ∷ [];
  parts = quoted_parts r lt;
  shows =
      rw (value_of_quoted (before_first is_quote r) true e)
      (inl (
        refl,
        both_pass is_plain (λ b. not (is_quote b)) (before_first is_quote r) e
            (front_passes (λ b. not (is_quote b)) r),
      ));
  apart = w;
}
quoted_good r false e lt w g = absurd (rw (value_of_quoted (before_first is_quote r) false e) at g)

quoted_shown : (r : List ℕ) (f : FirstToken) → quoted_at r ≡ f → Good (token_value f.token)
    → Shown (34 ∷ r) (token_value f.token) f.after
unfolding quoted_at
quoted_shown r f e g =
    from (nat_lt (position_or_len is_quote r) (length r)) (ends_well (after_first is_quote r)) refl refl e
  where
    from : (s t : Bool) → nat_lt (position_or_len is_quote r) (length r) ≡ s → ends_well (after_first is_quote r) ≡ t
        → cond {A = FirstToken} (s && t)
        (record { token = Quoted (before_first is_quote r); after = after_first is_quote r })
        (record { token = Broken; after = [] })
        ≡ f
        → Shown (34 ∷ r) (token_value f.token) f.after
    from true true x y k =
        subst (λ (h : FirstToken). Shown (34 ∷ r) (token_value h.token) h.after) k
        (quoted_good r (list_all is_plain (before_first is_quote r)) refl (ltb-true _ _ x) y
        (subst (λ (h : FirstToken). Good (token_value h.token)) (sym k) g))
    from true false x y k = absurd (rw value_of_broken at (subst (λ (h : FirstToken). Good (token_value h.token)) (sym k) g))
    from false t x y k = absurd (rw value_of_broken at (subst (λ (h : FirstToken). Good (token_value h.token)) (sym k) g))

ends_after : (r : List ℕ) → ends_well (drop (position_or_len is_blank r) r) ≡ true
ends_after [] = refl
ends_after (b ∷ r) = from (ends_after r) (is_blank b) refl
  where
    from : ends_well (drop (position_or_len is_blank r) r) ≡ true → (t : Bool) → is_blank b ≡ t
        → ends_well (drop (cond (not t) (1 + position_or_len is_blank r) 0) (b ∷ r)) ≡ true
    from h true e = e
    from h false e = let n : 1 + position_or_len is_blank r ≡ suc (position_or_len is_blank r) = omega arith in rw n h

digits_shown : (b : ℕ) (w : List ℕ) (d : Result (List ℕ) FromHexError) → b ≡ 120 → decode_of w ≡ d → Good (decoded d)
    → Shows (b ∷ w) (decoded d)
digits_shown b w (Ok bytes) x e g = inr (record { digits = w; parts = ap (λ (c : ℕ). c ∷ w) x; value = e })
digits_shown b w (Err f) x e g = absurd g

plain_shows : (b : ℕ) (w : List ℕ) (t : Bool) → eqb b 120 ≡ t → is_blank b ≡ false → eqb b 35 ≡ false
    → is_quote b ≡ false → list_all not_blank w ≡ true → Good (token_value (Plain (b ∷ w)))
    → Shows (b ∷ w) (token_value (Plain (b ∷ w)))
plain_shows b w true e x y z h g =
    rw (value_of_plain (b ∷ w) true e)
    (digits_shown b w (decode_of w) (eqb-true b 120 e) refl (rw (value_of_plain (b ∷ w) true e) at g))
plain_shows b w false e x y z h g =
    rw (value_of_plain (b ∷ w) false e) (refl, rw (e, x, y, z, h) refl)

plain_shown : (b : ℕ) (r : List ℕ) (f : FirstToken) → is_blank b ≡ false → eqb b 35 ≡ false → is_quote b ≡ false
    → plain_at b r ≡ f → Good (token_value f.token) → Shown (b ∷ r) (token_value f.token) f.after
unfolding plain_at
plain_shown b r f x y z e g =
    subst (λ (h : FirstToken). Shown (b ∷ r) (token_value h.token) h.after) e (record {
      token = b ∷ before_first is_blank r;
      parts = ap (λ (l : List ℕ). b ∷ l) (sym (take-append-drop (position_or_len is_blank r) r));
      shows =
          plain_shows b (before_first is_blank r) (eqb b 120) refl x y z (front_passes not_blank r)
          (subst (λ (h : FirstToken). Good (token_value h.token)) (sym e) g);
      apart = ends_after r;
    })

front_shown : (rest : List ℕ) (f : FirstToken) → ((b : ℕ) (r : List ℕ) → rest ≡ b ∷ r → is_blank b ≡ false)
    → token_at rest ≡ Some f → Good (token_value f.token) → Shown rest (token_value f.token) f.after
unfolding token_at
front_shown [] f stays e g = cc
front_shown (b ∷ r) f stays e g = from (eqb b 35) (is_quote b) refl refl e
  where
    from : (s t : Bool) → eqb b 35 ≡ s → is_quote b ≡ t
        → cond s None (cond t (Some (quoted_at r)) (Some (plain_at b r))) ≡ Some f
        → Shown (b ∷ r) (token_value f.token) f.after
    from true t x y k = cc
    from false true x y k = let same : quoted_at r ≡ f = cc in rw (eqb-true b 34 y) (quoted_shown r f same g)
    from false false x y k = let same : plain_at b r ≡ f = cc in plain_shown b r f (stays b r refl) x y same g

begun : (line : List ℕ) (f : FirstToken) → token_at (after_blanks line) ≡ Some f → Good (token_value f.token)
    → Begins line (token_value f.token) f.after
begun line f e g =
    let s = split line in
    let t = front_shown (after_blanks line) f (λ b r k. first_stays line b r k) e g in
    record {
      blanks =
          s.blanks;
      token =
          t.token;
      parts =
          s.parts ∙ ap (λ (l : List ℕ). s.blanks ++ l) t.parts;
      blank =
          s.blank;
      shows = t.shows;
      apart = t.apart;
    }

-- ---- a line

abbrev pub AllGood : List TokenValue → Type 0
AllGood token_values = AllByRecursion Good token_values

line_has_values : (ts : List Token) (line : List ℕ) → tokens_of line ≡ ts → AllGood (map token_value ts)
    → LineHasValues line (map token_value ts)
line_has_values [] line e g = from (token_at (after_blanks line)) refl (sym (tokens_once line) ∙ e)
  where
    from : (o : Option FirstToken) → token_at (after_blanks line) ≡ o → and_tokens_after o tokens_of ≡ []
        → HasNoTokens line
    from None x k = no_token line x
    from (Some f) x k = cc
line_has_values (t ∷ ts) line e g =
    from (λ after k. line_has_values ts after k g.1) (token_at (after_blanks line)) refl (sym (tokens_once line) ∙ e)
  where
    from : ((after : List ℕ) → tokens_of after ≡ ts → LineHasValues after (map token_value ts))
        → (o : Option FirstToken)
        → token_at (after_blanks line) ≡ o → and_tokens_after o tokens_of ≡ t ∷ ts → LineHasValues line (map token_value (t ∷ ts))
    from more None x k = cc
    from more (Some f) x k =
        let token : f.token ≡ t = cc in
        let after : tokens_of f.after ≡ ts = cc in
        let good : Good (token_value f.token) = rw token g.0 in
        (f.after, subst (λ (u : Token). Begins line (token_value u) f.after) token (begun line f x good), more f.after after)

pub line_shown : (line : List ℕ) → AllGood (values_in line) → LineHasValues line (values_in line)
line_shown line g = line_has_values (tokens_of line) line refl g

-- ---- the literals of a text that has a pool are well formed

literal_good : (n : ℕ) (s : TokenValue) (pool more : List ℕ) → literal_of n s pool ≡ Ok more → Good s
unfolding literal_of
literal_good n (Word w) pool more e = tt
literal_good n (Literal bytes) pool more e = tt
literal_good n Malformed pool more e = cc

literals_good : (n : ℕ) (token_values : List TokenValue) (pool more : List ℕ)
    → literals_of n token_values pool ≡ Ok more → AllGood token_values
literals_good n [] pool more e = tt
literals_good n (s ∷ token_values) pool more e =
    let t = literals_through n s token_values pool more e in
    (literal_good n s pool t.between t.first, literals_good n token_values t.between more t.second)

pub lines_good : (n : ℕ) (ls : List (List TokenValue)) (pool more : List ℕ) → gather literals_of n ls pool ≡ Ok more
    → AllByRecursion AllGood ls
lines_good n [] pool more e = tt
lines_good n (l ∷ ls) pool more e =
    let t = lines_through n l ls pool more e in
    (literals_good n l pool t.between t.first, lines_good (suc n) ls t.between more t.second)

-- ---- the literals of a text are bytes

abbrev pub HoldsBytes : TokenValue → Type 0
HoldsBytes (Word w) = Unit {0}
HoldsBytes (Literal bytes) = IsBytes bytes
HoldsBytes Malformed = Unit {0}

abbrev pub AllHoldBytes : List TokenValue → Type 0
AllHoldBytes line = AllByRecursion HoldsBytes line

plain_bytes : (i : List ℕ) → list_all is_plain i ≡ true → IsBytes i
plain_bytes [] h k = omega arith
plain_bytes (b ∷ i) h zero =
    let p = and_parts (is_plain b) (list_all is_plain i) h in
    let q = and_parts (nat_le 32 b) (nat_le b 126) p.0 in let l = leb-true b 126 q.1 in omega (arith, l)
plain_bytes (b ∷ i) h (suc k) = plain_bytes i (and_parts (is_plain b) (list_all is_plain i) h).1 k

decoded_bytes : (w : List ℕ) (r : Result (List ℕ) FromHexError) → decode_of w ≡ r → HoldsBytes (decoded r)
decoded_bytes w (Ok bytes) e = (decode_of-ok w bytes e).3
decoded_bytes w (Err f) e = tt

value_has_bytes : (t : Token) → HoldsBytes (token_value t)
unfolding token_value
value_has_bytes (Plain w) = from (is_hex w)
  where
    from : (b : Bool) → HoldsBytes (cond b (decoded (decode_of (drop 1 w))) (Word w))
    from true = decoded_bytes (drop 1 w) (decode_of (drop 1 w)) refl
    from false = tt
value_has_bytes (Quoted i) = from (list_all is_plain i) refl
  where
    from : (b : Bool) → list_all is_plain i ≡ b → HoldsBytes (cond b (Literal i) Malformed)
    from true e = plain_bytes i e
    from false e = tt
value_has_bytes Broken = tt

pub tokens_bytes : (ts : List Token) → AllHoldBytes (map token_value ts)
tokens_bytes [] = tt
tokens_bytes (t ∷ ts) = (value_has_bytes t, tokens_bytes ts)

-- ---- parts

-- one parser succeeds, and then the next
pub record Both {X Y : Type 0} (r : Result (Parsed X) LineFault) (f : X → Parser Y) (t : Parsed Y) : Type 0 where
  pub first : Parsed X
  pub is : r ≡ Ok first
  pub second : f first.value first.rest ≡ Ok t

pub both : {X Y : Type 0} (r : Result (Parsed X) LineFault) (f : X → Parser Y) (t : Parsed Y) → and_then r f ≡ Ok t
    → Both r f t
both (Ok u) f t e = record { first = u; is = refl; second = e }
both (Err d) f t e = cc

pub or_fault_is : {X : Type 0} (d : LineFault) (o : Option X) (line : List TokenValue) (t : Parsed X)
    → or_fault d o line ≡ Ok t → (o ≡ Some t.value) × (line ≡ t.rest)
or_fault_is d None line t e = cc
or_fault_is d (Some x) line t e =
    let h : record { value = x; rest = line } ≡ t = cc in
    (ap (λ (u : Parsed _). Some u.value) h, ap (λ (u : Parsed _). u.rest) h)

pub word_is : (line : List TokenValue) (t : Parsed (List ℕ)) → word line ≡ Ok t → line ≡ Word t.value ∷ t.rest
unfolding word
word_is [] t e = cc
word_is (Word w ∷ line) t e =
    let k : record { value = w; rest = line } ≡ t = cc in ap (λ (u : Parsed (List ℕ)). Word u.value ∷ u.rest) k
word_is (Literal bytes ∷ line) t e = cc
word_is (Malformed ∷ line) t e = cc

pub literal_is : (line : List TokenValue) (t : Parsed (List ℕ)) → literal line ≡ Ok t → line ≡ Literal t.value ∷ t.rest
unfolding literal
literal_is [] t e = cc
literal_is (Word w ∷ line) t e = cc
literal_is (Literal bytes ∷ line) t e =
    let k : record { value = bytes; rest = line } ≡ t = cc in ap (λ (u : Parsed (List ℕ)). Literal u.value ∷ u.rest) k
literal_is (Malformed ∷ line) t e = cc

writes : (limit : ℕ) (w : List ℕ) (n : ℕ) → number_of limit w ≡ Some n → Writes limit w n
unfolding number_of
writes limit w n e =
    from (nat_lt 0 (length w)) (nat_le (length w) 10) (list_all is_digit w) (nat_le (digits_value w) limit) refl refl
    refl refl e
  where
    from : (a b c d : Bool) → nat_lt 0 (length w) ≡ a → nat_le (length w) 10 ≡ b → list_all is_digit w ≡ c
        → nat_le (digits_value w) limit ≡ d → cond (a && b && c && d) (Some (digits_value w)) None ≡ Some n
        → Writes limit w n
    from true true true true p q r s h =
        let k : digits_value w ≡ n = cc in
        record {
          some =
              ltb-true 0 (length w) p;
          few =
              leb-true (length w) 10 q;
          digits =
              r;
          value = k;
          within = subst (λ (m : ℕ). m ≤ limit) k (leb-true (digits_value w) limit s);
        }
    from true true true false p q r s h = cc
    from true true false d p q r s h = cc
    from true false c d p q r s h = cc
    from false b c d p q r s h = cc

-- the word of a signed number
writes_minus : (limit : ℕ) (w : List ℕ) (z : ℤ) (o : Option ℕ) → number_of (limit + 1) w ≡ o
    → option_map (λ n. neg_ℤ (pos n)) o ≡ Some z → WritesMinus limit (45 ∷ w) z
writes_minus limit w z (Some n) k e =
    let same : neg_ℤ (pos n) ≡ z = cc in
    record { digits = w; number = n; parts = refl; writes = writes (limit + 1) w n k; value = sym same }
writes_minus limit w z None k e = cc

writes_plus : (limit : ℕ) (w : List ℕ) (z : ℤ) (o : Option ℕ) → number_of limit w ≡ o → option_map pos o ≡ Some z
    → WritesPlus limit w z
writes_plus limit w z (Some n) k e =
    let same : pos n ≡ z = cc in record { number = n; writes = writes limit w n k; value = sym same }
writes_plus limit w z None k e = cc

signed_writes : (limit : ℕ) (w : List ℕ) (z : ℤ) → signed_of limit w ≡ Some z → WritesSigned limit w z
unfolding signed_of
signed_writes limit [] z e = cc
signed_writes limit (b ∷ w) z e = from (eqb b 45) refl e
  where
    from : (t : Bool) → eqb b 45 ≡ t
        → cond t (option_map (λ n. neg_ℤ (pos n)) (number_of (limit + 1) w))
        (option_map pos (number_of limit (b ∷ w)))
        ≡ Some z
        → WritesSigned limit (b ∷ w) z
    from true k h =
        inl
        (subst (λ (c : ℕ). WritesMinus limit (c ∷ w) z) (sym (eqb-true b 45 k))
        (writes_minus limit w z (number_of (limit + 1) w) refl h))
    from false k h = inr (writes_plus limit (b ∷ w) z (number_of limit (b ∷ w)) refl h)

-- the word of a range
range_writes : (w : List ℕ) (r : ℕ × ℕ) → range_of w ≡ Some r → WritesRange w r.0 r.1
unfolding range_of
range_writes w r e = from (number_of 255 (take (dots_at w) w)) (number_of 255 (drop (dots_at w + 2) w)) refl refl e
  where
    from : (o p : Option ℕ) → number_of 255 (take (dots_at w) w) ≡ o → number_of 255 (drop (dots_at w + 2) w) ≡ p
        → both_of o p ≡ Some r → WritesRange w r.0 r.1
    from None p x y k = cc
    from (Some low) None x y k = cc
    from (Some low) (Some high) x y k =
        let bytes_after = writes 255 (drop (dots_at w + 2) w) high y in
        let some = bytes_after.some in
        let enough : dots_at w + 2 ≤ length w = omega (arith, some, length-drop (dots_at w + 2) w) in
        let same : (low, high) ≡ r = cc in
        subst (λ (q : ℕ × ℕ). WritesRange w q.0 q.1) same
        (record {
          before =
              take (dots_at w) w;
          bytes_after =
              drop (dots_at w + 2) w;
          parts =
              split_at_dots w enough;
          writes_low =
              writes 255 (take (dots_at w) w) low x;
          writes_high = bytes_after;
        })

-- a line that begins with a word, and the value of that word
pub record Numbered {X : Type 0} (W : List ℕ → X → Type 0) (line : List TokenValue) (t : Parsed X) : Type 0 where
  pub digits : List ℕ
  pub parts : line ≡ Word digits ∷ t.rest
  pub writes : W digits t.value

number_word_is : (line : List TokenValue) (t : Parsed (List ℕ)) → number_word line ≡ Ok t → line ≡ Word t.value ∷ t.rest
unfolding number_word
number_word_is [] t e = cc
number_word_is (Word w ∷ line) t e =
    let k : record { value = w; rest = line } ≡ t = cc in ap (λ (u : Parsed (List ℕ)). Word u.value ∷ u.rest) k
number_word_is (Literal bytes ∷ line) t e = cc
number_word_is (Malformed ∷ line) t e = cc

numeral_is : {X : Type 0} (W : List ℕ → X → Type 0) (f : List ℕ → Option X)
    → ((w : List ℕ) (x : X) → f w ≡ Some x → W w x) → (line : List TokenValue) (t : Parsed X) → numeral f line ≡ Ok t
    → Numbered W line t
numeral_is W f writes line t e =
    let b = both (number_word line) (λ w. or_fault faults.Number (f w)) t e in
    let k = or_fault_is faults.Number (f b.first.value) b.first.rest t b.second in
    record {
      digits = b.first.value;
      parts = number_word_is line b.first b.is ∙ ap (λ (l : List TokenValue). Word b.first.value ∷ l) k.1;
      writes = writes b.first.value t.value k.0;
    }

pub number_is : (limit : ℕ) (line : List TokenValue) (t : Parsed ℕ) → number limit line ≡ Ok t
    → Numbered (Writes limit) line t
unfolding number
number_is limit line t e = numeral_is (Writes limit) (number_of limit) (writes limit) line t e

pub signed_is : (limit : ℕ) (line : List TokenValue) (t : Parsed ℤ) → signed limit line ≡ Ok t
    → Numbered (WritesSigned limit) line t
unfolding signed
signed_is limit line t e = numeral_is (WritesSigned limit) (signed_of limit) (signed_writes limit) line t e

-- a range, and its two ends
abbrev pub WritesEnds : List ℕ → ℕ × ℕ → Type 0
WritesEnds word ends = WritesRange word ends.0 ends.1

pub range_is : (line : List TokenValue) (t : Parsed (ℕ × ℕ)) → range line ≡ Ok t → Numbered WritesEnds line t
unfolding range
range_is line t e = numeral_is WritesEnds range_of range_writes line t e

text_bytes : (bytes : List ℕ) → list_all (λ b. nat_lt 0 b) bytes ≡ true → IsBytes bytes
    → AllByRecursion IsTextByte bytes
text_bytes [] e h = tt
text_bytes (b ∷ bytes) e h =
    let p = and_parts (nat_lt 0 b) (list_all (λ c. nat_lt 0 c) bytes) e in
    ((ltb-true 0 b p.0, h 0), text_bytes bytes p.1 (λ i. h (suc i)))

name_is_name : (bytes n : List ℕ) → IsBytes bytes → name_of bytes ≡ Some n → (bytes ≡ n) × IsName n
unfolding name_of
name_is_name bytes n h e = from (is_name bytes) refl e
  where
    from : (b : Bool) → is_name bytes ≡ b → cond b (Some bytes) None ≡ Some n → (bytes ≡ n) × IsName n
    from true i k =
        let same : bytes ≡ n = cc in
        let p = and_parts (nat_le (length bytes) 20) (list_all (λ b. nat_lt 0 b) bytes) i in
        (same, subst IsName same (leb-true (length bytes) 20 p.0, text_bytes bytes p.1 h))
    from false i k = cc

pub name_is : (line : List TokenValue) (t : Parsed (List ℕ)) → AllHoldBytes line → name line ≡ Ok t
    → (line ≡ Literal t.value ∷ t.rest) × IsName t.value
unfolding name
name_is line t h e =
    let b = both (literal line) (λ bytes. or_fault faults.Literal (name_of bytes)) t e in
    let l = literal_is line b.first b.is in
    let o = or_fault_is faults.Literal (name_of b.first.value) b.first.rest t b.second in
    let bytes : IsBytes b.first.value = (let k = subst AllHoldBytes l h in k.0) in
    let n = name_is_name b.first.value t.value bytes o.0 in
    (l ∙ ap (λ (x : List ℕ). Literal x ∷ b.first.rest) n.0 ∙ ap (λ (x : List TokenValue). Literal t.value ∷ x) o.1, n.1)

pub ended_is : {X : Type 0} (x : X) (line : List TokenValue) (t : Parsed X) → ended x line ≡ Ok t
    → (line ≡ []) × (x ≡ t.value)
unfolding ended
ended_is x [] t e = let k : record { value = x; rest = [] } ≡ t = cc in (refl, ap (λ (u : Parsed _). u.value) k)
ended_is x (s ∷ line) t e = cc
