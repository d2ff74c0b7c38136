-- Soundness of reading: a value read from the front of a line has operands there.
use Rattle.std.proofs.Common.{◌≡◌, ◌%◌, ℕ, ℤ, Bool, true, false, cond, eqb, eqb-true, List, [], ◌∷◌, ◌++◌, length}
use Rattle.std.proofs.Common.{codes, Option, Some, None, Ok, refl, sym, ap, subst, ◌∙◌, append_assoc}
use Rattle.std.specs.Str.{bytes_eq}
use Rattle.std.proofs.lemmas.Slice.Eq.{bytes_eq-Decides}
use Rattle.sample_view.specs.Words.{words}
use Rattle.bank_parts.specs.declared.texts.InfoId.{InfoId}
use Rattle.bank_parts.specs.declared.parts.Kind.{Kind}
use Rattle.bank_parts.specs.declared.parts.Kind.TheVariants.{Mono, Right, Left, Linked}
use Rattle.bank_parts.specs.declared.parts.Sample.{Sample}
use Rattle.script_tokens.specs.declared.cursor.TokenValue.{TokenValue}
use Rattle.script_tokens.specs.declared.cursor.TokenValue.TheVariants.{Word, Literal}
use Rattle.script_tokens.specs.declared.fault.LineFault.TheVariants as faults
use Rattle.script_tokens.specs.Parsers.{Parsed, ◌>>=◌, pure, or_fault, word, literal, number, signed, name}
use Rattle.script_tokens.specs.Parsers.{most_word, most_double_word}
use Rattle.script_tokens.proofs.PieceLaws.{bytes_are}
use Rattle.script_tokens.proofs.ReadLaws.{AllHoldBytes, both, or_fault_is, word_is, literal_is, number_is, signed_is}
use Rattle.script_tokens.proofs.ReadLaws.{name_is}
use Rattle.script_grammar.specs.Operands.{Operand, Fixed, Number, Signed, Name, Text, Points, Encodes, AllEncode}
use Rattle.script_grammar.specs.Names.{named, next_named, fixed_by, fixed}
use Rattle.script_grammar.specs.Texts.{id_word, ids, info_id}
use Rattle.script_grammar.proofs.NameLaws.{named_is}
use Rattle.script_grammar.specs.Samples.{kind_operands, loop_operands, tune_operands, body_operands, kind_after_word}
use Rattle.script_grammar.specs.Samples.{kind, loop_after_word, looped, points_of, points, tune, sample_of, body}

-- ---- parts

-- the front of the line encodes these operands, whatever follows
pub record PrefixEncodes (line rest : List TokenValue) (os : List Operand) : Type 0 where
  pub encoding : (more : List Operand) → AllEncode rest more → AllEncode line (os ++ more)
  pub holds : AllHoldBytes rest

pub one_operand : (line rest : List TokenValue) (s : TokenValue) (o : Operand) → AllHoldBytes line → line ≡ s ∷ rest → Encodes s o
    → PrefixEncodes line rest (o ∷ [])
one_operand line rest s o h e encoding = record {
  encoding = λ more k. subst (λ (l : List TokenValue). AllEncode l (o ∷ more)) (sym e) (encoding, k);
  holds = (let k = subst AllHoldBytes e h in k.1);
}

pub then : {line between rest : List TokenValue} (os more : List Operand) → PrefixEncodes line between os
    → PrefixEncodes between rest more → PrefixEncodes line rest (os ++ more)
then {line} os more f g = record {
  encoding =
      λ others k.
      subst (AllEncode line) (sym (append_assoc os more others)) (f.encoding (more ++ others) (g.encoding others k));
  holds = g.holds;
}

pub word_front : (line : List TokenValue) (t : Parsed (List ℕ)) → AllHoldBytes line → word line ≡ Ok t
    → PrefixEncodes line t.rest (Fixed t.value ∷ [])
word_front line t h e = one_operand line t.rest (Word t.value) (Fixed t.value) h (word_is line t e) refl

pub fixed_front : (text : List ℕ) (line : List TokenValue) (t : Parsed (Unit {0})) → AllHoldBytes line
    → fixed text line ≡ Ok t → PrefixEncodes line t.rest (Fixed text ∷ [])
unfolding fixed fixed_by
fixed_front text line t h e =
    let w = both (word line) (fixed_by text) t e in
    from w.first.value w.first.rest (word_front line w.first h w.is) (bytes_eq w.first.value text) refl w.second
  where
    from : (v : List ℕ) (rest : List TokenValue) → PrefixEncodes line rest (Fixed v ∷ []) → (b : Bool) → bytes_eq v text ≡ b
        → cond b (pure tt) (or_fault faults.Syntax None) rest ≡ Ok t → PrefixEncodes line t.rest (Fixed text ∷ [])
    from v rest g true k e =
        let same : rest ≡ t.rest = cc in
        subst (λ (r : List TokenValue). PrefixEncodes line r (Fixed text ∷ [])) same
        (subst (λ (x : List ℕ). PrefixEncodes line rest (Fixed x ∷ [])) ((bytes_eq-Decides v text).0 k) g)
    from v rest g false k e = cc

pub number_front : (limit : ℕ) (line : List TokenValue) (t : Parsed ℕ) → AllHoldBytes line → number limit line ≡ Ok t
    → PrefixEncodes line t.rest (Number limit t.value ∷ [])
number_front limit line t h e =
    let k = number_is limit line t e in
    one_operand line t.rest (Word k.digits) (Number limit t.value) h k.parts (k.digits, refl, k.writes)

pub signed_front : (limit : ℕ) (line : List TokenValue) (t : Parsed ℤ) → AllHoldBytes line → signed limit line ≡ Ok t
    → PrefixEncodes line t.rest (Signed limit t.value ∷ [])
signed_front limit line t h e =
    let k = signed_is limit line t e in
    one_operand line t.rest (Word k.digits) (Signed limit t.value) h k.parts (k.digits, refl, k.writes)

pub name_front : (line : List TokenValue) (t : Parsed (List ℕ)) → AllHoldBytes line → name line ≡ Ok t
    → PrefixEncodes line t.rest (Name t.value ∷ [])
name_front line t h e =
    let k = name_is line t h e in one_operand line t.rest (Literal t.value) (Name t.value) h k.0 (refl, k.1)

pub text_front : (line : List TokenValue) (t : Parsed (List ℕ)) → AllHoldBytes line → literal line ≡ Ok t
    → PrefixEncodes line t.rest (Text t.value ∷ [])
text_front line t h e =
    let k = literal_is line t e in
    one_operand line t.rest (Literal t.value) (Text t.value) h k
    (refl, bytes_are t.value (let b = subst AllHoldBytes k h in b.0))

whole_points : (bytes ps : List ℕ) → points_of bytes ≡ Some ps → (length bytes % 2 ≡ 0) × (ps ≡ words bytes)
unfolding points_of
whole_points bytes ps e = from (eqb (length bytes % 2) 0) refl e
  where
    from : (b : Bool) → eqb (length bytes % 2) 0 ≡ b → cond b (Some (words bytes)) None ≡ Some ps
        → (length bytes % 2 ≡ 0) × (ps ≡ words bytes)
    from true k h = let same : words bytes ≡ ps = cc in (eqb-true (length bytes % 2) 0 k, sym same)
    from false k h = cc

pub points_front : (line : List TokenValue) (t : Parsed (List ℕ)) → AllHoldBytes line → points line ≡ Ok t
    → PrefixEncodes line t.rest (Points t.value ∷ [])
unfolding points
points_front line t h e =
    let b = both (literal line) (λ bytes. or_fault faults.Literal (points_of bytes)) t e in
    let l = literal_is line b.first b.is in
    let o = or_fault_is faults.Literal (points_of b.first.value) b.first.rest t b.second in
    let w = whole_points b.first.value t.value o.0 in
    let bytes = bytes_are b.first.value (let k = subst AllHoldBytes l h in k.0) in
    one_operand line t.rest (Literal b.first.value) (Points t.value) h
    (l ∙ ap (λ (r : List TokenValue). Literal b.first.value ∷ r) o.1) (b.first.value, refl, bytes, w.0, w.1)

pub next_named_front : {X : Type 0} (word_of : X → List ℕ) (xs : List X) (line : List TokenValue) (t : Parsed X)
    → AllHoldBytes line → next_named word_of xs line ≡ Ok t → PrefixEncodes line t.rest (Fixed (word_of t.value) ∷ [])
unfolding next_named
next_named_front word_of xs line t h e =
    let w = both (word line) (λ w. or_fault faults.Syntax (named word_of xs w)) t e in
    let g = word_front line w.first h w.is in
    let o = or_fault_is faults.Syntax (named word_of xs w.first.value) w.first.rest t w.second in
    subst (λ (r : List TokenValue). PrefixEncodes line r (Fixed (word_of t.value) ∷ [])) o.1
    (subst (λ (v : List ℕ). PrefixEncodes line w.first.rest (Fixed v ∷ []))
    (named_is word_of xs w.first.value t.value o.0) g)

-- a parser that consumes no token
pub made : {X : Type 0} (x : X) (line : List TokenValue) (t : Parsed X) → pure x line ≡ Ok t
    → record { value = x; rest = line } ≡ t
made x line t e = cc

-- ---- samples

link_front : (w : List ℕ) (f : ℕ → Kind) (line : List TokenValue) (t : Parsed Kind)
    → ((n : ℕ) → kind_operands (f n) ≡ Fixed w ∷ Number most_word n ∷ []) → AllHoldBytes line
    → (number most_word >>= λ n. pure (f n)) line ≡ Ok t
    → (before : List TokenValue) → PrefixEncodes before line (Fixed w ∷ []) → PrefixEncodes before t.rest (kind_operands t.value)
link_front w f line t is h e before g =
    let n = both (number most_word line) (λ n. pure (f n)) t e in
    let k : record { value = f n.first.value; rest = n.first.rest } ≡ t = made _ n.first.rest t n.second in
    subst (λ (u : Parsed Kind). PrefixEncodes before u.rest (kind_operands u.value)) k
    (subst (PrefixEncodes before n.first.rest) (sym (is n.first.value))
    (then (Fixed w ∷ []) (Number most_word n.first.value ∷ []) g (number_front most_word line n.first h n.is)))

pub kind_front : (line : List TokenValue) (t : Parsed Kind) → AllHoldBytes line → kind line ≡ Ok t
    → PrefixEncodes line t.rest (kind_operands t.value)
unfolding kind kind_after_word
kind_front line t h e =
    let w = both (word line) kind_after_word t e in
    let g = word_front line w.first h w.is in
    from w.first.value w.first.rest g (bytes_eq w.first.value (codes "mono"))
    (bytes_eq w.first.value (codes "right")) (bytes_eq w.first.value (codes "left"))
    (bytes_eq w.first.value (codes "linked")) refl refl refl refl w.second
  where
    at : (v c : List ℕ) (rest : List TokenValue) → PrefixEncodes line rest (Fixed v ∷ []) → bytes_eq v c ≡ true
        → PrefixEncodes line rest (Fixed c ∷ [])
    at v c rest g k = subst (λ (x : List ℕ). PrefixEncodes line rest (Fixed x ∷ [])) ((bytes_eq-Decides v c).0 k) g

    from : (v : List ℕ) (rest : List TokenValue) → PrefixEncodes line rest (Fixed v ∷ []) → (a b c d : Bool)
        → bytes_eq v (codes "mono") ≡ a → bytes_eq v (codes "right") ≡ b → bytes_eq v (codes "left") ≡ c
        → bytes_eq v (codes "linked") ≡ d
        → cond a (pure Mono)
        (cond b (number most_word >>= λ n. pure (Right n))
        (cond c (number most_word >>= λ n. pure (Left n))
        (cond d (number most_word >>= λ n. pure (Linked n)) (or_fault faults.Syntax None))))
        rest
        ≡ Ok t
        → PrefixEncodes line t.rest (kind_operands t.value)
    from v rest g true b c d p q r s k =
        let same : record { value = Mono; rest = rest } ≡ t = cc in
        subst (λ (u : Parsed Kind). PrefixEncodes line u.rest (kind_operands u.value)) same (at v (codes "mono") rest g p)
    from v rest g false true c d p q r s k =
        link_front (codes "right") (λ n. Right n) rest t (λ n. refl) g.holds k line (at v (codes "right") rest g q)
    from v rest g false false true d p q r s k =
        link_front (codes "left") (λ n. Left n) rest t (λ n. refl) g.holds k line (at v (codes "left") rest g r)
    from v rest g false false false true p q r s k =
        link_front (codes "linked") (λ n. Linked n) rest t (λ n. refl) g.holds k line
        (at v (codes "linked") rest g s)
    from v rest g false false false false p q r s k = cc

pub loop_front : (line : List TokenValue) (t : Parsed (Option (ℕ × ℕ))) → AllHoldBytes line → looped line ≡ Ok t
    → PrefixEncodes line t.rest (loop_operands t.value)
unfolding looped loop_after_word
loop_front line t h e =
    let w = both (word line) loop_after_word t e in
    let g = word_front line w.first h w.is in
    from w.first.value w.first.rest g (bytes_eq w.first.value (codes "noloop"))
    (bytes_eq w.first.value (codes "loop")) refl refl w.second
  where
    at : (v c : List ℕ) (rest : List TokenValue) → PrefixEncodes line rest (Fixed v ∷ []) → bytes_eq v c ≡ true
        → PrefixEncodes line rest (Fixed c ∷ [])
    at v c rest g k = subst (λ (x : List ℕ). PrefixEncodes line rest (Fixed x ∷ [])) ((bytes_eq-Decides v c).0 k) g

    ends : (rest : List TokenValue) → PrefixEncodes line rest (Fixed (codes "loop") ∷ [])
        → (number most_double_word >>= λ a. number most_double_word >>= λ b. pure (Some (a, b))) rest ≡ Ok t
        → PrefixEncodes line t.rest (loop_operands t.value)
    ends rest g k =
        let a = both (number most_double_word rest) (λ a. number most_double_word >>= λ b. pure (Some (a, b))) t k in
        let f = number_front most_double_word rest a.first g.holds a.is in
        let b = both (number most_double_word a.first.rest) (λ b. pure (Some (a.first.value, b))) t a.second in
        let k = number_front most_double_word a.first.rest b.first f.holds b.is in
        let same : record { value = Some (a.first.value, b.first.value); rest = b.first.rest } ≡ t =
        made _ b.first.rest t b.second in
        subst (λ (u : Parsed (Option (ℕ × ℕ))). PrefixEncodes line u.rest (loop_operands u.value)) same
        (then (Fixed (codes "loop") ∷ [])
        (Number most_double_word a.first.value ∷ Number most_double_word b.first.value ∷ []) g
        (then (Number most_double_word a.first.value ∷ []) (Number most_double_word b.first.value ∷ []) f k))

    from : (v : List ℕ) (rest : List TokenValue) → PrefixEncodes line rest (Fixed v ∷ []) → (a b : Bool)
        → bytes_eq v (codes "noloop") ≡ a → bytes_eq v (codes "loop") ≡ b
        → cond a (pure None)
        (cond b (number most_double_word >>= λ a. number most_double_word >>= λ b. pure (Some (a, b)))
        (or_fault faults.Syntax None))
        rest
        ≡ Ok t
        → PrefixEncodes line t.rest (loop_operands t.value)
    from v rest g true b p q k =
        let same : record { value = None; rest = rest } ≡ t = cc in
        subst (λ (u : Parsed (Option (ℕ × ℕ))). PrefixEncodes line u.rest (loop_operands u.value)) same
        (at v (codes "noloop") rest g p)
    from v rest g false true p q k = ends rest (at v (codes "loop") rest g q) k
    from v rest g false false p q k = cc

pub tune_front : (line : List TokenValue) (t : Parsed (ℕ × ℕ × ℤ)) → AllHoldBytes line → tune line ≡ Ok t
    → PrefixEncodes line t.rest (tune_operands t.value.0 t.value.1 t.value.2)
unfolding tune
tune_front line t h e =
    let r = both (number most_double_word line) (λ r. number 255 >>= λ y. signed 127 >>= λ c. pure (r, y, c)) t e in
    let rf = number_front most_double_word line r.first h r.is in
    let y = both (number 255 r.first.rest) (λ y. signed 127 >>= λ c. pure (r.first.value, y, c)) t r.second in
    let yf = number_front 255 r.first.rest y.first rf.holds y.is in
    let c = both (signed 127 y.first.rest) (λ c. pure (r.first.value, y.first.value, c)) t y.second in
    let cf = signed_front 127 y.first.rest c.first yf.holds c.is in
    let cs : List Operand = Signed 127 c.first.value ∷ [] in
    let ys : List Operand = Number 255 y.first.value ∷ [] in
    let rs : List Operand = Number most_double_word r.first.value ∷ [] in
    let same : record { value = (r.first.value, y.first.value, c.first.value); rest = c.first.rest } ≡ t =
    made _ c.first.rest t c.second in
    subst (λ (u : Parsed (ℕ × ℕ × ℤ)). PrefixEncodes line u.rest (tune_operands u.value.0 u.value.1 u.value.2)) same
    (then rs (ys ++ cs) rf (then ys cs yf cf))

pub body_front : (line : List TokenValue) (t : Parsed Sample) → AllHoldBytes line → body line ≡ Ok t
    → PrefixEncodes line t.rest (body_operands t.value)
unfolding body
body_front line t h e =
    let n =
    both (name line)
    (λ n. tune >>= λ u. kind >>= λ k. looped >>= λ l. points >>= λ p. pure (sample_of n u k l p)) t e in
    let nf = name_front line n.first h n.is in
    let u =
    both (tune n.first.rest)
    (λ u. kind >>= λ k. looped >>= λ l. points >>= λ p. pure (sample_of n.first.value u k l p)) t n.second in
    let uf = tune_front n.first.rest u.first nf.holds u.is in
    let k =
    both (kind u.first.rest)
    (λ k. looped >>= λ l. points >>= λ p. pure (sample_of n.first.value u.first.value k l p)) t u.second in
    let kf = kind_front u.first.rest k.first uf.holds k.is in
    let l =
    both (looped k.first.rest)
    (λ l. points >>= λ p. pure (sample_of n.first.value u.first.value k.first.value l p)) t k.second in
    let lf = loop_front k.first.rest l.first kf.holds l.is in
    let p =
    both (points l.first.rest) (λ p. pure (sample_of n.first.value u.first.value k.first.value l.first.value p))
    t l.second in
    let pf = points_front l.first.rest p.first lf.holds p.is in
    let ks = kind_operands k.first.value in
    let ls = loop_operands l.first.value in
    let ps : List Operand = Points p.first.value ∷ [] in
    let us = tune_operands u.first.value.0 u.first.value.1 u.first.value.2 in
    let ns : List Operand = Name n.first.value ∷ [] in
    let same : record {
      value =
          sample_of n.first.value u.first.value k.first.value l.first.value p.first.value;
      rest = p.first.rest;
    }
    ≡ t =
    made _ p.first.rest t p.second in
    subst (λ (u : Parsed Sample). PrefixEncodes line u.rest (body_operands u.value)) same
    (then ns (us ++ ((ks ++ ls) ++ ps)) nf (then us ((ks ++ ls) ++ ps) uf (then (ks ++ ls) ps (then ks ls kf lf) pf)))

-- ---- texts

pub id_front : (line : List TokenValue) (t : Parsed InfoId) → AllHoldBytes line → info_id line ≡ Ok t
    → PrefixEncodes line t.rest (Fixed (id_word t.value) ∷ [])
unfolding info_id
id_front line t h e = next_named_front id_word ids line t h e
