-- Completeness of reading: the operands of a part on a line are read as its value.
use Rattle.std.proofs.Common.{◌≡◌, ◌%◌, ℕ, ℤ, Bool, true, cond, List, [], ◌∷◌, ◌++◌, length, codes, Option, Some}
use Rattle.std.proofs.Common.{None, Ok, refl, sym, ap, subst, append_assoc, ◌∙◌}
use Rattle.std.specs.Str.{bytes_eq}
use Rattle.std.proofs.lemmas.Slice.Eq.{bytes_eq-Decides}
use Rattle.sample_view.specs.Words.{words}
use Rattle.bank_parts.specs.declared.texts.InfoId.{InfoId}
use Rattle.bank_parts.specs.declared.parts.Kind.{Kind}
use Rattle.bank_parts.specs.declared.parts.Kind.TheVariants.{Mono, Right, Left, Linked}
use Rattle.bank_parts.specs.declared.parts.Sample.{Sample}
use Rattle.script_tokens.specs.declared.cursor.TokenValue.{TokenValue}
use Rattle.script_tokens.specs.declared.cursor.TokenValue.TheVariants.{Literal}
use Rattle.script_tokens.specs.declared.fault.LineFault.TheVariants as faults
use Rattle.script_tokens.specs.Parsers.{Parser, and_then, ◌>>=◌, pure, or_fault, word, literal, number, signed, name}
use Rattle.script_tokens.specs.Parsers.{most_word, most_double_word}
use Rattle.script_tokens.proofs.CompletenessLaws as tokens
use Rattle.script_grammar.specs.Operands.{Operand, Fixed, Number, Signed, Name, Text, Points, AllEncode}
use Rattle.script_grammar.specs.Names.{named, next_named, fixed_by, fixed}
use Rattle.script_grammar.specs.Texts.{id_word, ids, info_id}
use Rattle.script_grammar.proofs.NameLaws.{id_named}
use Rattle.script_grammar.specs.Samples.{kind_operands, loop_operands, tune_operands, body_operands, kind_after_word}
use Rattle.script_grammar.specs.Samples.{kind, loop_after_word, looped, points_of, points, tune, body}

-- ---- parts

-- the parser reads this value, and the remaining tokens encode the rest
pub record Gives {X : Type 0} (p : Parser X) (x : X) (line : List TokenValue) (more : List Operand) : Type 0 where
  pub rest : List TokenValue
  pub is : p line ≡ Ok (record { value = x; rest = rest })
  pub encoding : AllEncode rest more

pub then : {X Y : Type 0} {p : Parser X} (f : X → Parser Y) {x : X} {y : Y} {line : List TokenValue}
    {between more : List Operand}
    → Gives p x line between
    → ((rest : List TokenValue) → AllEncode rest between → Gives (f x) y rest more) → Gives (p >>= f) y line more
then f g h = let k = h g.rest g.encoding in record { rest = k.rest; is = ap (λ r. and_then r f) g.is ∙ k.is; encoding = k.encoding }

pub gives_pure : {X : Type 0} (x : X) (line : List TokenValue) (more : List Operand) → AllEncode line more
    → Gives (pure x) x line more
gives_pure x line more h = record { rest = line; is = refl; encoding = h }

gives_some : {X : Type 0} (x : X) (o : Option X) (line : List TokenValue) (more : List Operand) → o ≡ Some x
    → AllEncode line more → Gives (or_fault faults.Syntax o) x line more
gives_some x o line more e h =
    record { rest = line; is = ap (λ (p : Option _). or_fault faults.Syntax p line) e; encoding = h }

pub gives_word : (w : List ℕ) (line : List TokenValue) (more : List Operand) → AllEncode line (Fixed w ∷ more)
    → Gives word w line more
gives_word w [] more h = absurd h
gives_word w (s ∷ line) more h =
    record { rest = line; is = ap (λ (t : TokenValue). word (t ∷ line)) h.0 ∙ tokens.word_read w line; encoding = h.1 }

same_bytes : (text : List ℕ) → bytes_eq text text ≡ true
same_bytes text = (bytes_eq-Decides text text).1 refl

pub gives_fixed : (text : List ℕ) (line : List TokenValue) (more : List Operand) → AllEncode line (Fixed text ∷ more)
    → Gives (fixed text) tt line more
unfolding fixed fixed_by
gives_fixed text line more h =
    then _ (gives_word text line more h)
    (λ rest k.
    subst (λ (b : Bool). Gives (cond b (pure tt) (or_fault faults.Syntax None)) tt rest more)
    (sym (same_bytes text)) (gives_pure tt rest more k))

pub gives_named : {X : Type 0} (word_of : X → List ℕ) (xs : List X) (x : X) → named word_of xs (word_of x) ≡ Some x
    → (line : List TokenValue) (more : List Operand) → AllEncode line (Fixed (word_of x) ∷ more)
    → Gives (next_named word_of xs) x line more
unfolding next_named
gives_named word_of xs x e line more h =
    then _ (gives_word (word_of x) line more h) (λ rest k. gives_some x (named word_of xs (word_of x)) rest more e k)

pub gives_number : (limit n : ℕ) (line : List TokenValue) (more : List Operand) → AllEncode line (Number limit n ∷ more)
    → Gives (number limit) n line more
gives_number limit n [] more h = absurd h
gives_number limit n (s ∷ line) more h =
    record {
      rest =
          line;
      is =
          ap (λ (t : TokenValue). number limit (t ∷ line)) h.0.1 ∙ tokens.number_read limit n h.0.0 line h.0.2;
      encoding =
          h.1;
    }

pub gives_signed : (limit : ℕ) (z : ℤ) (line : List TokenValue) (more : List Operand) → AllEncode line (Signed limit z ∷ more)
    → Gives (signed limit) z line more
gives_signed limit z [] more h = absurd h
gives_signed limit z (s ∷ line) more h =
    record {
      rest =
          line;
      is =
          ap (λ (t : TokenValue). signed limit (t ∷ line)) h.0.1 ∙ tokens.signed_read limit z h.0.0 line h.0.2;
      encoding =
          h.1;
    }

pub gives_name : (n : List ℕ) (line : List TokenValue) (more : List Operand) → AllEncode line (Name n ∷ more)
    → Gives name n line more
gives_name n [] more h = absurd h
gives_name n (s ∷ line) more h =
    record { rest = line; is = ap (λ (t : TokenValue). name (t ∷ line)) h.0.0 ∙ tokens.name_read n line h.0.1; encoding = h.1 }

pub gives_text : (bytes : List ℕ) (line : List TokenValue) (more : List Operand) → AllEncode line (Text bytes ∷ more)
    → Gives literal bytes line more
gives_text bytes [] more h = absurd h
gives_text bytes (s ∷ line) more h =
    record
    { rest = line; is = ap (λ (t : TokenValue). literal (t ∷ line)) h.0.0 ∙ tokens.literal_read bytes line; encoding = h.1 }

points_read : (bytes ps : List ℕ) (line : List TokenValue) → length bytes % 2 ≡ 0 → ps ≡ words bytes
    → points (Literal bytes ∷ line) ≡ Ok (record { value = ps; rest = line })
unfolding points literal points_of
points_read bytes ps line even e = rw (even, e) refl

pub gives_points : (ps : List ℕ) (line : List TokenValue) (more : List Operand) → AllEncode line (Points ps ∷ more)
    → Gives points ps line more
gives_points ps [] more h = absurd h
gives_points ps (s ∷ line) more h =
    record {
      rest =
          line;
      is = ap (λ (t : TokenValue). points (t ∷ line)) h.0.1 ∙ points_read h.0.0 ps line h.0.3 h.0.4;
      encoding = h.1;
    }

-- ---- samples

pub gives_kind : (k : Kind) (line : List TokenValue) (more : List Operand) → AllEncode line (kind_operands k ++ more)
    → Gives kind k line more
unfolding kind kind_after_word
gives_kind Mono line more h = then _ (gives_word (codes "mono") line more h) (λ rest k. gives_pure Mono rest more k)
gives_kind (Right n) line more h =
    then _ (gives_word (codes "right") line (Number most_word n ∷ more) h)
    (λ rest k. then _ (gives_number most_word n rest more k) (λ rest k. gives_pure (Right n) rest more k))
gives_kind (Left n) line more h =
    then _ (gives_word (codes "left") line (Number most_word n ∷ more) h)
    (λ rest k. then _ (gives_number most_word n rest more k) (λ rest k. gives_pure (Left n) rest more k))
gives_kind (Linked n) line more h =
    then _ (gives_word (codes "linked") line (Number most_word n ∷ more) h)
    (λ rest k. then _ (gives_number most_word n rest more k) (λ rest k. gives_pure (Linked n) rest more k))

pub gives_loop : (l : Option (ℕ × ℕ)) (line : List TokenValue) (more : List Operand)
    → AllEncode line (loop_operands l ++ more) → Gives looped l line more
unfolding looped loop_after_word
gives_loop None line more h = then _ (gives_word (codes "noloop") line more h) (λ rest k. gives_pure None rest more k)
gives_loop (Some l) line more h =
    then _
    (gives_word (codes "loop") line (Number most_double_word l.0 ∷ Number most_double_word l.1 ∷ more) h) (λ rest k.
    then _ (gives_number most_double_word l.0 rest (Number most_double_word l.1 ∷ more) k) (λ rest k.
    then _ (gives_number most_double_word l.1 rest more k) (λ rest k. gives_pure (Some l) rest more k)))

pub gives_tune : (rate key : ℕ) (correction : ℤ) (line : List TokenValue) (more : List Operand)
    → AllEncode line (tune_operands rate key correction ++ more) → Gives tune (rate, key, correction) line more
unfolding tune
gives_tune rate key correction line more h =
    then _ (gives_number most_double_word rate line (Number 255 key ∷ Signed 127 correction ∷ more) h) (λ rest k.
    then _ (gives_number 255 key rest (Signed 127 correction ∷ more) k) (λ rest k.
    then _ (gives_signed 127 correction rest more k) (λ rest k. gives_pure (rate, key, correction) rest more k)))

-- the last three parts of a sample
abbrev tail_operands : Sample → List Operand → List Operand
tail_operands s more = kind_operands s.kind ++ (loop_operands s.looped ++ Points s.points ∷ more)

tail_regrouped : (s : Sample) (more : List Operand)
    → ((kind_operands s.kind ++ loop_operands s.looped) ++ Points s.points ∷ []) ++ more ≡ tail_operands s more
tail_regrouped s more =
    append_assoc (kind_operands s.kind ++ loop_operands s.looped) (Points s.points ∷ []) more
    ∙ append_assoc (kind_operands s.kind) (loop_operands s.looped) (Points s.points ∷ more)

body_regrouped : (s : Sample) (more : List Operand)
    → body_operands s ++ more ≡ (Name s.name ∷ tune_operands s.rate s.key s.correction) ++ tail_operands s more
body_regrouped s more =
    ap (λ (os : List Operand). (Name s.name ∷ tune_operands s.rate s.key s.correction) ++ os) (tail_regrouped s more)

pub gives_body : (s : Sample) (line : List TokenValue) (more : List Operand) → AllEncode line (body_operands s ++ more)
    → Gives body s line more
unfolding body
gives_body s line more h =
    then _ (gives_name s.name line (tune_operands s.rate s.key s.correction ++ tail_operands s more)
    (subst (AllEncode line) (body_regrouped s more) h)) (λ rest k.
    then _ (gives_tune s.rate s.key s.correction rest (tail_operands s more) k) (λ rest k.
    then _ (gives_kind s.kind rest (loop_operands s.looped ++ Points s.points ∷ more) k) (λ rest k.
    then _ (gives_loop s.looped rest (Points s.points ∷ more) k) (λ rest k.
    then _ (gives_points s.points rest more k) (λ rest k. gives_pure s rest more k)))))

-- ---- texts

pub gives_id : (id : InfoId) (line : List TokenValue) (more : List Operand) → AllEncode line (Fixed (id_word id) ∷ more)
    → Gives info_id id line more
unfolding info_id
gives_id id line more h = gives_named id_word ids id (id_named id) line more h
