-- Soundness of reading: operands at the front of the line encode the value that is read.
use Rattle.std.proofs.Common.{◌≡◌, List, [], ◌++◌, Ok, refl, sym, subst}
use Rattle.script_tokens.specs.declared.cursor.TokenValue.{TokenValue}
use Rattle.script_tokens.specs.Parsers.{Parser, Parsed, ◌>>=◌, pure}
use Rattle.script_tokens.proofs.ReadLaws.{AllHoldBytes, both}
use Rattle.script_grammar.specs.Operands.{Operand}
use Rattle.script_grammar.proofs.ReadLaws.{PrefixEncodes, then, made}

-- the front of the line encodes operands that are related to the value in this way
pub record EncodedPrefix {X : Type 0} (Encodes : X → List Operand → Type 0) (line : List TokenValue) (t : Parsed X) : Type 0 where
  pub operands : List Operand
  pub encoding : Encodes t.value operands
  pub prefix : PrefixEncodes line t.rest operands

-- each value that the parser reads is encoded so
abbrev pub IsEncoded : (X : Type 0) → Parser X → (X → List Operand → Type 0) → Type 0
IsEncoded X p Encodes = (line : List TokenValue) (t : Parsed X) → AllHoldBytes line → p line ≡ Ok t → EncodedPrefix Encodes line t

-- another relation of the same operands
pub encoded_as : {X : Type 0} {p : Parser X} {S : X → List Operand → Type 0} (T : X → List Operand → Type 0)
    → IsEncoded X p S → ((x : X) (os : List Operand) → S x os → T x os) → IsEncoded X p T
encoded_as T h f line t g e =
    let k = h line t g e in record { operands = k.operands; encoding = f t.value k.operands k.encoding; prefix = k.prefix }

module _ {X Y : Type 0} (p : Parser X) (f : X → Parser Y) (T : Y → List Operand → Type 0) where
  -- one parser after another
  pub encoded_after : {S : X → List Operand → Type 0} → IsEncoded X p S
      → ((x : X) (os : List Operand) → S x os → IsEncoded Y (f x) (λ y more. T y (os ++ more))) → IsEncoded Y (p >>= f) T
  encoded_after h k line t g e =
      let a = both (p line) f t e in
      let b = h line a.first g a.is in
      let c = k a.first.value b.operands b.encoding a.first.rest t b.prefix.holds a.second in
      record
      { operands = b.operands ++ c.operands; encoding = c.encoding; prefix = then b.operands c.operands b.prefix c.prefix }

  -- where the first has one text form
  pub following : (o : X → List Operand)
      → ((line : List TokenValue) (t : Parsed X) → AllHoldBytes line → p line ≡ Ok t → PrefixEncodes line t.rest (o t.value))
      → ((x : X) → IsEncoded Y (f x) (λ y more. T y (o x ++ more))) → IsEncoded Y (p >>= f) T
  following o h k =
      encoded_after {S = λ x os. os ≡ o x}
      (λ line t g e. record { operands = o t.value; encoding = refl; prefix = h line t g e })
      (λ x os e. subst (λ (os : List Operand). IsEncoded Y (f x) (λ y more. T y (os ++ more))) (sym e) (k x))

-- a parser that consumes no token
pub none : {X : Type 0} (x : X) (T : X → List Operand → Type 0) → T x [] → IsEncoded X (pure x) T
none x T h line t g e =
    subst (EncodedPrefix T line) (made x line t e)
    (record { operands = []; encoding = h; prefix = record { encoding = λ more k. k; holds = g } })
