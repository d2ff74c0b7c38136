-- Operands on a line are in their ranges, and operands in their ranges can be encoded.
use Rattle.std.proofs.Common.{◌≤◌, ◌<◌, ◌^◌, ◌+◌, ℕ, ℤ, pos, negsuc, neg_ℤ, zero, suc, List, [], ◌∷◌, ◌++◌, Option}
use Rattle.std.proofs.Common.{Some, None, refl, sym, subst, arith, lit<, inl, inr, FitsSigned}
use Rattle.std.specs.Int.{w8, w16, cast_unsigned}
use Rattle.std.specs.List.{AllByRecursion}
use Rattle.sf_base.specs.Names.{IsName}
use Rattle.sample_view.specs.Words.{words}
use Rattle.bank_parts.specs.declared.texts.InfoId.{InfoId}
use Rattle.bank_parts.specs.declared.texts.InfoId.TheVariants as id
use Rattle.bank_parts.specs.declared.parts.Kind.{Kind}
use Rattle.bank_parts.specs.declared.parts.Kind.TheVariants.{Mono, Right, Left, Linked}
use Rattle.bank_parts.specs.declared.parts.Sample.{Sample}
use Rattle.bank_parts.specs.Fits.{FitsText, FitsKind, FitsLoop, FitsSample}
use Rattle.bank_zone_ranges.specs.declared.axes.Axis.{Axis}
use Rattle.bank_zone_ranges.specs.declared.axes.Axis.TheVariants as axis
use Rattle.bank_zone_ranges.specs.declared.axes.Keep.{Keep}
use Rattle.bank_zone_ranges.specs.declared.axes.Keep.TheVariants as keep
use Rattle.script_tokens.specs.declared.cursor.TokenValue.{TokenValue}
use Rattle.script_tokens.specs.Parsers.{most_word, most_double_word}
use Rattle.script_tokens.specs.TextForm.{WritesSigned, IsWithin}
use Rattle.script_grammar.specs.Operands.{Operand, Fixed, Number, Signed, Amount, Range, Name, Text, Points, Encodes}
use Rattle.script_grammar.specs.Operands.{AllEncode}
use Rattle.script_grammar.specs.Samples.{kind_operands, loop_operands, tune_operands, head_operands, body_operands}
use Rattle.script_grammar.specs.Texts.{id_word}
use Rattle.script_grammar.specs.Ranges.{axis_word, keep_word}
use Rattle.script_grammar.proofs.OperandLaws.{IsFixed, AllFit, both_fit}

-- ---- an operand on a line is in its range

abbrev pub Ranged : Operand → Type 0
Ranged (Fixed w) = Unit {0}
Ranged (Number limit n) = n ≤ limit
Ranged (Signed limit z) = IsWithin limit z
Ranged (Amount amount) = amount < 2 ^ 16
Ranged (Range low high) = (low ≤ 255) × (high ≤ 255)
Ranged (Name bytes) = IsName bytes
Ranged (Text bytes) = FitsText bytes
Ranged (Points ps) = AllByRecursion (λ p. p < 2 ^ 16) ps

within_negated : (limit n : ℕ) → n ≤ limit + 1 → IsWithin limit (neg_ℤ (pos n))
within_negated limit zero h = omega arith
within_negated limit (suc n) h = omega (arith, h)

signed_within : (limit : ℕ) (w : List ℕ) (z : ℤ) → WritesSigned limit w z → IsWithin limit z
signed_within limit w z (inl h) = subst (IsWithin limit) (sym h.value) (within_negated limit h.number h.writes.within)
signed_within limit w z (inr h) = subst (IsWithin limit) (sym h.value) h.writes.within

-- the word of a signed number
word_within : (z : ℤ) → IsWithin 32767 z → cast_unsigned w16 z < 2 ^ 16
word_within (pos n) h = omega (arith, h)
word_within (negsuc n) h = omega arith

words_fit : (bytes : List ℕ) → FitsText bytes → AllByRecursion (λ p. p < 2 ^ 16) (words bytes)
unfolding words
words_fit [] h = tt
words_fit (b ∷ []) h = tt
words_fit (a ∷ b ∷ bytes) h = (let x = h.0 in let y = h.1.0 in omega (arith, x, y), words_fit bytes h.1.1)

ranged : (s : TokenValue) (o : Operand) → Encodes s o → Ranged o
ranged s (Fixed w) h = tt
ranged s (Number limit n) h = h.2.within
ranged s (Signed limit z) h = signed_within limit h.0 z h.2
ranged s (Amount amount) h = subst (λ (n : ℕ). n < 2 ^ 16) (sym h.4) (word_within h.1 (signed_within 32767 h.0 h.1 h.3))
ranged s (Range low high) h = (h.2.writes_low.within, h.2.writes_high.within)
ranged s (Name bytes) h = h.1
ranged s (Text bytes) h = h.1
ranged s (Points ps) h = subst (AllByRecursion (λ p. p < 2 ^ 16)) (sym h.4) (words_fit h.0 h.2)

abbrev pub AllRanged : List Operand → Type 0
AllRanged os = AllByRecursion Ranged os

pub all_ranged : (token_values : List TokenValue) (os : List Operand) → AllEncode token_values os → AllRanged os
all_ranged [] [] h = tt
all_ranged [] (o ∷ os) h = absurd h
all_ranged (s ∷ token_values) [] h = absurd h
all_ranged (s ∷ token_values) (o ∷ os) h = (ranged s o h.0, all_ranged token_values os h.1)

pub following : (os more : List Operand) → AllRanged (os ++ more) → AllRanged os × AllRanged more
following [] more h = (tt, h)
following (o ∷ os) more h = let k = following os more h.1 in ((h.0, k.0), k.1)

-- ---- its value fits

pub kind_fits : (k : Kind) → AllRanged (kind_operands k) → FitsKind k
kind_fits Mono h = tt
kind_fits (Right n) h = let l = h.1.0 in omega (arith, l)
kind_fits (Left n) h = let l = h.1.0 in omega (arith, l)
kind_fits (Linked n) h = let l = h.1.0 in omega (arith, l)

pub loop_fits : (l : Option (ℕ × ℕ)) → AllRanged (loop_operands l) → FitsLoop l
loop_fits None h = tt
loop_fits (Some l) h = let a = h.1.0 in let b = h.1.1.0 in (omega (arith, a), omega (arith, b))

cents : (z : ℤ) → IsWithin 127 z → FitsSigned w8 z
cents (pos n) h = record { sfits = omega (arith, h) }
cents (negsuc n) h = record { sfits = omega (arith, h) }

pub tune_fits : (rate key : ℕ) (correction : ℤ) → AllRanged (tune_operands rate key correction)
    → (rate < 2 ^ 32) × (key < 2 ^ 8) × FitsSigned w8 correction
tune_fits rate key correction h =
    (let r = h.0 in omega (arith, r), let k = h.1.0 in omega (arith, k), cents correction h.1.1.0)

pub sample_fits : (s : Sample) → AllRanged (body_operands s) → FitsSample s
sample_fits s h =
    let b = following (head_operands s) (Points s.points ∷ []) h in
    let t = following (tune_operands s.rate s.key s.correction) (kind_operands s.kind ++ loop_operands s.looped) b.0.1 in
    let k = following (kind_operands s.kind) (loop_operands s.looped) t.1 in
    let tune = tune_fits s.rate s.key s.correction t.0 in record {
      name = b.0.0;
      points = b.1.0;
      looped = loop_fits s.looped k.1;
      rate = tune.0;
      key = tune.1;
      correction = tune.2;
      kind = kind_fits s.kind k.0;
    }

-- ---- an operand that fits can be encoded

pub word32 : (n : ℕ) → n < 2 ^ 32 → (n ≤ most_double_word) × (most_double_word < 2 ^ 32)
word32 n h = (omega (arith, h), lit< tt)

pub word16 : (n : ℕ) → n < 2 ^ 16 → (n ≤ most_word) × (most_word < 2 ^ 32)
word16 n h = (omega (arith, h), lit< tt)

pub kind_fit : (k : Kind) → FitsKind k → AllFit (kind_operands k)
kind_fit Mono h = ((refl, refl), tt)
kind_fit (Right link) h = ((refl, refl), (word16 link h, tt))
kind_fit (Left link) h = ((refl, refl), (word16 link h, tt))
kind_fit (Linked link) h = ((refl, refl), (word16 link h, tt))

pub loop_fit : (l : Option (ℕ × ℕ)) → FitsLoop l → AllFit (loop_operands l)
loop_fit None h = ((refl, refl), tt)
loop_fit (Some l) h = ((refl, refl), (word32 l.0 h.0, (word32 l.1 h.1, tt)))

cents_within : (z : ℤ) → FitsSigned w8 z → IsWithin 127 z
cents_within (pos n) v = let h : n < 2 ^ 7 = v.sfits in omega (arith, h)
cents_within (negsuc n) v = let h : n < 2 ^ 7 = v.sfits in omega (arith, h)

pub tune_fit : (rate key : ℕ) (correction : ℤ) → rate < 2 ^ 32 → key < 2 ^ 8 → FitsSigned w8 correction
    → AllFit (tune_operands rate key correction)
tune_fit rate key correction r k c =
    (word32 rate r, ((omega (arith, k), lit< tt), ((cents_within correction c, lit< tt), tt)))

pub head_fit : (s : Sample) → FitsSample s → AllFit (head_operands s)
head_fit s h = (
  h.name,
  both_fit (tune_operands s.rate s.key s.correction) (kind_operands s.kind ++ loop_operands s.looped)
      (tune_fit s.rate s.key s.correction h.rate h.key h.correction)
      (both_fit (kind_operands s.kind) (loop_operands s.looped) (kind_fit s.kind h.kind) (loop_fit s.looped h.looped)),
)

pub body_fit : (s : Sample) → FitsSample s → AllFit (body_operands s)
body_fit s h = both_fit (head_operands s) (Points s.points ∷ []) (head_fit s h) (h.points, tt)

-- ---- texts

pub id_fixed : (i : InfoId) → IsFixed (id_word i)
id_fixed id.Engine = (refl, refl)
id_fixed id.Name = (refl, refl)
id_fixed id.Date = (refl, refl)
id_fixed id.Engineers = (refl, refl)
id_fixed id.Product = (refl, refl)
id_fixed id.Copyright = (refl, refl)
id_fixed id.Comment = (refl, refl)
id_fixed id.Software = (refl, refl)

-- ---- ranges

pub axis_fixed : (a : Axis) → IsFixed (axis_word a)
axis_fixed axis.Key = (refl, refl)
axis_fixed axis.Vel = (refl, refl)

pub keep_fixed : (k : Keep) → IsFixed (keep_word k)
keep_fixed keep.Keep = (refl, refl)
keep_fixed keep.Bare = (refl, refl)
