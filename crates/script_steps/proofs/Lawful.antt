-- The laws of a part of a line: for each basic part, and for two parts one after the other.
use Rattle.std.proofs.Common.{◌≡◌, ◌≤◌, ◌<◌, ◌^◌, ◌∙◌, append_assoc, sym, subst, refl, arith, lit<, ℕ, List, [], ◌∷◌}
use Rattle.std.proofs.Common.{◌++◌, Some, Result, Ok, Err, FitsSigned}
use Rattle.std.specs.Int.{w8}
use Rattle.std.specs.List.{AllByRecursion}
use Rattle.sf_base.specs.Names.{IsName}
use Rattle.modulators.specs.Modulators.{FitsModulator}
use Rattle.bank_parts.specs.Fits.{FitsKind, FitsLoop, FitsSample, FitsText}
use Rattle.script_tokens.specs.declared.cursor.TokenValue.{TokenValue}
use Rattle.script_tokens.specs.declared.fault.LineFault.{LineFault}
use Rattle.script_tokens.specs.Parsers.{Parser, Parsed, ◌>>=◌, pure, and_then, literal, number, name}
use Rattle.script_tokens.specs.Parsers.{most_word, most_double_word}
use Rattle.script_tokens.proofs.ReadLaws.{AllHoldBytes, both}
use Rattle.script_grammar.specs.Operands.{Operand, Fixed, Number, Name, Text, Points, AllEncode}
use Rattle.script_grammar.specs.Names.{named, next_named}
use Rattle.script_grammar.specs.Ranges.{axis_word, axes, keep_word, keeps}
use Rattle.script_grammar.specs.Samples.{kind_operands, loop_operands, tune_operands, body_operands, kind, looped}
use Rattle.script_grammar.specs.Samples.{points, tune, body}
use Rattle.script_grammar.specs.Texts.{id_word, ids, info_id}
use Rattle.script_grammar.specs.Items.{generator_operands, modulator_operands, generator, modulator}
use Rattle.script_grammar.proofs.NameLaws.{id_named, axis_named, keep_named}
use Rattle.script_grammar.proofs.CompletenessLaws as complete
use Rattle.script_grammar.proofs.CompletenessLaws.{Gives, gives_pure, gives_named, gives_number, gives_name, gives_text}
use Rattle.script_grammar.proofs.CompletenessLaws.{gives_points, gives_kind, gives_loop, gives_tune, gives_body}
use Rattle.script_grammar.proofs.ZoneCompletenessLaws.{gives_generator, gives_modulator, as_other}
use Rattle.script_grammar.proofs.ReadLaws as read
use Rattle.script_grammar.proofs.ReadLaws.{PrefixEncodes, made, number_front, name_front, text_front, points_front}
use Rattle.script_grammar.proofs.ReadLaws.{kind_front, loop_front, tune_front, body_front, next_named_front}
use Rattle.script_grammar.proofs.ZoneReadLaws.{generator_front, modulator_front}
use Rattle.script_grammar.proofs.RepeatedLaws.{Keeps, pure_keeps, then_keeps}
use Rattle.script_grammar.proofs.ItemLaws.{number_keeps, generator_keeps, modulator_keeps}
use Rattle.script_grammar.proofs.KeepLaws.{literal_keeps, name_keeps, named_keeps, points_keep, kind_keeps}
use Rattle.script_grammar.proofs.KeepLaws.{looped_keeps, tune_keeps, body_keeps}
use Rattle.script_grammar.proofs.FitLaws.{AllRanged, following, kind_fits, loop_fits, tune_fits, sample_fits, word32}
use Rattle.script_grammar.proofs.FitLaws.{word16, kind_fit, loop_fit, tune_fit, body_fit, id_fixed, axis_fixed}
use Rattle.script_grammar.proofs.FitLaws.{keep_fixed}
use Rattle.script_grammar.proofs.ZoneFitLaws.{generator_fits, modulator_fits, generator_operands_fit, modulator_operands_fit}
use Rattle.script_grammar.proofs.OperandLaws.{IsFixed, AllFit, both_fit}
use Rattle.script_steps.specs.Members.{place}

-- the laws of a part with one text form, if these operands encode its values
pub record IsLawful {X : Type 0} (part : Parser X) (operands : X → List Operand) (Fits : X → Type 0) : Type 0 where
  -- operands of a value are read as that value
  pub gives : (x : X) (line : List TokenValue) (more : List Operand) → AllEncode line (operands x ++ more)
      → Gives part x line more
  -- a value that is read has its operands on the line
  pub prefix : (line : List TokenValue) (t : Parsed X) → AllHoldBytes line → part line ≡ Ok t
      → PrefixEncodes line t.rest (operands t.value)
  -- no more tokens remain than there were
  pub keeps : Keeps part
  -- a value on a line fits, and a value that fits can be encoded
  pub fits : (x : X) → AllRanged (operands x) → Fits x
  pub fit : (x : X) → Fits x → AllFit (operands x)

-- ---- one part after another

abbrev pub pair_part : {X Y : Type 0} → Parser X → Parser Y → Parser (X × Y)
pair_part p q = p >>= λ x. q >>= λ y. pure (x, y)

module _ {X Y : Type 0} {p : Parser X} {q : Parser Y} {o : X → List Operand} {r : Y → List Operand} {F : X → Type 0}
    {G : Y → Type 0} where
  infixr 20 ◌&◌
  pub ◌&◌ : IsLawful p o F → IsLawful q r G → IsLawful (pair_part p q) (λ a. o a.0 ++ r a.1) (λ a. F a.0 × G a.1)
  l & m = record {
    gives = λ a line more h.
        complete.then _ (l.gives a.0 line (r a.1 ++ more)
        (subst (AllEncode line) (append_assoc (o a.0) (r a.1) more) h)) (λ rest k.
        complete.then _ (m.gives a.1 rest more k) (λ rest k. gives_pure (a.0, a.1) rest more k));
    prefix = λ line t h e.
        let u = both (p line) (λ x. q >>= λ y. pure (x, y)) t e in
        let k = l.prefix line u.first h u.is in
        let v = both (q u.first.rest) (λ y. pure (u.first.value, y)) t u.second in
        subst (λ (t : Parsed (X × Y)). PrefixEncodes line t.rest (o t.value.0 ++ r t.value.1))
        (made (u.first.value, v.first.value) v.first.rest t v.second)
        (read.then (o u.first.value) (r v.first.value) k (m.prefix u.first.rest v.first k.holds v.is));
    keeps = then_keeps p _ l.keeps (λ x. then_keeps q _ m.keeps (λ y. pure_keeps (x, y)));
    fits = λ a h. let k = following (o a.0) (r a.1) h in (l.fits a.0 k.0, m.fits a.1 k.1);
    fit = λ a h. both_fit (o a.0) (r a.1) (l.fit a.0 h.0) (m.fit a.1 h.1);
  }

-- the same parts, grouped differently
pub regrouped : {X Y Z : Type 0} (s : Result (Parsed X) LineFault) (f : X → Parser Y) (g : Y → Parser Z)
    → and_then (and_then s f) g ≡ and_then s (λ x. f x >>= g)
regrouped (Err e) f g = refl
regrouped (Ok t) f g = refl

pub same_after : {X Z : Type 0} {f g : X → Parser Z} (s : Result (Parsed X) LineFault)
    → ((x : X) (line : List TokenValue) → f x line ≡ g x line) → and_then s f ≡ and_then s g
same_after (Err e) h = refl
same_after (Ok t) h = h t.value t.rest

-- a function of two values is a function of their pair
module _ {X Y Z : Type 0} (p : Parser X) (q : Parser Y) (make : X → Y → Z) where
  pub of_two : (line : List TokenValue)
      → (p >>= λ x. q >>= λ y. pure (make x y)) line ≡ (pair_part p q >>= λ a. pure (make a.0 a.1)) line
  of_two line =
      sym
      (regrouped (p line) (λ x. q >>= λ y. pure (x, y)) (λ a. pure (make a.0 a.1))
      ∙ same_after (p line) (λ x line. regrouped (q line) (λ y. pure (x, y)) (λ a. pure (make a.0 a.1))))

-- the same, where the second value is a pair itself, with laws of its own
module _ {X Y Z : Type 0} (p : Parser X) {q : Parser Y} {r : Y → List Operand} {G : Y → Type 0} where
  pub of_more : IsLawful q r G → (make : X → Y → Z) → {f : X → Parser Z}
      → ((x : X) (line : List TokenValue) → f x line ≡ (q >>= λ y. pure (make x y)) line) → (line : List TokenValue)
      → (p >>= f) line ≡ (pair_part p q >>= λ a. pure (make a.0 a.1)) line
  of_more m make h line = same_after (p line) h ∙ of_two p q make line

-- the image of a value under a function with a right inverse
module _ {X Y : Type 0} {p : Parser X} {o : X → List Operand} {F : X → Type 0} (l : IsLawful p o F) {q : Parser Y}
    {r : Y → List Operand} {G : Y → Type 0} (make : X → Y) (back : Y → X) where
  pub made_lawful : ((line : List TokenValue) → q line ≡ (p >>= λ x. pure (make x)) line) → ((y : Y) → make (back y) ≡ y)
      → ((x : X) → o x ≡ r (make x)) → ((x : X) → (F x → G (make x)) × (G (make x) → F x)) → IsLawful q r G
  made_lawful reads whole same so = record {
    gives =
        λ y line more h.
        subst (λ (y : Y). AllEncode line (r y ++ more) → Gives q y line more) (whole y)
        (λ h. of (back y) line more h) h;
    prefix = λ line t h e.
        let u = both (p line) (λ x. pure (make x)) t (sym (reads line) ∙ e) in
        subst (λ (t : Parsed Y). PrefixEncodes line t.rest (r t.value)) (made (make u.first.value) u.first.rest t u.second)
        (subst (PrefixEncodes line u.first.rest) (same u.first.value) (l.prefix line u.first h u.is));
    keeps = λ line t e. then_keeps p _ l.keeps (λ x. pure_keeps (make x)) line t (sym (reads line) ∙ e);
    fits =
        λ y.
        subst (λ (y : Y). AllRanged (r y) → G y) (whole y)
        (λ h. (so (back y)).0 (l.fits (back y) (subst AllRanged (sym (same (back y))) h)));
    fit =
        λ y.
        subst (λ (y : Y). G y → AllFit (r y)) (whole y)
        (λ h. subst AllFit (same (back y)) (l.fit (back y) ((so (back y)).1 h)));
  }
    where
      of : (x : X) (line : List TokenValue) (more : List Operand) → AllEncode line (r (make x) ++ more)
          → Gives q (make x) line more
      of x line more h =
          as_other (p >>= λ x. pure (make x)) q (make x) line more (reads line)
          (complete.then _
          (l.gives x line more (subst (λ (os : List Operand). AllEncode line (os ++ more)) (sym (same x)) h))
          (λ rest k. gives_pure (make x) rest more k))

-- ---- numbers

number_lawful : (limit : ℕ) (F : ℕ → Type 0) → ((n : ℕ) → n ≤ limit → F n)
    → ((n : ℕ) → F n → (n ≤ limit) × (limit < 2 ^ 32)) → IsLawful (number limit) (λ n. Number limit n ∷ []) F
number_lawful limit F within fit =
    record {
      gives =
          gives_number limit;
      prefix =
          number_front limit;
      keeps =
          number_keeps limit;
      fits = λ n h. within n h.0;
      fit = λ n h. (fit n h, tt);
    }

-- an index of a list
pub index : IsLawful (number most_double_word) (λ n. place n ∷ []) (λ n. n < 2 ^ 32)
index = number_lawful most_double_word _ (λ n h. omega (arith, h)) word32

pub number16 : IsLawful (number most_word) (λ n. Number most_word n ∷ []) (λ n. n < 2 ^ 16)
number16 = number_lawful most_word _ (λ n h. omega (arith, h)) word16

pub number8 : IsLawful (number 255) (λ n. Number 255 n ∷ []) (λ n. n < 2 ^ 8)
number8 = number_lawful 255 _ (λ n h. omega (arith, h)) (λ n h. (omega (arith, h), lit< tt))

-- ---- words

pub named_lawful : {X : Type 0} (word_of : X → List ℕ) (xs : List X)
    → ((x : X) → named word_of xs (word_of x) ≡ Some x) → ((x : X) → IsFixed (word_of x))
    → IsLawful (next_named word_of xs) (λ x. Fixed (word_of x) ∷ []) (λ x. Unit {0})
named_lawful word_of xs is fixed =
    record {
      gives =
          λ x. gives_named word_of xs x (is x);
      prefix =
          next_named_front word_of xs;
      keeps =
          named_keeps word_of xs;
      fits = λ x h. tt;
      fit = λ x h. (fixed x, tt);
    }

pub an_axis : IsLawful (next_named axis_word axes) (λ a. Fixed (axis_word a) ∷ []) (λ a. Unit {0})
an_axis = named_lawful axis_word axes axis_named axis_fixed

pub a_keep : IsLawful (next_named keep_word keeps) (λ k. Fixed (keep_word k) ∷ []) (λ k. Unit {0})
a_keep = named_lawful keep_word keeps keep_named keep_fixed

pub an_id : IsLawful info_id (λ i. Fixed (id_word i) ∷ []) (λ i. Unit {0})
unfolding info_id
an_id = named_lawful id_word ids id_named id_fixed

-- ---- names, texts and points

pub a_name : IsLawful name (λ n. Name n ∷ []) IsName
a_name = record { gives = gives_name; prefix = name_front; keeps = name_keeps; fits = λ n h. h.0; fit = λ n h. (h, tt) }

pub a_text : IsLawful literal (λ t. Text t ∷ []) FitsText
a_text =
    record
    { gives = gives_text; prefix = text_front; keeps = literal_keeps; fits = λ t h. h.0; fit = λ t h. (h, tt) }

pub some_points : IsLawful points (λ ps. Points ps ∷ []) (AllByRecursion (λ p. p < 2 ^ 16))
some_points =
    record
    { gives = gives_points; prefix = points_front; keeps = points_keep; fits = λ ps h. h.0; fit = λ ps h. (h, tt) }

-- ---- parts of a sample

pub a_kind : IsLawful kind kind_operands FitsKind
a_kind = record { gives = gives_kind; prefix = kind_front; keeps = kind_keeps; fits = kind_fits; fit = kind_fit }

pub a_loop : IsLawful looped loop_operands FitsLoop
a_loop = record { gives = gives_loop; prefix = loop_front; keeps = looped_keeps; fits = loop_fits; fit = loop_fit }

pub a_tune : IsLawful tune (λ t. tune_operands t.0 t.1 t.2) (λ t. (t.0 < 2 ^ 32) × (t.1 < 2 ^ 8) × FitsSigned w8 t.2)
a_tune =
    record {
      gives =
          λ t. gives_tune t.0 t.1 t.2;
      prefix =
          tune_front;
      keeps =
          tune_keeps;
      fits = λ t. tune_fits t.0 t.1 t.2;
      fit = λ t h. tune_fit t.0 t.1 t.2 h.0 h.1 h.2;
    }

pub a_body : IsLawful body body_operands FitsSample
a_body = record { gives = gives_body; prefix = body_front; keeps = body_keeps; fits = sample_fits; fit = body_fit }

-- ---- settings

pub a_generator : IsLawful generator (λ g. generator_operands g.0 g.1) (λ g. (g.0 < 2 ^ 16) × (g.1 < 2 ^ 16))
a_generator =
    record {
      gives =
          λ g. gives_generator g.0 g.1;
      prefix =
          generator_front;
      keeps =
          generator_keeps;
      fits = λ g. generator_fits g.0 g.1;
      fit = λ g. generator_operands_fit g.0 g.1;
    }

pub a_modulator : IsLawful modulator modulator_operands FitsModulator
a_modulator =
    record {
      gives =
          gives_modulator;
      prefix =
          modulator_front;
      keeps = modulator_keeps;
      fits = modulator_fits;
      fit = modulator_operands_fit;
    }
