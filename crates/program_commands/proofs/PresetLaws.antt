-- Presets that texts name, and what is kept.
use Rattle.std.proofs.Common.{◌≡◌, ◌∙◌, ◌==◌, ◌≢◌, ◌<◌, ◌+◌, ◌^◌, ◌++◌, ◌∷◌, ℕ, Bool, true, false, List, [], Option}
use Rattle.std.proofs.Common.{Some, None, Result, Ok, Err, MatchOption, ap, arith, codes, cond, drop, eqb-true}
use Rattle.std.proofs.Common.{get_or, inl, inr, length, map, option_map, refl, subst, suc, sym, take, zero}
use Rattle.std.specs.Borrow.{Bor}
use Rattle.std.specs.Global.{Vec}
use Rattle.std.specs.List.{AllZip}
use Rattle.std.specs.Result.{result_ok}
use Rattle.std.specs.Str.Parse.{IsNumeral, ParsesUnsigned, without_leading_plus}
use Rattle.std.proofs.lemmas.List.{length-append, map-append, take_more}
use Rattle.std.proofs.lemmas.Slice.Zip.{all_zipped_more}
use Rattle.std.proofs.lemmas.Str.Parse.{digit_at}
use Rattle.std.proofs.lemmas.Str.Pattern.{IsSplitOnceResult, split_after, split_parts}
use Rattle.clap.specs.Words.{Row, Text, all_of, first_of}
use Rattle.plan_presets.specs.declared.numbers.PresetNumbers.{PresetNumbers}
use Rattle.plan_presets.specs.declared.numbers.TakenPreset.{TakenPreset}
use Rattle.program_commands.specs.declared.plans.Kept.{Kept}
use Rattle.program_commands.specs.declared.plans.Kept.TheVariants as choice
use Rattle.program_commands.specs.declared.plans.TakePaths.{TakePaths}
use Rattle.program_commands.specs.Words.{AreGiven, AreValues, FindsOne, IsDecimal, IsGiven, IsPreset, IsTakenPreset}
use Rattle.program_commands.specs.Words.{Input, colon, equals, input_named, kept_operands, optional_preset}
use Rattle.program_commands.specs.Words.{take_operands}

-- the number that `parse` reads is that of the numeral
pub decimal_read : {E : Type 0} (bits : ℕ) (text : Text) (parsed : Result ℕ E) → ParsesUnsigned bits 10 text parsed
    → FindsOne (result_ok parsed) (IsDecimal bits text)
decimal_read bits text (Ok n) parses =
    let fits : ℕ → Type 0 = λ k. k < 2 ^ bits in
    ((parses.0.0, parses.1, subst fits (sym parses.1) parses.0.1), λ other given. refl)
decimal_read bits text (Err e) parses =
    let fits : ℕ → Type 0 = λ k. k < 2 ^ bits in
    (tt, λ n given. absurd (parses (given.0, subst fits given.1 given.2)))

-- a numeral has none of the codes after the digits, also after a plus
code_not_in_numeral : (c : ℕ) → 57 < c → (text : Text) → IsNumeral 10 (without_leading_plus text) → (i : ℕ)
    → i < length text → get_or text i 0 ≢ c
code_not_in_numeral c high [] numeral i lt = absurd (omega arith)
code_not_in_numeral c high (d ∷ ds) numeral i lt = go (d == 43) refl numeral i lt
  where
    go : (b : Bool) → (d == 43) ≡ b → IsNumeral 10 (drop (cond b 1 0) (d ∷ ds)) → (k : ℕ) → k < length (d ∷ ds)
        → get_or (d ∷ ds) k 0 ≢ c
    go true plus digits zero lt is =
        let sign : d ≡ 43 = eqb-true d 43 plus in
        let none : d ≡ c = is in
        omega arith
    go true plus digits (suc k) lt is =
        let digit = digit_at ds k digits.1 (omega arith) in
        let none : get_or ds k 0 ≡ c = is in
        omega (arith, digit)
    go false plus digits k lt is =
        let digit = digit_at (d ∷ ds) k digits.1 lt in
        let none : get_or (d ∷ ds) k 0 ≡ c = is in
        omega (arith, digit)

-- a text with a colon has no code that neither side has
code_not_in_parts : (c : ℕ) → colon ≢ c → (bank number : Text)
    → ((i : ℕ) → i < length bank → get_or bank i 0 ≢ c) → ((i : ℕ) → i < length number → get_or number i 0 ≢ c)
    → (i : ℕ) → i < length (bank ++ colon ∷ number) → get_or (bank ++ colon ∷ number) i 0 ≢ c
code_not_in_parts c other [] number first second zero lt = other
code_not_in_parts c other [] number first second (suc i) lt = second i (omega arith)
code_not_in_parts c other (b ∷ bank) number first second zero lt = first 0 (omega arith)
code_not_in_parts c other (b ∷ bank) number first second (suc i) lt =
    code_not_in_parts c other bank number (λ j below. first (suc j) (omega arith)) second i (omega arith)

-- a text that names a preset has no equals sign
no_equals : (text : Text) (preset : PresetNumbers) → IsPreset text preset → (i : ℕ) → i < length text
    → get_or text i 0 ≢ equals
no_equals text preset given =
    let has : Text → Type 0 = λ t. (i : ℕ) → i < length t → get_or t i 0 ≢ equals in
    let apart : colon ≢ equals = λ (is : colon ≡ equals). omega (arith, is) in
    subst has (sym given.2) (code_not_in_parts equals apart given.0 given.1
    (code_not_in_numeral equals (omega arith) given.0 given.3.0)
    (code_not_in_numeral equals (omega arith) given.1 given.4.0))

-- where two texts are joined by a code, the code is
joined_at : (c : ℕ) (from to : Text) → get_or (from ++ c ∷ to) (length from) 0 ≡ c
joined_at c [] to = refl
joined_at c (d ∷ from) to = joined_at c from to

-- a text that names a preset is split into its numerals
split_of_preset : (text : Text) (parts : Option (Bor Text × Bor Text)) (preset : PresetNumbers)
    → IsSplitOnceResult colon text parts → (given : IsPreset text preset)
    → MatchOption parts ⊥ (λ part. (part.0.now ≡ given.0) × (part.1.now ≡ given.1))
split_of_preset text parts preset split given =
    split_after colon text given.0 given.1 parts split (omega arith) given.2
    (code_not_in_numeral colon (omega arith) given.0 given.3.0)

-- a text without a colon names no preset
pub no_preset_unsplit : (text : Text) → IsSplitOnceResult colon text None → FindsOne None (IsPreset text)
no_preset_unsplit text split = (tt, λ preset given. absurd (split_of_preset text None preset split given))

module _ (text : Text) (bank number : Bor Text) (split : IsSplitOnceResult colon text (Some (bank, number))) where
  -- a text names no preset if its first part is no numeral, or its second
  pub no_preset_bank : FindsOne None (IsDecimal 16 bank.now) → FindsOne None (IsPreset text)
  no_preset_bank none = (
    tt,
    λ preset given.
        let parts = split_of_preset text (Some (bank, number)) preset split given in
        let decimal : Text → Type 0 = λ part. IsDecimal 16 part preset.bank in
        none.1 preset.bank (subst decimal (sym parts.0) given.3),
  )

  pub no_preset_number : FindsOne None (IsDecimal 16 number.now) → FindsOne None (IsPreset text)
  no_preset_number none = (
    tt,
    λ preset given.
        let parts = split_of_preset text (Some (bank, number)) preset split given in
        let decimal : Text → Type 0 = λ part. IsDecimal 16 part preset.number in
        none.1 preset.number (subst decimal (sym parts.1) given.4),
  )

  -- it names the preset with the numbers of its two parts
  pub preset_named : (preset : PresetNumbers) → IsDecimal 16 bank.now preset.bank
      → IsDecimal 16 number.now preset.number → IsPreset text preset
  preset_named preset first second =
      (bank.now, number.now, (split_parts colon text (Some (bank, number)) split (omega arith)).0, first, second)

-- an option whose text names no preset has none
pub no_optional_preset : (rows : List Row) (name text : Text) → first_of name rows ≡ Some text
    → FindsOne None (IsPreset text) → FindsOne None (λ preset. IsGiven rows (optional_preset name preset))
no_optional_preset rows name text used none = (tt, go)
  where
    go : (preset : Option PresetNumbers) → IsGiven rows (optional_preset name preset) → false ≡ true
    go None given = absurd cc
    go (Some numbers) given =
        let same : given.0 ≡ text = let e = given.1 in cc in
        let named : Text → Type 0 = λ t. IsPreset t numbers in
        none.1 numbers (subst named same given.2)

-- a text that names no preset, and is not split by an equals sign, names no preset to copy
pub no_taken_unsplit : (text : Text) → IsSplitOnceResult equals text None → FindsOne None (IsPreset text)
    → FindsOne None (IsTakenPreset text)
no_taken_unsplit text split none = (tt, go)
  where
    go : (taken : TakenPreset) → IsTakenPreset text taken → false ≡ true
    go taken (inl given) = none.1 taken.from given.0
    go taken (inr given) = absurd (split_after equals text given.0 given.1 None split (omega arith) given.2
        (no_equals given.0 taken.from given.3))

module _ (text : Text) (from to : Bor Text) (split : IsSplitOnceResult equals text (Some (from, to))) where
  -- it is split only if it is FROM=TO
  taken_parts : (taken : TakenPreset) → IsTakenPreset text taken
      → IsPreset from.now taken.from × IsPreset to.now taken.to
  taken_parts taken (inl given) =
      let joined = (split_parts equals text (Some (from, to)) split (omega arith)).0 in
      let within : Text → Type 0 = λ t. length from.now < length t in
      let inside : length from.now < length (from.now ++ equals ∷ to.now) =
      omega (arith, length-append from.now (equals ∷ to.now)) in
      let at : Text → Type 0 = λ t. get_or t (length from.now) 0 ≡ equals in
      absurd (no_equals text taken.from given.0 (length from.now) (subst within (sym joined) inside)
      (subst at (sym joined) (joined_at equals from.now to.now)))
  taken_parts taken (inr given) =
      let parts = split_after equals text given.0 given.1 (Some (from, to)) split (omega arith) given.2
      (no_equals given.0 taken.from given.3) in
      let first : Text → Type 0 = λ t. IsPreset t taken.from in
      let second : Text → Type 0 = λ t. IsPreset t taken.to in
      (subst first (sym parts.0) given.3, subst second (sym parts.1) given.4)

  -- a text names no preset to copy if its first part names no preset, or its second
  pub no_taken_from : FindsOne None (IsPreset from.now) → FindsOne None (IsTakenPreset text)
  no_taken_from none = (tt, λ taken given. none.1 taken.from (taken_parts taken given).0)

  pub no_taken_to : FindsOne None (IsPreset to.now) → FindsOne None (IsTakenPreset text)
  no_taken_to none = (tt, λ taken given. none.1 taken.to (taken_parts taken given).1)

  -- it names the preset to copy of its two parts
  pub taken_named : (taken : TakenPreset) → IsPreset from.now taken.from → IsPreset to.now taken.to
      → IsTakenPreset text taken
  taken_named taken first second =
      inr (from.now, to.now, (split_parts equals text (Some (from, to)) split (omega arith)).0, first, second)

-- the texts behind references
abbrev pub texts_behind : List (Bor Text) → List Text
texts_behind = map (λ text. text.now)

module _ {A : Type 0} (IsNamed : Text → A → Type 0) where
  -- the values of one text more
  pub one_value_more : (texts : List (Bor Text)) (i : ℕ) (d : Bor Text) (values : List A) (value : A)
      → i < length texts → AllZip IsNamed (texts_behind (take i texts)) values
      → IsNamed (get_or texts i d).now value
      → AllZip IsNamed (texts_behind (take (i + 1) texts)) (values ++ value ∷ [])
  one_value_more texts i d values value lt named one =
      let split : texts_behind (take (i + 1) texts) ≡ texts_behind (take i texts) ++ (get_or texts i d).now ∷ [] =
      simp (take_more texts i d lt, map-append) in
      let all : List Text → Type 0 = λ ts. AllZip IsNamed ts (values ++ value ∷ []) in
      subst all (sym split) (all_zipped_more IsNamed (texts_behind (take i texts)) values _ value named one)

  -- where one text names no value, no values are those of all texts
  pub none_of_all : (texts : List (Bor Text)) (i : ℕ) (d : Bor Text) (values : List A) → i < length texts
      → FindsOne None (IsNamed (get_or texts i d).now) → AllZip IsNamed (texts_behind texts) values → ⊥
  none_of_all [] i d values lt none named = absurd (omega arith)
  none_of_all (text ∷ texts) i d [] lt none named = named
  none_of_all (text ∷ texts) zero d (value ∷ values) lt none named =
      let bad : false ≡ true = none.1 value named.0 in absurd cc
  none_of_all (text ∷ texts) (suc i) d (value ∷ values) lt none named =
      none_of_all texts i d values (omega arith) none named.1

  module _ {L : Type 0} (list : L → List A) (rows : List Row) (name : Text) where
    -- what is found are the values of an option
    abbrev pub FindsValues : Option L → Type 0
    FindsValues found = FindsOne found (λ values. AreValues IsNamed rows name (list values))

    -- they are those of its texts
    pub values_given : (texts : List (Bor Text)) (found : Option L) → all_of name rows ≡ Some (texts_behind texts)
        → 0 < length texts → FindsOne found (λ values. AllZip IsNamed (texts_behind texts) (list values))
        → FindsValues found
    values_given [] found all some named = absurd (omega arith)
    values_given (text ∷ texts) None all some none = (
      tt,
      λ values given.
          let same : given.0 ≡ texts_behind (text ∷ texts) = let e = given.1 in cc in
          let named : List Text → Type 0 = λ ts. AllZip IsNamed ts (list values) in
          none.1 values (subst named same given.3),
    )
    values_given (text ∷ texts) (Some values) all some found =
        ((texts_behind (text ∷ texts), all, omega arith, found.0), λ other given. refl)

    -- an option that is not used has none, nor has one without a text
    pub no_option : all_of name rows ≡ None → FindsValues None
    no_option all = (tt, λ values given. let e = given.1 in absurd cc)

    pub no_values : (texts : List (Bor Text)) → all_of name rows ≡ Some (texts_behind texts) → length texts ≡ 0
        → FindsValues None
    no_values [] all none = (
      tt,
      λ values given.
          let same : given.0 ≡ [] = let e = given.1 in cc in
          let long : length given.0 ≡ 0 = ap length same in
          let some : 0 < length given.0 = given.2 in
          absurd (omega arith),
    )
    no_values (text ∷ texts) all none = absurd (omega arith)

-- an operand that is not used names no input
no_input : (rows : List Row) (name path : Text) → first_of name rows ≡ None → IsGiven rows (Input name path) → ⊥
no_input rows name path none given =
    let bad : Some path ≡ None = sym given ∙ ap (option_map input_named) none in absurd cc

-- with neither notes nor presets nothing is kept
pub none_kept : (rows : List Row) → first_of (codes "notes") rows ≡ None
    → FindsValues IsPreset (λ (presets : Vec PresetNumbers). presets.items) rows (codes "preset") None
    → FindsOne None (λ (kept : Kept). AreGiven rows (kept_operands kept))
none_kept rows notes none = (tt, λ kept given. absurd (go kept given))
  where
    go : (kept : Kept) → AreGiven rows (kept_operands kept) → ⊥
    go (choice.Notes path zones) given = no_input rows (codes "notes") path.now notes given.0
    go (choice.Presets presets) given = let bad : false ≡ true = none.1 presets given.0 in absurd cc

-- with the flag for zones nothing is kept without notes
pub none_kept_with_zones : (rows : List Row) → first_of (codes "notes") rows ≡ None
    → first_of (codes "zones") rows ≡ Some (codes "true")
    → FindsOne None (λ (kept : Kept). AreGiven rows (kept_operands kept))
none_kept_with_zones rows notes zones = (tt, λ kept given. absurd (go kept given))
  where
    go : (kept : Kept) → AreGiven rows (kept_operands kept) → ⊥
    go (choice.Notes path kept) given = no_input rows (codes "notes") path.now notes given.0
    go (choice.Presets presets) given = given.1.1.0 zones

-- without presets nothing is copied
pub none_taken : (rows : List Row)
    → FindsValues IsTakenPreset (λ (presets : Vec TakenPreset). presets.items) rows (codes "preset") None
    → FindsOne None (λ (take : TakePaths). AreGiven rows (take_operands take))
none_taken rows none = (tt, λ take given. none.1 take.presets given.1.1.1.1.1.1.1.1.1.0)
