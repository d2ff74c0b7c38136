-- The recordings, the table and the preset of a kit.
use Rattle.std.proofs.Common.{◌≡◌, ◌∙◌, ◌<◌, ◌++◌, ◌∷◌, ◌||◌, ℕ, Bool, true, false, List, [], Option, Some, None, ap, arith}
use Rattle.std.proofs.Common.{IsSome, ap₂, codes, find, get_or, length, map, option_map, refl, subst, sym}
use Rattle.std.specs.Prelude.{is_some, option_and_then, slice_get}
use Rattle.std.specs.Str.{bytes_eq}
use Rattle.std.specs.Borrow.{Bor}
use Rattle.std.proofs.lemmas.List.{append_assoc, length-append, length-map, same_from_push}
use Rattle.clap.specs.Words.{Row, Text, all_of, first_of}
use Rattle.sf_base.specs.Names.{IsName}
use Rattle.program_commands.specs.declared.kits.KitSource.{KitSource}
use Rattle.program_commands.specs.declared.paths.LastPaths.{LastPaths}
use Rattle.program_commands.specs.declared.words.Request.TheVariants.{Import}
use Rattle.program_commands.specs.declared.kits.NewPreset.{NewPreset}
use Rattle.program_commands.specs.Words.{AreGiven, FindsOne, IsGiven, IsPreset, Named, Recordings, input_named, is_kit}
use Rattle.program_commands.specs.Words.{kit_operands, operands_of, optional_name, optional_named, output_named}
use Rattle.program_commands.specs.Words.{paths_in, source_files, table_operand}
use Rattle.program_commands.proofs.PresetLaws.{texts_behind}

-- the recordings and the two outputs of an operand are given
abbrev pub HasPaths : List Row → Text → List Text × Text × Text → Type 0
HasPaths rows name paths = IsGiven rows (Recordings name paths.0 paths.1 paths.2)

-- an operand that is not used has no paths
pub no_paths_absent : (rows : List Row) (name : Text) → all_of name rows ≡ None → FindsOne None (HasPaths rows name)
no_paths_absent rows name none = (tt, λ paths given. let e = given.1 in absurd cc)

-- nor has one with fewer than two words
pub no_paths_short : (rows : List Row) (name : Text) (words : List (Bor Text)) → all_of name rows ≡ Some (texts_behind
    words)
    → length words < 2 → FindsOne None (HasPaths rows name)
no_paths_short rows name words all short = (
  tt,
  λ paths given.
      let same : given.0 ≡ texts_behind words = let e = given.1 in cc in
      let long = length-append given.2.0 (given.2.1 ∷ given.2.2 ∷ []) in
      let sizes : length (texts_behind words) ≡ length (given.2.0 ++ given.2.1 ∷ given.2.2 ∷ []) =
      ap length (sym same ∙ given.2.3) in
      absurd (omega (arith, long, sizes, length-map words (λ (text : Bor Text). text.now))),
)

-- the texts of words before the last two
texts_before : (first : List (Bor Text)) (out undo : Bor Text)
    → texts_behind ((first ++ out ∷ []) ++ undo ∷ []) ≡ texts_behind first ++ out.now ∷ undo.now ∷ []
texts_before [] out undo = refl
texts_before (word ∷ first) out undo = ap (λ ts. word.now ∷ ts) (texts_before first out undo)

-- the inputs that words name, by their texts
inputs_by_texts : (words : List (Bor Text)) → map input_named (texts_behind words)
    ≡ map (λ word. input_named word.now) words
inputs_by_texts [] = refl
inputs_by_texts (word ∷ words) = ap (λ ts. input_named word.now ∷ ts) (inputs_by_texts words)

-- the last two words are the outputs, and those before them the recordings
pub paths_found : (rows : List Row) (name : Text) (words before recordings : List (Bor Text)) (out undo : Bor Text)
    → all_of name rows ≡ Some (texts_behind words) → words ≡ before ++ undo ∷ [] → before ≡ recordings ++ out ∷ []
    → HasPaths rows name
    (map (λ word. input_named word.now) recordings, output_named out.now, output_named undo.now)
paths_found rows name words before recordings out undo all last second =
    let split : words ≡ (recordings ++ out ∷ []) ++ undo ∷ [] =
    last ∙ ap (λ (ws : List (Bor Text)). ws ++ undo ∷ []) second in (
      texts_behind words,
      all,
      (
        texts_behind recordings,
        out.now,
        undo.now,
        ap texts_behind split ∙ texts_before recordings out undo,
        inputs_by_texts recordings,
        refl,
        refl,
      ),
    )

-- lists that end with two elements are equal only if they are without these
same_before : (xs ys : List Text) (a b c d : Text) → xs ++ a ∷ b ∷ [] ≡ ys ++ c ∷ d ∷ [] → xs ≡ ys
same_before xs ys a b c d same =
    let split : (xs ++ a ∷ []) ++ b ∷ [] ≡ (ys ++ c ∷ []) ++ d ∷ [] =
    append_assoc xs (a ∷ []) (b ∷ []) ∙ same ∙ sym (append_assoc ys (c ∷ []) (d ∷ [])) in
    (same_from_push xs ys a c (same_from_push (xs ++ a ∷ []) (ys ++ c ∷ []) b d split).0).0

-- the words give one list of recordings
pub same_recordings : (rows : List Row) (name : Text) (first second : List Text × Text × Text)
    → HasPaths rows name first → HasPaths rows name second → first.0 ≡ second.0
same_recordings rows name first second a b =
    let words : a.0 ≡ b.0 = let e = a.1 in let f = b.1 in cc in
    sym a.2.4
    ∙ ap (map input_named) (same_before a.2.0 b.2.0 a.2.1 a.2.2 b.2.1 b.2.2 (sym a.2.3 ∙ words ∙ b.2.3))
    ∙ b.2.4

-- words of another number of recordings than one are of no import of one
pub not_one_recording : (rows : List Row) (paths : LastPaths) → HasPaths rows (codes "WAVE") (paths_in paths)
    → (length paths.recordings.now ≡ 1 → ⊥) → FindsOne None (λ it. AreGiven rows (operands_of (Import it)))
not_one_recording rows paths has other = (
  tt,
  λ it given.
      let same : it.wave.now ∷ [] ≡ map (λ word. input_named word.now) paths.recordings.now =
      same_recordings rows (codes "WAVE") (it.wave.now ∷ [], it.out.now, it.undo.now) (paths_in paths) given.1.0 has in
      absurd (other (sym (length-map paths.recordings.now (λ (word : Bor Text). input_named word.now))
      ∙ ap length (sym same))),
)

-- an option without two values names no preset
pub no_named_absent : (rows : List Row) (option : Text) → all_of option rows ≡ None
    → FindsOne None (λ preset. IsGiven rows (Named option preset))
no_named_absent rows option none = (tt, λ preset given. let e = given.1 in absurd cc)

pub no_named_length : (rows : List Row) (option : Text) (words : List (Bor Text))
    → all_of option rows ≡ Some (texts_behind words) → (length words ≡ 2 → ⊥)
    → FindsOne None (λ preset. IsGiven rows (Named option preset))
no_named_length rows option words all other = (
  tt,
  λ preset given.
      let same : given.0 ∷ preset.name ∷ [] ≡ texts_behind words = let e = given.1 in cc in
      absurd (other (sym (length-map words (λ (text : Bor Text). text.now)) ∙ ap length (sym same))),
)

-- the texts of two words
pub two_texts : (words : List (Bor Text)) (d e : Bor Text) → length words ≡ 2
    → texts_behind words ≡ (get_or words 0 d).now ∷ (get_or words 1 e).now ∷ []
two_texts [] d e two = absurd (omega arith)
two_texts (first ∷ []) d e two = absurd (omega arith)
two_texts (first ∷ second ∷ []) d e two = refl
two_texts (first ∷ second ∷ third ∷ words) d e two = absurd (omega arith)

-- an empty text
abbrev pub no_text : Bor Text
no_text = record { ref_ptr = (0, 0); now = [] }

-- an option's values, where they are two words
pub values_of : (rows : List Row) (option : Text) (words : List (Bor Text)) (d e : Bor Text)
    → all_of option rows ≡ Some (texts_behind words) → length words ≡ 2
    → all_of option rows ≡ Some ((get_or words 0 d).now ∷ (get_or words 1 e).now ∷ [])
values_of rows option words d e all two = all ∙ ap Some (two_texts words d e two)

module _ (rows : List Row) (option : Text) (text name : Text) (all : all_of option rows ≡ Some (text ∷ name ∷ [])) where
  -- nor does one whose first value names no preset, or whose second is no name
  pub no_named_numbers : FindsOne None (IsPreset text) → FindsOne None (λ preset. IsGiven rows (Named option preset))
  no_named_numbers none = (
    tt,
    λ preset given.
        let same : given.0 ≡ text = let e = given.1 in cc in
        let named : Text → Type 0 = λ t. IsPreset t preset.numbers in
        none.1 preset.numbers (subst named same given.2),
  )

  pub no_named_name : FindsOne None (λ (n : List ℕ). (n ≡ name) × IsName n)
      → FindsOne None (λ preset. IsGiven rows (Named option preset))
  no_named_name none = (
    tt,
    λ preset given.
        let same : preset.name ≡ name = let e = given.1 in cc in
        none.1 preset.name (same, given.3),
  )

  -- it names the preset with these numbers and this name
  pub named_given : (preset : NewPreset) → IsPreset text preset.numbers → (preset.name ≡ name) × IsName preset.name
      → IsGiven rows (Named option preset)
  named_given preset numbers named = (
    text,
    all ∙ ap (λ n. Some (text ∷ n ∷ [])) (sym named.0),
    numbers,
    named.1,
  )

-- an option that is used, and names no preset, has none
pub no_optional_named : (rows : List Row) (option : Text) (used : Text) → first_of option rows ≡ Some used
    → FindsOne None (λ preset. IsGiven rows (Named option preset))
    → FindsOne None (λ preset. IsGiven rows (optional_named option preset))
no_optional_named rows option used some none = (tt, go)
  where
    go : (preset : Option NewPreset) → IsGiven rows (optional_named option preset) → false ≡ true
    go None given = absurd cc
    go (Some preset) given = none.1 preset given

-- an option of a name is used if it is given
name_used : (rows : List Row) (option : Text) (name : Option (List ℕ)) → IsGiven rows (optional_name option name)
    → is_some name ≡ is_some (first_of option rows)
name_used rows option (Some name) given = let e = given.0 in cc
name_used rows option None given = let e = given in cc

-- an option whose values begin with a word is used
used_first : (rows : List Row) (option first : Text) (others : List Text) → all_of option rows ≡ Some (first ∷ others)
    → is_some (first_of option rows) ≡ true
used_first rows option first others all = go (find (λ r. bytes_eq r.id option) rows) all
  where
    go : (row : Option Row) → option_map (λ r. r.values) row ≡ Some (first ∷ others)
        → is_some (option_and_then (λ r. slice_get r.values 0) row) ≡ true
    go None e = absurd cc
    go (Some row) e =
        let values : row.values ≡ first ∷ others = cc in
        ap (λ (vs : List Text). is_some (slice_get vs 0)) values

-- an option of a new preset is used if it is given
named_used : (rows : List Row) (option : Text) (preset : Option NewPreset) → IsGiven rows (optional_named option preset)
    → is_some preset ≡ is_some (first_of option rows)
named_used rows option (Some preset) given =
    sym (used_first rows option given.0 (preset.name ∷ []) given.1)
named_used rows option None given = let e = given in cc

-- words make no kit if they have no source of its recordings
pub no_kit : (rows : List Row) (paths : List Text × Text × Text) (instrument : Option (List ℕ))
    (preset : Option NewPreset) (is_named : Bool) (found : Option KitSource) → HasPaths rows (codes "WAVE") paths
    → IsGiven rows (optional_name (codes "instrument") instrument)
    → IsGiven rows (optional_named (codes "preset") preset) → is_named ≡ (is_some instrument || is_some preset)
    → FindsOne found (λ source. IsGiven rows (table_operand source) × (source_files source ≡ paths.0)
    × (is_kit is_named source ≡ true))
    → found ≡ None → FindsOne None (λ kit. AreGiven rows (kit_operands kit))
no_kit rows paths instrument preset is_named found has first second named finds none = (
  tt,
  λ kit given.
      let names : (is_some kit.instrument || is_some kit.preset) ≡ is_named =
      ap₂ (λ (a b : Bool). a || b)
      (name_used rows (codes "instrument") kit.instrument given.1.1.1.1.0
      ∙ sym (name_used rows (codes "instrument") instrument first))
      (named_used rows (codes "preset") kit.preset given.1.1.1.1.1.0
      ∙ sym (named_used rows (codes "preset") preset second))
      ∙ sym named in
      let kits : Bool → Type 0 = λ b. is_kit b kit.source ≡ true in
      let some : Option KitSource → Type 0 = λ o. IsSome o in
      subst some none (finds.1 kit.source (
        given.1.1.0,
        same_recordings rows (codes "WAVE") (source_files kit.source, kit.out.now, kit.undo.now) paths given.1.0 has,
        subst kits names given.1.1.1.0,
      )),
)
