-- The commands of sfbank read the same words alike, wherever the words of their operands lie.
use Rattle.std.proofs.Common.{◌≡◌, ◌∙◌, ◌∷◌, ◌||◌, Bool, true, false, List, [], Option, Some, None, ap, ap₂, map}
use Rattle.std.proofs.Common.{option_map, refl, subst, sym}
use Rattle.std.specs.Prelude.{find, if◌then◌else◌, is_some}
use Rattle.std.specs.Borrow.{Bor}
use Rattle.std.specs.List.{list_any}
use Rattle.std.specs.Option.{option_map_or}
use Rattle.clap.specs.Values.{reading_of, same_text}
use Rattle.clap.specs.Kinds.{Kinds, value_kinds}
use Rattle.clap.specs.Faults.{entered_fault, fault_of, is_simple_and_free, level_fault}
use Rattle.clap.specs.Walk.{answers_to, nothing_held, stop_after, walk}
use Rattle.clap.specs.Simple.{argument_words, built, entered, label_of, names_of, rows_at}
use Rattle.clap.specs.Words.{App, Row, Shape, Text, is_simple, subcommand_of}
use Rattle.clap.specs.declared.error.kind.ErrorKind.TheVariants.{InvalidValue}
use Rattle.clap.specs.declared.builder.ValueParser.{ValueParser}
use Rattle.clap.specs.declared.builder.ValueParser.TheVariants.{Names}
use Rattle.program_commands.specs.declared.commands.WordParsers.{WordParsers}
use Rattle.program_commands.specs.Commands.{WordList, app_with, at_no_address, member_words, parsers_of}
use Rattle.program_commands.specs.Commands.{sfbank_app, texts_of}
use Rattle.program_commands.proofs.FaultLaws.{level_fault_same}
use Rattle.program_commands.proofs.WalkLaws.{rows_same, with_other}

-- the words of the second list at the addresses of the first
abbrev pub at_addresses : List (Bor Text) → List (Bor Text) → List (Bor Text)
at_addresses [] words = words
at_addresses (place ∷ places) [] = []
at_addresses (place ∷ places) (word ∷ words) =
    record { ref_ptr = place.ref_ptr; now = word.now } ∷ at_addresses places words

-- words at other addresses
abbrev pub moved_to : WordList → WordList → WordList
moved_to places names = record { ref_ptr = places.ref_ptr; now = at_addresses places.now names.now }

-- the parser with its names at the addresses of these
abbrev pub with_places : WordList → ValueParser → ValueParser
with_places places (Names names) = Names (moved_to places names)
with_places places parser = parser

pub names_read : (places : WordList) (parser : ValueParser) → reading_of (with_places places parser) ≡ reading_of parser
names_read places (Names names) = refl
names_read places _ = refl

any_same : (ignore_case : Bool) (text : Text) (places words : List (Bor Text))
    → list_any (λ name. same_text ignore_case name.now text) (at_addresses places words)
    ≡ list_any (λ name. same_text ignore_case name.now text) words
any_same ignore_case text [] words = refl
any_same ignore_case text (place ∷ places) [] = refl
any_same ignore_case text (place ∷ places) (word ∷ words) =
    ap (λ b. same_text ignore_case word.now text || b) (any_same ignore_case text places words)

pub names_accept : (places : WordList) (ignore_case : Bool) (parser : ValueParser) (text : Text)
    → value_kinds ignore_case (with_places places parser) text ≡ value_kinds ignore_case parser text
names_accept places ignore_case (Names names) text =
    ap (λ (b : Bool). if b then [] else InvalidValue ∷ []) (any_same ignore_case text places.now names.now)
names_accept places ignore_case _ text = refl

-- words are at their own addresses
own_addresses : (places : List (Bor Text)) → at_addresses places (at_no_address (map (λ word. word.now) places)).now
    ≡ places
own_addresses [] = refl
own_addresses (place ∷ places) = ap (λ (rest : List (Bor Text)). place ∷ rest) (own_addresses places)

-- words at no address that are moved there
words_moved : (places : WordList) (words : List Text) → texts_of places ≡ words
    → moved_to places (at_no_address words) ≡ places
words_moved places words same =
    let moved : List Text → Type 0 = λ ts. moved_to places (at_no_address ts) ≡ places in
    subst moved same
    (ap (λ (ws : List (Bor Text)). record { ref_ptr = places.ref_ptr; now = ws }) (own_addresses places.now))

module _ (members : WordList) where
  -- the parsers of words at no address, moved there
  abbrev pub moved_parsers : WordParsers
  moved_parsers = record { members = with_places members (Names (at_no_address member_words)) }

  parsers_moved : texts_of members ≡ member_words → moved_parsers ≡ parsers_of members
  parsers_moved same = ap parsers_of (words_moved members member_words same)

  abbrev pub shape_at : Shape → Shape
  shape_at s =
      record s { rules = map (with_other (with_places members) (names_read members)) s.rules }

  found_at : (word : Text) (subs : List Shape) → find (λ s. answers_to word (label_of s)) (map shape_at subs)
      ≡ option_map shape_at (find (λ s. answers_to word (label_of s)) subs)
  found_at word [] = refl
  found_at word (s ∷ subs) =
      ap (λ o. if answers_to word (label_of s) then Some (shape_at s) else o) (found_at word subs)
      ∙ go (answers_to word (label_of s))
    where
      go : (b : Bool) → (if b then Some (shape_at s) else option_map shape_at (find (λ s. answers_to word
          (label_of s)) subs))
          ≡ option_map shape_at (if b then Some s else find (λ s. answers_to word (label_of s)) subs)
      go true = refl
      go false = refl

  rows_at_same : (o : Option Shape) (words : List Text)
      → option_map (λ s. rows_at s words) (option_map shape_at o) ≡ option_map (λ s. rows_at s words) o
  rows_at_same None words = refl
  rows_at_same (Some s) words = ap (λ (rows : List Row). Some (s.name, rows))
      (rows_same (with_places members) (names_read members) s.rules [] words)

  entered_same : (app : App) (stop : Option (Text × List Text))
      → entered (record app { subs = map shape_at app.subs }) stop ≡ entered app stop
  entered_same app None = refl
  entered_same app (Some p) = ap (option_map (λ s. rows_at s p.1)) (found_at p.0 app.subs)
      ∙ rows_at_same (find (λ s. answers_to p.0 (label_of s)) app.subs) p.1

  faults_at_same : (o : Option Shape) (words : List Text)
      → option_map_or (λ s. level_fault s [] nothing_held words false []) (option_map shape_at o) []
      ≡ option_map_or (λ s. level_fault s [] nothing_held words false []) o []
  faults_at_same None words = refl
  faults_at_same (Some s) words =
      level_fault_same (with_places members) (names_read members) (names_accept members) s []
      words false []

  entered_fault_same : (app : App) (stop : Option (Text × List Text))
      → entered_fault (record app { subs = map shape_at app.subs }) stop ≡ entered_fault app stop
  entered_fault_same app None = refl
  entered_fault_same app (Some p) =
      ap (λ o. option_map_or (λ s. level_fault s [] nothing_held p.1 false []) o []) (found_at p.0 app.subs)
      ∙ faults_at_same (find (λ s. answers_to p.0 (label_of s)) app.subs) p.1

  moved_subcommand : (words : List Text)
      → subcommand_of (app_with moved_parsers) words ≡ subcommand_of sfbank_app words
  moved_subcommand words = entered_same (built sfbank_app)
      (stop_after (built sfbank_app).top.rules (names_of (built sfbank_app)) (argument_words sfbank_app words))

  moved_fault : (words : List Text)
      → fault_of (app_with moved_parsers) words ≡ fault_of sfbank_app words
  moved_fault words =
      let app = built sfbank_app in
      let given = argument_words sfbank_app words in
      let stop = (walk app.top.rules (names_of app) nothing_held given).stopped in
      ap₂ (λ (some : Bool) (below : Kinds). level_fault app.top (names_of app) nothing_held given some below)
      (ap is_some (entered_same app stop)) (entered_fault_same app stop)

  -- the same command is used, with the same rows
  pub subcommand_same : texts_of members ≡ member_words → (words : List Text)
      → subcommand_of (app_with (parsers_of members)) words ≡ subcommand_of sfbank_app words
  subcommand_same same words =
      ap (λ ps. subcommand_of (app_with ps) words) (sym (parsers_moved same)) ∙ moved_subcommand words

  -- the words have the same fault
  pub fault_same : texts_of members ≡ member_words → (words : List Text)
      → fault_of (app_with (parsers_of members)) words ≡ fault_of sfbank_app words
  fault_same same words = ap (λ ps. fault_of (app_with ps) words) (sym (parsers_moved same)) ∙ moved_fault words

  -- clap states how it reads these commands
  pub simple_app : is_simple (app_with (parsers_of members)) ≡ true
  simple_app = refl

  -- and how it fails
  pub free_app : is_simple_and_free (app_with (parsers_of members)) ≡ true
  free_app = refl
