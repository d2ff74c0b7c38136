-- The commands of sfbank with their arguments, as clap reads them.
use Rattle.std.specs.Prelude.{◌≡◌, ◌-◌, ◌^◌, ◌++◌, ℕ, true, pos, List, [], ◌∷◌, map, fold, Some, codes, length}
use Rattle.std.specs.Borrow.{Bor}
use Rattle.clap.specs.Words.{App, Rule, Shape, Text, new_app, new_rule, with_subcommand}
use Rattle.clap.specs.declared.builder.ArgAction.TheVariants.{Append, Set, SetTrue}
use Rattle.clap.specs.declared.builder.ValueParser.{ValueParser}
use Rattle.clap.specs.declared.builder.ValueParser.TheVariants as parser
use Rattle.program_commands.specs.declared.commands.Entry.{Entry}
use Rattle.program_commands.specs.declared.commands.WordParsers.{WordParsers}
use Rattle.program_commands.specs.declared.commands.Operand as operand
use Rattle.program_commands.specs.declared.commands.Operand.TheVariants as variant

-- an argument of a command with its name: any word, a path, paths, a number of 32 bits, the word for a member are
-- required; a path or such a number after these is optional; a flag, a number of 16 bits with its default, a
-- word, words given one by one and this many words given together are options
pub data Argument : Type 0 where
  Word : Text → Argument
  Path : Text → Argument
  Paths : Text → Argument
  OptionalPath : Text → Argument
  Number : Text → Argument
  OptionalNumber : Text → Argument
  Member : Text → Argument
  Flag : Text → Argument
  Small : Text → Text → Argument
  Single : Text → Argument
  Repeated : Text → Argument
  Together : Text → ℕ → Argument

-- a reference to a list of words
abbrev pub WordList : Type 0
WordList = Bor (List (Bor Text))

-- the words that it points to
abbrev pub texts_of : WordList → List Text
texts_of words = map (λ word. word.now) words.now

-- the words for a preset, an instrument and a sample
abbrev pub member_words : List Text
member_words = codes "preset" ∷ codes "inst" ∷ codes "sample" ∷ []

-- the flag of every command
abbrev pub explain_flag : Argument
explain_flag = Flag (codes "explain")

-- arguments of more than one command, or with long names
abbrev pub input_path : Argument
input_path = Path (codes "IN")

abbrev pub output_path : Argument
output_path = Path (codes "OUT")

abbrev pub undo_path : Argument
undo_path = Path (codes "UNDO")

abbrev pub folder_path : Argument
folder_path = Path (codes "FOLDER")

abbrev pub force_flag : Argument
force_flag = Flag (codes "force")

abbrev pub neutral_flag : Argument
neutral_flag = Flag (codes "neutral")

abbrev pub dry_run_flag : Argument
dry_run_flag = Flag (codes "dry-run")

abbrev pub script_option : Argument
script_option = Single (codes "script")

abbrev pub no_comments_flag : Argument
no_comments_flag = Flag (codes "no-comments")

abbrev pub report_flag : Argument
report_flag = Flag (codes "report")

-- the arguments of `apply`
abbrev pub apply_arguments : List Argument
apply_arguments =
    force_flag ∷ neutral_flag ∷ Flag (codes "no-undo") ∷ input_path ∷ Path (codes "SCRIPT") ∷ output_path
    ∷ OptionalPath (codes "UNDO") ∷ []

-- the arguments of a command that finds edits
abbrev pub plan_arguments : List Argument
plan_arguments =
    dry_run_flag ∷ script_option ∷ no_comments_flag ∷ force_flag ∷ input_path ∷ output_path ∷ undo_path ∷ []

-- the arguments of one that copies from a second bank
abbrev pub second_bank_arguments : List Argument
second_bank_arguments =
    dry_run_flag ∷ script_option ∷ no_comments_flag ∷ force_flag ∷ input_path ∷ Path (codes "FROM") ∷ output_path
    ∷ undo_path ∷ []

-- the arguments of `copy`
abbrev pub copy_arguments : List Argument
copy_arguments =
    Single (codes "name") ∷ Single (codes "as") ∷ dry_run_flag ∷ script_option ∷ no_comments_flag ∷ force_flag
    ∷ input_path ∷ Member (codes "MEMBER") ∷ Number (codes "N") ∷ output_path ∷ undo_path ∷ []

-- the options of reading a recording
abbrev pub read_arguments : List Argument
read_arguments = Single (codes "channel") ∷ Single (codes "key") ∷ Single (codes "dither") ∷ []

-- the arguments of `import`: its paths end with those of OUT and UNDO
abbrev pub import_arguments : List Argument
import_arguments =
    Single (codes "name") ∷ Single (codes "kit") ∷ Single (codes "instrument") ∷ Together (codes "preset") 2
    ∷ read_arguments
    ++ force_flag ∷ input_path ∷ Paths (codes "WAVE") ∷ []

-- the arguments of `replace`
abbrev pub replace_arguments : List Argument
replace_arguments =
    read_arguments
    ++ force_flag ∷ input_path ∷ Number (codes "S") ∷ Path (codes "WAVE") ∷ output_path ∷ undo_path ∷ []

-- the arguments of `wave`: the number and the path are those of one sample
abbrev pub wave_arguments : List Argument
wave_arguments =
    Flag (codes "pair") ∷ Single (codes "all") ∷ Single (codes "instrument") ∷ force_flag ∷ input_path
    ∷ OptionalNumber (codes "S") ∷ OptionalPath (codes "OUT") ∷ []

-- the commands up to `live`, each with its arguments
abbrev pub commands_to_live : List (Text × List Argument)
commands_to_live =
    (codes "apply", apply_arguments)
    ∷ (codes "canon", input_path ∷ output_path ∷ [])
    ∷ (codes "check", Flag (codes "strict") ∷ input_path ∷ [])
    ∷ (codes "copy", copy_arguments)
    ∷ (codes "diff", no_comments_flag ∷ force_flag ∷ Path (codes "A") ∷ Path (codes "B") ∷ output_path ∷ [])
    ∷ (codes "explain", Word (codes "TOPIC") ∷ [])
    ∷ (codes "import", import_arguments)
    ∷ (codes "keep", Single (codes "notes") ∷ Flag (codes "zones") ∷ Repeated (codes "preset") ∷ plan_arguments)
    ∷ (codes "live", force_flag ∷ report_flag ∷ input_path ∷ Path (codes "PCM") ∷ [])
    ∷ []

-- the commands from `map` on
abbrev pub commands_from_map : List (Text × List Argument)
commands_from_map =
    (codes "map", force_flag ∷ input_path ∷ Member (codes "MEMBER") ∷ Number (codes "N") ∷ output_path ∷ [])
    ∷ (codes "merge", Small (codes "shift") (codes "0") ∷ second_bank_arguments)
    ∷ (codes "new", force_flag ∷ Small (codes "minor") (codes "4") ∷ output_path ∷ [])
    ∷ (codes "pack", force_flag ∷ folder_path ∷ output_path ∷ [])
    ∷ (codes "page", force_flag ∷ input_path ∷ output_path ∷ [])
    ∷ (codes "play", force_flag ∷ report_flag ∷ input_path ∷ Path (codes "NOTES") ∷ output_path ∷ [])
    ∷ (codes "replace", replace_arguments)
    ∷ (codes "script", Flag (codes "no-points") ∷ no_comments_flag ∷ force_flag ∷ input_path ∷ output_path ∷ [])
    ∷ (codes "show", Flag (codes "zones") ∷ Flag (codes "uses") ∷ input_path ∷ [])
    ∷ (codes "take", Repeated (codes "preset") ∷ second_bank_arguments)
    ∷ (codes "tidy", Flag (codes "merge") ∷ plan_arguments)
    ∷ (codes "unpack", force_flag ∷ input_path ∷ folder_path ∷ [])
    ∷ (codes "wave", wave_arguments)
    ∷ []

-- all commands
abbrev pub command_table : List (Text × List Argument)
command_table = commands_to_live ++ commands_from_map

-- the parser of unsigned numbers with this width in bits
abbrev pub number_parser : ℕ → ValueParser
number_parser bits = parser.Signed (pos 0) (pos (2 ^ bits - 1))

-- what clap reads of an argument that is found by its position
abbrev pub rule_for_positional : Text → Rule
rule_for_positional name = record (new_rule name) { action = Some Set }

-- what clap reads of a required argument
abbrev pub rule_for_required : Text → Rule
rule_for_required name = record (rule_for_positional name) { required = true }

-- what clap reads of an option
abbrev pub rule_for_option : Text → Rule
rule_for_option name = record (new_rule name) { long = Some name }

-- what clap reads of an argument
abbrev pub rule_for : WordParsers → Argument → Rule
rule_for parsers (Word name) = rule_for_required name
rule_for parsers (Path name) = rule_for_required name
rule_for parsers (Paths name) = record (rule_for_required name) { action = Some Append }
rule_for parsers (OptionalPath name) = rule_for_positional name
rule_for parsers (Number name) =
    record (rule_for_required name) { parser = Some (number_parser 32) }
rule_for parsers (OptionalNumber name) =
    record (rule_for_positional name) { parser = Some (number_parser 32) }
rule_for parsers (Member name) = record (rule_for_required name) { parser = Some parsers.members }
rule_for parsers (Flag name) = record (rule_for_option name) { action = Some SetTrue }
rule_for parsers (Small name default) = record (rule_for_option name) {
  action = Some Set;
  value_names = 1;
  parser = Some (number_parser 16);
  defaults = default ∷ [];
}
rule_for parsers (Single name) = record (rule_for_option name) { action = Some Set; value_names = 1 }
rule_for parsers (Repeated name) = record (rule_for_option name) { action = Some Append; value_names = 1 }
rule_for parsers (Together name n) = record (rule_for_option name) { action = Some Set; value_names = n }

-- what clap reads of a command: its arguments and the flag of every command
abbrev pub shape_for : WordParsers → Text × List Argument → Shape
shape_for parsers command =
    record (new_app command.0).top { rules = map (rule_for parsers) (command.1 ++ explain_flag ∷ []) }

-- what clap reads of the program before its commands
abbrev pub program_app : App
program_app = record {
  top = record (new_app (codes "sfbank")).top {
    has_version = true;
    arg_required_else_help = true;
    subcommand_required = true;
  };
  subs = [];
}

-- what clap reads of the program with its commands
abbrev pub app_with : WordParsers → App
app_with parsers = fold with_subcommand program_app (map (shape_for parsers) command_table)

-- words at no address: clap reads only the words
abbrev pub at_no_address : List Text → WordList
at_no_address words = record { ref_ptr = (0, 0); now = map (λ word. record { ref_ptr = (0, 0); now = word }) words }

-- the parsers of operands that are one of these words
abbrev pub parsers_of : WordList → WordParsers
parsers_of members = record { members = parser.Names members }

-- what clap reads of sfbank: the program with its commands and their arguments
abbrev pub sfbank_app : App
sfbank_app = app_with (parsers_of (at_no_address member_words))

-- these are the parsers of operands that are one of some words, with the words at any addresses
abbrev pub AreWordParsers : WordParsers → Type 0
AreWordParsers parsers = (members : WordList) × (texts_of members ≡ member_words) × (parsers ≡ parsers_of members)

-- this is sfbank_app, with the words at any addresses
abbrev pub IsSfbankApp : App → Type 0
IsSfbankApp app = (members : WordList) × (texts_of members ≡ member_words) × (app ≡ app_with (parsers_of members))

-- an operand of the code as an argument
abbrev pub argument_of : operand.Operand → Argument
argument_of (variant.Word name help) = Word name.now
argument_of (variant.Path name help) = Path name.now
argument_of (variant.Paths name help) = Paths name.now
argument_of (variant.OptionalPath name help) = OptionalPath name.now
argument_of (variant.Number name help) = Number name.now
argument_of (variant.OptionalNumber name help) = OptionalNumber name.now
argument_of (variant.Member name help) = Member name.now
argument_of (variant.Flag name help) = Flag name.now
argument_of (variant.Small name value default help) = Small name.now default.now
argument_of (variant.Single name value help) = Single name.now
argument_of (variant.Repeated name value help) = Repeated name.now
argument_of (variant.Together name values help) = Together name.now (length values.now)

-- a command of the code with its arguments
abbrev pub command_in : Entry → Text × List Argument
command_in entry = (entry.name.now, map argument_of entry.operands.now)
