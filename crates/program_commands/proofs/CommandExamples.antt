-- Words of some commands, with what they ask for.
use Rattle.std.proofs.Common.{◌≡◌, ◌∷◌, List, [], None, Option, Some, arith, codes, false, inl, inr, option_map, refl}
use Rattle.std.proofs.Common.{rules, true}
use Rattle.std.specs.Option.{unwrap_or}
use Rattle.std.specs.Path.{path_file_name, path_file_stem, rsplit_once, split_last_component, trim_trailing}
use Rattle.clap.specs.Words.{Text, all_of, fault_of, first_of, one_of, subcommand_of}
use Rattle.clap.specs.declared.error.kind.ErrorKind.TheVariants.{UnknownArgument}
use Rattle.clap.proofs.OnLiterals.{clap_on_literals}
use Rattle.program_commands.specs.Commands.{sfbank_app}
use Rattle.program_commands.specs.declared.explain.Topic.TheVariants.{Generators, Name, Number}
use Rattle.program_commands.specs.Words.{asks_for_explanations, input_named, output_named, standard_input}
use Rattle.program_commands.specs.Words.{AsksForNone, IsPreset, IsTakenPreset, IsTopic}
use Rattle.program_commands.proofs.RequestLaws.{apply_asks_none, live_asks_none}

abbrev pub apply_words : List Text
apply_words =
    codes "sfbank" ∷ codes "apply" ∷ codes "in.sf2" ∷ codes "edits.txt" ∷ codes "out.sf2" ∷ codes "undo.txt" ∷ []

abbrev pub apply_only_words : List Text
apply_only_words =
    codes "sfbank" ∷ codes "apply" ∷ codes "in.sf2" ∷ codes "edits.txt" ∷ codes "out.sf2" ∷ codes "--no-undo" ∷ []

abbrev pub short_words : List Text
short_words = codes "sfbank" ∷ codes "apply" ∷ codes "in.sf2" ∷ codes "edits.txt" ∷ codes "out.sf2" ∷ []

abbrev pub explain_words : List Text
explain_words = codes "sfbank" ∷ codes "explain" ∷ codes "41" ∷ []

abbrev pub explained_words : List Text
explained_words =
    codes "sfbank" ∷ codes "canon" ∷ codes "--explain" ∷ codes "in.sf2" ∷ codes "out.sf2" ∷ []

abbrev pub odd_words : List Text
odd_words = codes "sfbank" ∷ codes "canon" ∷ codes "--" ∷ codes "--explain" ∷ codes "out.sf2" ∷ []

abbrev pub map_words : List Text
map_words =
    codes "sfbank" ∷ codes "map" ∷ codes "--force" ∷ codes "in.sf2" ∷ codes "inst" ∷ codes "7" ∷ codes "out.svg" ∷ []

abbrev pub keep_words : List Text
keep_words =
    codes "sfbank" ∷ codes "keep" ∷ codes "--preset" ∷ codes "0:24" ∷ codes "--preset=8:4" ∷ codes "in.sf2"
    ∷ codes "out.sf2" ∷ codes "undo.txt" ∷ []

abbrev pub keep_notes_words : List Text
keep_notes_words =
    codes "sfbank" ∷ codes "keep" ∷ codes "--dry-run" ∷ codes "in.sf2" ∷ codes "out.sf2" ∷ codes "undo.txt"
    ∷ codes "--notes" ∷ codes "song.txt" ∷ codes "--zones" ∷ []

abbrev pub take_words : List Text
take_words =
    codes "sfbank" ∷ codes "take" ∷ codes "--preset" ∷ codes "0:24=8:25" ∷ codes "in.sf2" ∷ codes "from.sf2"
    ∷ codes "out.sf2" ∷ codes "undo.txt" ∷ []

abbrev pub merge_words : List Text
merge_words =
    codes "sfbank" ∷ codes "merge" ∷ codes "in.sf2" ∷ codes "from.sf2" ∷ codes "out.sf2" ∷ codes "undo.txt" ∷ []

abbrev pub copy_words : List Text
copy_words =
    codes "sfbank" ∷ codes "copy" ∷ codes "--as" ∷ codes "8:24" ∷ codes "--script=edits.txt" ∷ codes "in.sf2"
    ∷ codes "preset" ∷ codes "3" ∷ codes "out.sf2" ∷ codes "undo.txt" ∷ []

-- `-` for each path, and a path that ends with it
abbrev pub play_words : List Text
play_words = codes "sfbank" ∷ codes "play" ∷ codes "--report" ∷ codes "-" ∷ codes "notes.txt" ∷ codes "-" ∷ []

abbrev pub canon_words : List Text
canon_words = codes "sfbank" ∷ codes "canon" ∷ codes "./-" ∷ codes "./-" ∷ []

abbrev pub tidy_words : List Text
tidy_words =
    codes "sfbank" ∷ codes "tidy" ∷ codes "--script" ∷ codes "-" ∷ codes "in.sf2" ∷ codes "out.sf2" ∷ codes "-" ∷ []

abbrev pub keep_input_words : List Text
keep_input_words =
    codes "sfbank" ∷ codes "keep" ∷ codes "--notes=-" ∷ codes "in.sf2" ∷ codes "out.sf2" ∷ codes "undo.txt" ∷ []

abbrev pub live_words : List Text
live_words = codes "sfbank" ∷ codes "live" ∷ codes "--report" ∷ codes "in.sf2" ∷ codes "frames" ∷ []

abbrev pub live_standard_words : List Text
live_standard_words = codes "sfbank" ∷ codes "live" ∷ codes "in.sf2" ∷ codes "-" ∷ []

abbrev pub unpack_words : List Text
unpack_words = codes "sfbank" ∷ codes "unpack" ∷ codes "--force" ∷ codes "in.sf2" ∷ codes "organ" ∷ []

abbrev pub pack_words : List Text
pack_words = codes "sfbank" ∷ codes "pack" ∷ codes "organ" ∷ codes "-" ∷ []

abbrev pub report_words : List Text
report_words = codes "sfbank" ∷ codes "canon" ∷ codes "--report" ∷ codes "in.sf2" ∷ codes "out.sf2" ∷ []

-- the command that words use
abbrev pub command_used : List Text → Option Text
command_used words = option_map (λ used. used.0) (subcommand_of sfbank_app words)

-- the word and the number or flag that words give under this name
abbrev pub word_given : List Text → Text → Option (Option Text)
word_given words name = option_map (λ used. first_of name used.1) (subcommand_of sfbank_app words)

abbrev pub value_given : List Text → Text → Option (Option Text)
value_given words name = option_map (λ used. one_of name used.1) (subcommand_of sfbank_app words)

-- the path of the input and of the output that words give under this name
abbrev pub input_given : List Text → Text → Option (Option Text)
input_given words name = option_map (option_map input_named) (word_given words name)

abbrev pub output_given : List Text → Text → Option (Option Text)
output_given words name = option_map (option_map output_named) (word_given words name)

-- all words that words give under this name
abbrev pub words_given : List Text → Text → Option (Option (List Text))
words_given words name = option_map (λ used. all_of name used.1) (subcommand_of sfbank_app words)

pub apply_undo : word_given apply_words (codes "UNDO") ≡ Some (Some (codes "undo.txt"))
unfolding clap_on_literals
apply_undo = refl

pub apply_unset : word_given apply_words (codes "no-undo") ≡ Some (Some (codes "false"))
unfolding clap_on_literals
apply_unset = refl

pub apply_only_set : word_given apply_only_words (codes "no-undo") ≡ Some (Some (codes "true"))
unfolding clap_on_literals
apply_only_set = refl

pub apply_only_absent : word_given apply_only_words (codes "UNDO") ≡ Some None
unfolding clap_on_literals
apply_only_absent = refl

pub short_used : command_used short_words ≡ Some (codes "apply")
unfolding clap_on_literals
short_used = refl

pub short_unset : word_given short_words (codes "no-undo") ≡ Some (Some (codes "false"))
unfolding clap_on_literals
short_unset = refl

pub short_absent : word_given short_words (codes "UNDO") ≡ Some None
unfolding clap_on_literals
short_absent = refl

-- without UNDO and the flag the words ask for no request
pub short_asks_none : AsksForNone (subcommand_of sfbank_app short_words)
short_asks_none = apply_asks_none (subcommand_of sfbank_app short_words) short_used short_unset short_absent

pub explain_used : command_used explain_words ≡ Some (codes "explain")
unfolding clap_on_literals
explain_used = refl

pub explain_topic : word_given explain_words (codes "TOPIC") ≡ Some (Some (codes "41"))
unfolding clap_on_literals
explain_topic = refl

pub number_topic : IsTopic (codes "41") (Number 41)
number_topic = search rules

pub generators_topic : IsTopic (codes "generators") Generators
generators_topic = refl

-- a name, and a number of more than 32 bits
pub name_topic : IsTopic (codes "bad-tag") (Name (record { ref_ptr = (0, 0); now = codes "bad-tag" }))
name_topic = (refl, (λ same. absurd (grind arith)), (λ n decimal. absurd (grind arith)))

pub large_topic : IsTopic (codes "4294967296") (Name (record { ref_ptr = (0, 0); now = codes "4294967296" }))
large_topic = (refl, (λ same. absurd (grind arith)), (λ n decimal. absurd (omega (arith, decimal.1, decimal.2))))

pub explanations_asked : asks_for_explanations explained_words ≡ true
explanations_asked = refl

-- after `--` a word is an operand
pub explanations_not_asked : asks_for_explanations odd_words ≡ false
explanations_not_asked = refl

pub odd_input : word_given odd_words (codes "IN") ≡ Some (Some (codes "--explain"))
unfolding clap_on_literals
odd_input = refl

pub map_member : word_given map_words (codes "MEMBER") ≡ Some (Some (codes "inst"))
unfolding clap_on_literals
map_member = refl

pub map_number : value_given map_words (codes "N") ≡ Some (Some (codes "7"))
unfolding clap_on_literals
map_number = refl

pub map_force : value_given map_words (codes "force") ≡ Some (Some (codes "true"))
unfolding clap_on_literals
map_force = refl

-- each use of an option gives one preset
pub keep_presets : words_given keep_words (codes "preset") ≡ Some (Some (codes "0:24" ∷ codes "8:4" ∷ []))
unfolding clap_on_literals
keep_presets = refl

pub keep_no_notes : word_given keep_words (codes "notes") ≡ Some None
unfolding clap_on_literals
keep_no_notes = refl

pub keep_first_preset : IsPreset (codes "0:24") (record { bank = 0; number = 24 })
keep_first_preset = (codes "0", codes "24", refl, search rules, search rules)

pub keep_notes : word_given keep_notes_words (codes "notes") ≡ Some (Some (codes "song.txt"))
unfolding clap_on_literals
keep_notes = refl

pub keep_no_presets : word_given keep_notes_words (codes "preset") ≡ Some None
unfolding clap_on_literals
keep_no_presets = refl

pub keep_zones : value_given keep_notes_words (codes "zones") ≡ Some (Some (codes "true"))
unfolding clap_on_literals
keep_zones = refl

pub keep_all_zones : word_given keep_words (codes "zones") ≡ Some (Some (codes "false"))
unfolding clap_on_literals
keep_all_zones = refl

pub keep_dry_run : value_given keep_notes_words (codes "dry-run") ≡ Some (Some (codes "true"))
unfolding clap_on_literals
keep_dry_run = refl

pub take_presets : words_given take_words (codes "preset") ≡ Some (Some (codes "0:24=8:25" ∷ []))
unfolding clap_on_literals
take_presets = refl

pub take_from : word_given take_words (codes "FROM") ≡ Some (Some (codes "from.sf2"))
unfolding clap_on_literals
take_from = refl

pub take_other_numbers :
    IsTakenPreset (codes "0:24=8:25")
    (record { from = record { bank = 0; number = 24 }; to = record { bank = 8; number = 25 } })
take_other_numbers = inr (
  codes "0:24",
  codes "8:25",
  refl,
  (codes "0", codes "24", refl, search rules, search rules),
  (codes "8", codes "25", refl, search rules, search rules),
)

pub take_same_numbers :
    IsTakenPreset (codes "0:24")
    (record { from = record { bank = 0; number = 24 }; to = record { bank = 0; number = 24 } })
take_same_numbers = inl (keep_first_preset, refl)

-- a number that is not given has its default
pub merge_shift : value_given merge_words (codes "shift") ≡ Some (Some (codes "0"))
unfolding clap_on_literals
merge_shift = refl

pub copy_member : word_given copy_words (codes "MEMBER") ≡ Some (Some (codes "preset"))
unfolding clap_on_literals
copy_member = refl

pub copy_as : word_given copy_words (codes "as") ≡ Some (Some (codes "8:24"))
unfolding clap_on_literals
copy_as = refl

pub copy_script : word_given copy_words (codes "script") ≡ Some (Some (codes "edits.txt"))
unfolding clap_on_literals
copy_script = refl

pub copy_no_name : word_given copy_words (codes "name") ≡ Some None
unfolding clap_on_literals
copy_no_name = refl

-- `-` is the standard input, or the standard output
pub play_input : input_given play_words (codes "IN") ≡ Some (Some (codes "/dev/stdin"))
unfolding clap_on_literals
play_input = refl

pub play_notes : input_given play_words (codes "NOTES") ≡ Some (Some (codes "notes.txt"))
unfolding clap_on_literals
play_notes = refl

pub play_output : output_given play_words (codes "OUT") ≡ Some (Some (codes "/dev/stdout"))
unfolding clap_on_literals
play_output = refl

-- a file of this name has a path
pub canon_input : input_given canon_words (codes "IN") ≡ Some (Some (codes "./-"))
unfolding clap_on_literals
canon_input = refl

pub canon_output : output_given canon_words (codes "OUT") ≡ Some (Some (codes "./-"))
unfolding clap_on_literals
canon_output = refl

pub tidy_script : output_given tidy_words (codes "script") ≡ Some (Some (codes "/dev/stdout"))
unfolding clap_on_literals
tidy_script = refl

pub tidy_undo : output_given tidy_words (codes "UNDO") ≡ Some (Some (codes "/dev/stdout"))
unfolding clap_on_literals
tidy_undo = refl

pub keep_input_notes : input_given keep_input_words (codes "notes") ≡ Some (Some (codes "/dev/stdin"))
unfolding clap_on_literals
keep_input_notes = refl

-- the name of a recording that is read there
pub standard_recording : unwrap_or (path_file_stem standard_input) [] ≡ codes "stdin"
unfolding path_file_stem path_file_name split_last_component trim_trailing rsplit_once
standard_recording = refl

pub live_frames : word_given live_words (codes "PCM") ≡ Some (Some (codes "frames"))
unfolding clap_on_literals
live_frames = refl

pub live_standard_used : command_used live_standard_words ≡ Some (codes "live")
unfolding clap_on_literals
live_standard_used = refl

pub live_standard_frames : word_given live_standard_words (codes "PCM") ≡ Some (Some (codes "-"))
unfolding clap_on_literals
live_standard_frames = refl

-- frames to the standard output are asked for by no request
pub live_standard_asks_none : AsksForNone (subcommand_of sfbank_app live_standard_words)
live_standard_asks_none = live_asks_none (subcommand_of sfbank_app live_standard_words) live_standard_used
    live_standard_frames

pub unpack_input : input_given unpack_words (codes "IN") ≡ Some (Some (codes "in.sf2"))
unfolding clap_on_literals
unpack_input = refl

pub unpack_folder : word_given unpack_words (codes "FOLDER") ≡ Some (Some (codes "organ"))
unfolding clap_on_literals
unpack_folder = refl

pub unpack_force : value_given unpack_words (codes "force") ≡ Some (Some (codes "true"))
unfolding clap_on_literals
unpack_force = refl

pub pack_folder : word_given pack_words (codes "FOLDER") ≡ Some (Some (codes "organ"))
unfolding clap_on_literals
pack_folder = refl

pub pack_output : output_given pack_words (codes "OUT") ≡ Some (Some (codes "/dev/stdout"))
unfolding clap_on_literals
pack_output = refl

pub play_report_asked : asks_for_explanations play_words ≡ true
play_report_asked = refl

pub live_report_asked : asks_for_explanations live_words ≡ true
live_report_asked = refl

-- only the commands that play have the flag of reports
pub report_fails : fault_of sfbank_app report_words ≡ UnknownArgument ∷ []
unfolding clap_on_literals
report_fails = refl

-- clap finds no fault in any of the others
pub apply_passes : fault_of sfbank_app apply_words ≡ []
unfolding clap_on_literals
apply_passes = refl

pub apply_only_passes : fault_of sfbank_app apply_only_words ≡ []
unfolding clap_on_literals
apply_only_passes = refl

pub short_passes : fault_of sfbank_app short_words ≡ []
unfolding clap_on_literals
short_passes = refl

pub explain_passes : fault_of sfbank_app explain_words ≡ []
unfolding clap_on_literals
explain_passes = refl

pub explained_passes : fault_of sfbank_app explained_words ≡ []
unfolding clap_on_literals
explained_passes = refl

pub odd_passes : fault_of sfbank_app odd_words ≡ []
unfolding clap_on_literals
odd_passes = refl

pub map_passes : fault_of sfbank_app map_words ≡ []
unfolding clap_on_literals
map_passes = refl

pub keep_passes : fault_of sfbank_app keep_words ≡ []
unfolding clap_on_literals
keep_passes = refl

pub keep_notes_passes : fault_of sfbank_app keep_notes_words ≡ []
unfolding clap_on_literals
keep_notes_passes = refl

pub take_passes : fault_of sfbank_app take_words ≡ []
unfolding clap_on_literals
take_passes = refl

pub merge_passes : fault_of sfbank_app merge_words ≡ []
unfolding clap_on_literals
merge_passes = refl

pub copy_passes : fault_of sfbank_app copy_words ≡ []
unfolding clap_on_literals
copy_passes = refl

pub play_passes : fault_of sfbank_app play_words ≡ []
unfolding clap_on_literals
play_passes = refl

pub canon_passes : fault_of sfbank_app canon_words ≡ []
unfolding clap_on_literals
canon_passes = refl

pub tidy_passes : fault_of sfbank_app tidy_words ≡ []
unfolding clap_on_literals
tidy_passes = refl

pub keep_input_passes : fault_of sfbank_app keep_input_words ≡ []
unfolding clap_on_literals
keep_input_passes = refl

pub live_passes : fault_of sfbank_app live_words ≡ []
unfolding clap_on_literals
live_passes = refl

pub live_standard_passes : fault_of sfbank_app live_standard_words ≡ []
unfolding clap_on_literals
live_standard_passes = refl

pub unpack_passes : fault_of sfbank_app unpack_words ≡ []
unfolding clap_on_literals
unpack_passes = refl

pub pack_passes : fault_of sfbank_app pack_words ≡ []
unfolding clap_on_literals
pack_passes = refl
