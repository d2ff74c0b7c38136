-- The operands of each request, and when the words of a command ask for it.
use Rattle.std.specs.Prelude.{◌≡◌, ◌≢◌, ◌<◌, ◌^◌, ℕ, suc, Bool, true, false, not, List, [], ◌∷◌, ◌++◌, codes, length}
use Rattle.std.specs.Prelude.{◌||◌, if◌then◌else◌, is_some, map, nat_le, option_map, take_while}
use Rattle.std.specs.Prelude.{◌⊎◌, MatchResult, Option, Result, Some, None, IfSome, IsSome}
use Rattle.std.specs.Borrow.{Bor}
use Rattle.std.specs.List.{AllZip, list_any}
use Rattle.std.specs.Str.{bytes_eq}
use Rattle.std.specs.Str.Parse.{IsNumeral, digits_value, without_leading_plus}
use Rattle.clap.specs.Words.{App, HasKind, Row, Text, all_of, fault_of, first_of, found_of, is_simple, one_of, rows_of}
use Rattle.clap.specs.Words.{subcommand_of}
use Rattle.clap.specs.declared.error.Error.{Error}
use Rattle.clap.specs.declared.parser.matches.ArgMatches.{ArgMatches}
use Rattle.bank_changes.specs.declared.members.Owner.TheVariants.{Preset, Inst}
use Rattle.sf_base.specs.Names.{IsName}
use Rattle.plan_presets.specs.declared.numbers.CopiedMember.{CopiedMember}
use Rattle.plan_presets.specs.declared.numbers.CopiedMember.TheVariants as copied
use Rattle.plan_presets.specs.declared.numbers.PresetNumbers.{PresetNumbers}
use Rattle.plan_presets.specs.declared.numbers.TakenPreset.{TakenPreset}
use Rattle.wave_file.specs.declared.options.ReadOptions.{ReadOptions}
use Rattle.program_commands.specs.declared.explain.Topic.{Topic}
use Rattle.program_commands.specs.declared.explain.Topic.TheVariants as subject
use Rattle.program_commands.specs.declared.kits.KitPaths.{KitPaths}
use Rattle.program_commands.specs.declared.kits.KitSource.{KitSource}
use Rattle.program_commands.specs.declared.kits.KitSource.TheVariants as source
use Rattle.program_commands.specs.declared.kits.NewPreset.{NewPreset}
use Rattle.program_commands.specs.declared.paths.LastPaths.{LastPaths}
use Rattle.program_commands.specs.declared.plans.CopyPaths.{CopyPaths}
use Rattle.program_commands.specs.declared.plans.KeepPaths.{KeepPaths}
use Rattle.program_commands.specs.declared.plans.Kept.{Kept}
use Rattle.program_commands.specs.declared.plans.Kept.TheVariants as choice
use Rattle.program_commands.specs.declared.plans.MergePaths.{MergePaths}
use Rattle.program_commands.specs.declared.plans.PlanPaths.{PlanPaths}
use Rattle.program_commands.specs.declared.plans.TakePaths.{TakePaths}
use Rattle.program_commands.specs.declared.plans.TidyPaths.{TidyPaths}
use Rattle.program_commands.specs.declared.plans.Zones.{Zones}
use Rattle.program_commands.specs.declared.plans.Zones.TheVariants as zones
use Rattle.program_commands.specs.declared.recordings.ImportPaths.{ImportPaths}
use Rattle.program_commands.specs.declared.recordings.ReplacePaths.{ReplacePaths}
use Rattle.program_commands.specs.declared.recordings.WaveAllPaths.{WaveAllPaths}
use Rattle.program_commands.specs.declared.words.Request.{Request}
use Rattle.program_commands.specs.declared.words.Request.TheVariants.{Apply, ApplyOnly, Canon, Check, Copy, Diff}
use Rattle.program_commands.specs.declared.words.Request.TheVariants.{Explain, Import, ImportKit, Keep, Live, Map}
use Rattle.program_commands.specs.declared.words.Request.TheVariants.{Merge, New, Pack, Page, Play, Replace, Script, Show}
use Rattle.program_commands.specs.declared.words.Request.TheVariants.{Take, Tidy, Unpack, Wave, WaveAll}
use Rattle.program_commands.specs.declared.words.Drawn.{Drawn}
use Rattle.program_commands.specs.declared.words.Drawn.TheVariants.{Ranges, Waveform}
use Rattle.program_commands.specs.declared.words.Forms.{Forms}
use Rattle.program_commands.specs.declared.words.Forms.TheVariants.{Every, Neutral}

-- an operand of a request with its name and its value: a word, the path of an input, that of an output, a path that is
-- not `-`, a name of a member, a number with its width in bits, the same as the value of an option, a flag, a flag that
-- is given, a flag that is not given, an option or operand that is not used, an option and a flag of which at most one
-- is given, the numbers of a preset, these with its name, presets, presets to copy, recordings before the paths of two
-- outputs, a topic of `explain`, or a condition on the request
pub data Operand : Type 0 where
  Word : Text → Text → Operand
  Input : Text → Text → Operand
  Output : Text → Text → Operand
  Path : Text → Text → Operand
  Name : Text → List ℕ → Operand
  Number : Text → ℕ → ℕ → Operand
  Decimal : Text → ℕ → ℕ → Operand
  Flag : Text → Bool → Operand
  Set : Text → Operand
  Unset : Text → Operand
  Absent : Text → Operand
  NotBoth : Text → Text → Operand
  Numbers : Text → PresetNumbers → Operand
  Named : Text → NewPreset → Operand
  Presets : Text → List PresetNumbers → Operand
  Taken : Text → List TakenPreset → Operand
  Recordings : Text → List Text → Text → Text → Operand
  About : Text → Topic → Operand
  Condition : Bool → Operand

-- whether only neutral forms are accepted
abbrev pub is_neutral : Forms → Bool
is_neutral Every = false
is_neutral Neutral = true

-- the word for what is drawn
abbrev pub drawn_word : Drawn → Text
drawn_word (Ranges (Preset n)) = codes "preset"
drawn_word (Ranges (Inst n)) = codes "inst"
drawn_word (Waveform n) = codes "sample"

-- its number in its list
abbrev pub drawn_number : Drawn → ℕ
drawn_number (Ranges (Preset n)) = n
drawn_number (Ranges (Inst n)) = n
drawn_number (Waveform n) = n

-- the operands that name what is drawn
abbrev pub drawn_operands : Drawn → List Operand
drawn_operands drawn = Word (codes "MEMBER") (drawn_word drawn) ∷ Number (codes "N") 32 (drawn_number drawn) ∷ []

-- an option with the path of an output, if it is used
abbrev pub optional_output : Text → Option (Bor Text) → Operand
optional_output name (Some path) = Output name path.now
optional_output name None = Absent name

-- the operands of a command that finds edits: what a dry run prints is not saved
abbrev pub plan_operands : PlanPaths → List Operand
plan_operands paths =
    Input (codes "IN") paths.input.now
    ∷ Output (codes "OUT") paths.out.now
    ∷ Output (codes "UNDO") paths.undo.now
    ∷ Flag (codes "dry-run") paths.dry_run
    ∷ optional_output (codes "script") paths.script
    ∷ NotBoth (codes "script") (codes "dry-run")
    ∷ Flag (codes "no-comments") paths.no_comments
    ∷ Flag (codes "force") paths.force
    ∷ []

-- whether only the zones are kept that a note selects
abbrev pub is_played : Zones → Bool
is_played zones.All = false
is_played zones.Played = true

-- the operands that name what is kept: exactly one of two options is used, and the flag for zones only with notes
abbrev pub kept_operands : Kept → List Operand
kept_operands (choice.Notes path kept) =
    Input (codes "notes") path.now ∷ Absent (codes "preset") ∷ Flag (codes "zones") (is_played kept) ∷ []
kept_operands (choice.Presets presets) =
    Presets (codes "preset") presets.items ∷ Absent (codes "notes") ∷ Unset (codes "zones") ∷ []

-- the operands of `keep`
abbrev pub keep_operands : KeepPaths → List Operand
keep_operands keep = plan_operands keep.paths ++ kept_operands keep.kept

-- an option with a name of a member, if it is used
abbrev pub optional_name : Text → Option (List ℕ) → Operand
optional_name option (Some name) = Name option name
optional_name option None = Absent option

-- an option with the numbers of a preset, if it is used
abbrev pub optional_preset : Text → Option PresetNumbers → Operand
optional_preset name (Some numbers) = Numbers name numbers
optional_preset name None = Absent name

-- the word for what is copied
abbrev pub member_word : CopiedMember → Text
member_word (copied.Preset n numbers) = codes "preset"
member_word (copied.Inst n) = codes "inst"
member_word (copied.Sample n) = codes "sample"

-- its number in its list
abbrev pub member_number : CopiedMember → ℕ
member_number (copied.Preset n numbers) = n
member_number (copied.Inst n) = n
member_number (copied.Sample n) = n

-- the numbers that the copy of a preset gets
abbrev pub copy_numbers : CopiedMember → Option PresetNumbers
copy_numbers (copied.Preset n numbers) = numbers
copy_numbers (copied.Inst n) = None
copy_numbers (copied.Sample n) = None

-- the operands that name what is copied
abbrev pub member_operands : CopiedMember → List Operand
member_operands member =
    Word (codes "MEMBER") (member_word member)
    ∷ Number (codes "N") 32 (member_number member)
    ∷ optional_preset (codes "as") (copy_numbers member)
    ∷ []

-- the operands of `copy`
abbrev pub copy_operands : CopyPaths → List Operand
copy_operands copy =
    plan_operands copy.paths ++ optional_name (codes "name") copy.name ∷ member_operands copy.member

-- the operands of `merge`
abbrev pub merge_operands : MergePaths → List Operand
merge_operands merge =
    plan_operands merge.paths ++ Input (codes "FROM") merge.from.now ∷ Number (codes "shift") 16 merge.shift ∷ []

-- the operands of `take`
abbrev pub take_operands : TakePaths → List Operand
take_operands take =
    plan_operands take.paths ++ Input (codes "FROM") take.from.now ∷ Taken (codes "preset") take.presets.items ∷ []

-- the operands of `tidy`
abbrev pub tidy_operands : TidyPaths → List Operand
tidy_operands tidy = plan_operands tidy.paths ++ Flag (codes "merge") tidy.merge ∷ []

-- the options of reading a recording: a channel, which counts from 1 in the words, a root key and a seed
abbrev pub optional_channel : Option ℕ → Operand
optional_channel (Some channel) = Decimal (codes "channel") 16 (suc channel)
optional_channel None = Absent (codes "channel")

abbrev pub optional_key : Option ℕ → Operand
optional_key (Some key) = Decimal (codes "key") 7 key
optional_key None = Absent (codes "key")

abbrev pub optional_seed : Option ℕ → Operand
optional_seed (Some seed) = Decimal (codes "dither") 64 seed
optional_seed None = Absent (codes "dither")

abbrev pub option_operands : ReadOptions → List Operand
option_operands options =
    optional_channel options.channel ∷ optional_key options.key ∷ optional_seed options.dither ∷ []

-- the options that make a kit are not used
abbrev pub no_kit_operands : List Operand
no_kit_operands = Absent (codes "kit") ∷ Absent (codes "instrument") ∷ Absent (codes "preset") ∷ []

-- the operands of `import` of one recording
abbrev pub import_operands : ImportPaths → List Operand
import_operands paths =
    Input (codes "IN") paths.input.now
    ∷ Recordings (codes "WAVE") (paths.wave.now ∷ []) paths.out.now paths.undo.now
    ∷ optional_name (codes "name") paths.name
    ∷ Flag (codes "force") paths.force
    ∷ no_kit_operands
    ++ option_operands paths.options

-- the recordings that the words of a kit name: none where a table names them
abbrev pub source_files : KitSource → List Text
source_files (source.Files files) = map (λ file. file.now) files.items
source_files (source.Table path) = []

-- the table of a kit, if it has one
abbrev pub table_operand : KitSource → Operand
table_operand (source.Files files) = Absent (codes "kit")
table_operand (source.Table path) = Input (codes "kit") path.now

-- whether there are enough recordings for a kit: one, if an instrument or a preset is named, and two otherwise
abbrev pub is_kit : Bool → KitSource → Bool
is_kit is_named (source.Files files) = nat_le (if is_named then 1 else 2) (length files.items)
is_kit is_named (source.Table path) = true

-- an option with the numbers and the name of a preset, if it is used
abbrev pub optional_named : Text → Option NewPreset → Operand
optional_named option (Some preset) = Named option preset
optional_named option None = Absent option

-- the operands of `import` of a kit
abbrev pub kit_operands : KitPaths → List Operand
kit_operands kit =
    Input (codes "IN") kit.input.now
    ∷ Recordings (codes "WAVE") (source_files kit.source) kit.out.now kit.undo.now
    ∷ table_operand kit.source
    ∷ Condition (is_kit (is_some kit.instrument || is_some kit.preset) kit.source)
    ∷ optional_name (codes "instrument") kit.instrument
    ∷ optional_named (codes "preset") kit.preset
    ∷ Absent (codes "name")
    ∷ Flag (codes "force") kit.force
    ∷ option_operands kit.options

-- the operands of `replace`
abbrev pub replace_operands : ReplacePaths → List Operand
replace_operands paths =
    Input (codes "IN") paths.input.now
    ∷ Number (codes "S") 32 paths.sample
    ∷ Input (codes "WAVE") paths.wave.now
    ∷ Output (codes "OUT") paths.out.now
    ∷ Output (codes "UNDO") paths.undo.now
    ∷ Flag (codes "force") paths.force
    ∷ option_operands paths.options

-- an option with a number of 32 bits, if it is used
abbrev pub optional_number : Text → Option ℕ → Operand
optional_number option (Some n) = Decimal option 32 n
optional_number option None = Absent option

-- the operands of `wave` of all samples
abbrev pub wave_all_operands : WaveAllPaths → List Operand
wave_all_operands paths =
    Input (codes "IN") paths.input.now
    ∷ Path (codes "all") paths.folder.now
    ∷ optional_number (codes "instrument") paths.instrument
    ∷ Flag (codes "force") paths.force
    ∷ Absent (codes "S")
    ∷ Absent (codes "OUT")
    ∷ Unset (codes "pair")
    ∷ []

-- the operand of `explain`
abbrev pub topic_operands : Topic → List Operand
topic_operands topic = About (codes "TOPIC") topic ∷ []

-- the operands of each request
abbrev pub operands_of : Request → List Operand
operands_of (Apply paths) =
    Input (codes "IN") paths.input.now
    ∷ Input (codes "SCRIPT") paths.script.now
    ∷ Output (codes "OUT") paths.out.now
    ∷ Output (codes "UNDO") paths.undo.now
    ∷ Flag (codes "neutral") (is_neutral paths.forms)
    ∷ Flag (codes "force") paths.force
    ∷ Unset (codes "no-undo")
    ∷ []
operands_of (ApplyOnly paths) =
    Input (codes "IN") paths.input.now
    ∷ Input (codes "SCRIPT") paths.script.now
    ∷ Output (codes "OUT") paths.out.now
    ∷ Absent (codes "UNDO")
    ∷ Flag (codes "neutral") (is_neutral paths.forms)
    ∷ Unset (codes "force")
    ∷ Set (codes "no-undo")
    ∷ []
operands_of (Canon paths) = Input (codes "IN") paths.input.now ∷ Output (codes "OUT") paths.out.now ∷ []
operands_of (Check paths) = Input (codes "IN") paths.input.now ∷ Flag (codes "strict") paths.strict ∷ []
operands_of (Copy copy) = copy_operands copy
operands_of (Diff paths) =
    Input (codes "A") paths.first.now
    ∷ Input (codes "B") paths.second.now
    ∷ Output (codes "OUT") paths.out.now
    ∷ Flag (codes "no-comments") paths.no_comments
    ∷ Flag (codes "force") paths.force
    ∷ []
operands_of (Explain topic) = topic_operands topic
operands_of (Import paths) = import_operands paths
operands_of (ImportKit kit) = kit_operands kit
operands_of (Keep keep) = keep_operands keep
operands_of (Live paths) =
    Input (codes "IN") paths.input.now ∷ Path (codes "PCM") paths.pcm.now ∷ Flag (codes "force") paths.force ∷ []
operands_of (Map paths) =
    Input (codes "IN") paths.input.now
    ∷ Word (codes "MEMBER") (drawn_word paths.drawn)
    ∷ Number (codes "N") 32 (drawn_number paths.drawn)
    ∷ Output (codes "OUT") paths.out.now
    ∷ Flag (codes "force") paths.force
    ∷ []
operands_of (Merge merge) = merge_operands merge
operands_of (New bank) =
    Output (codes "OUT") bank.out.now ∷ Number (codes "minor") 16 bank.minor ∷ Flag (codes "force") bank.force ∷ []
operands_of (Pack paths) =
    Path (codes "FOLDER") paths.folder.now ∷ Output (codes "OUT") paths.out.now ∷ Flag (codes "force") paths.force ∷ []
operands_of (Page paths) =
    Input (codes "IN") paths.input.now ∷ Output (codes "OUT") paths.out.now ∷ Flag (codes "force") paths.force ∷ []
operands_of (Play paths) =
    Input (codes "IN") paths.input.now
    ∷ Input (codes "NOTES") paths.notes.now
    ∷ Output (codes "OUT") paths.out.now
    ∷ Flag (codes "force") paths.force
    ∷ []
operands_of (Replace paths) = replace_operands paths
operands_of (Script paths) =
    Input (codes "IN") paths.input.now
    ∷ Output (codes "OUT") paths.out.now
    ∷ Flag (codes "no-points") paths.no_points
    ∷ Flag (codes "no-comments") paths.no_comments
    ∷ Flag (codes "force") paths.force
    ∷ []
operands_of (Show paths) =
    Input (codes "IN") paths.input.now ∷ Flag (codes "zones") paths.zones ∷ Flag (codes "uses") paths.uses ∷ []
operands_of (Take take) = take_operands take
operands_of (Tidy tidy) = tidy_operands tidy
operands_of (Unpack paths) =
    Input (codes "IN") paths.input.now ∷ Path (codes "FOLDER") paths.folder.now ∷ Flag (codes "force") paths.force ∷ []
operands_of (Wave paths) =
    Input (codes "IN") paths.input.now
    ∷ Number (codes "S") 32 paths.sample
    ∷ Output (codes "OUT") paths.out.now
    ∷ Flag (codes "pair") paths.pair
    ∷ Flag (codes "force") paths.force
    ∷ Absent (codes "all")
    ∷ Absent (codes "instrument")
    ∷ []
operands_of (WaveAll paths) = wave_all_operands paths

-- the command of each request
abbrev pub command_of : Request → Text
command_of (Apply paths) = codes "apply"
command_of (ApplyOnly paths) = codes "apply"
command_of (Canon paths) = codes "canon"
command_of (Check paths) = codes "check"
command_of (Copy copy) = codes "copy"
command_of (Diff paths) = codes "diff"
command_of (Explain topic) = codes "explain"
command_of (Import paths) = codes "import"
command_of (ImportKit kit) = codes "import"
command_of (Keep keep) = codes "keep"
command_of (Live paths) = codes "live"
command_of (Map paths) = codes "map"
command_of (Merge merge) = codes "merge"
command_of (New bank) = codes "new"
command_of (Pack paths) = codes "pack"
command_of (Page paths) = codes "page"
command_of (Play paths) = codes "play"
command_of (Replace paths) = codes "replace"
command_of (Script paths) = codes "script"
command_of (Show paths) = codes "show"
command_of (Take take) = codes "take"
command_of (Tidy tidy) = codes "tidy"
command_of (Unpack paths) = codes "unpack"
command_of (Wave paths) = codes "wave"
command_of (WaveAll paths) = codes "wave"

-- what clap found for a command, under the names of its operands
abbrev pub rows_in : ArgMatches → List Row
rows_in matches = rows_of (found_of matches)

-- the word for the standard input and the standard output
abbrev pub standard_word : Text
standard_word = codes "-"

-- the paths of the two
abbrev pub standard_input : Text
standard_input = codes "/dev/stdin"

abbrev pub standard_output : Text
standard_output = codes "/dev/stdout"

-- the path of the input that a word names, and of the output: any other word is the path itself
abbrev pub input_named : Text → Text
input_named word = if bytes_eq word standard_word then standard_input else word

abbrev pub output_named : Text → Text
output_named word = if bytes_eq word standard_word then standard_output else word

-- the text is the numeral of n in base 10, which may begin with a plus, and n has at most this many bits
abbrev pub IsDecimal : ℕ → Text → ℕ → Type 0
IsDecimal bits text n =
    IsNumeral 10 (without_leading_plus text) × (n ≡ digits_value 10 (without_leading_plus text)) × (n < 2 ^ bits)

-- the word for the generators
abbrev pub generators_word : Text
generators_word = codes "generators"

-- the word is this topic: the word for the generators, the numeral of a number of 32 bits, or any other word, a name
abbrev pub IsTopic : Text → Topic → Type 0
IsTopic text (subject.Number n) = IsDecimal 32 text n
IsTopic text (subject.Name name) =
    (name.now ≡ text) × (text ≢ generators_word) × ((n : ℕ) → IsDecimal 32 text n → ⊥)
IsTopic text subject.Generators = text ≡ generators_word

-- the code of the colon
abbrev pub colon : ℕ
colon = 58

-- the text is BANK:NUMBER with the numbers of the preset
abbrev pub IsPreset : Text → PresetNumbers → Type 0
IsPreset text preset =
    (bank : Text)
    × (number : Text)
    × (text ≡ bank ++ colon ∷ number)
    × IsDecimal 16 bank preset.bank
    × IsDecimal 16 number preset.number

-- the code of the equals sign
abbrev pub equals : ℕ
equals = 61

-- the text is BANK:NUMBER of a preset whose copy gets the same numbers, or FROM=TO with both
abbrev pub IsTakenPreset : Text → TakenPreset → Type 0
IsTakenPreset text taken =
    (IsPreset text taken.from × (taken.to ≡ taken.from))
    ⊎ ((from : Text)
    × (to : Text)
    × (text ≡ from ++ equals ∷ to)
    × IsPreset from taken.from
    × IsPreset to taken.to)

-- the option has one or more values, and each names a value of the list
abbrev pub AreValues : {A : Type 0} → (Text → A → Type 0) → List Row → Text → List A → Type 0
AreValues IsNamed rows name values =
    (texts : List Text) × (all_of name rows ≡ Some texts) × (0 < length texts) × AllZip IsNamed texts values

-- the words are those of recordings, then that of the bank that is written, and then that of the undo script
abbrev pub ArePaths : List Text → List Text → Text → Text → Type 0
ArePaths words recordings out undo =
    (waves : List Text)
    × (bank : Text)
    × (script : Text)
    × (words ≡ waves ++ bank ∷ script ∷ [])
    × (map input_named waves ≡ recordings)
    × (output_named bank ≡ out)
    × (output_named script ≡ undo)

-- the recordings and the two outputs of words
abbrev pub paths_in : LastPaths → List Text × Text × Text
paths_in paths = (map (λ word. input_named word.now) paths.recordings.now, paths.out.now, paths.undo.now)

-- the words give the operand its value: a flag that is not given is false
abbrev pub IsGiven : List Row → Operand → Type 0
IsGiven rows (Word name text) = first_of name rows ≡ Some text
IsGiven rows (Input name path) = option_map input_named (first_of name rows) ≡ Some path
IsGiven rows (Output name path) = option_map output_named (first_of name rows) ≡ Some path
IsGiven rows (Path name path) = (first_of name rows ≡ Some path) × (path ≢ standard_word)
IsGiven rows (Name option name) = (first_of option rows ≡ Some name) × IsName name
IsGiven rows (Number name bits n) = (text : Text) × (one_of name rows ≡ Some text) × IsDecimal bits text n
IsGiven rows (Decimal option bits n) = (text : Text) × (first_of option rows ≡ Some text) × IsDecimal bits text n
IsGiven rows (Flag name value) =
    (one_of name rows ≡ Some (codes "true") → value ≡ true)
    × (one_of name rows ≡ Some (codes "false") → value ≡ false)
    × (one_of name rows ≡ None → value ≡ false)
IsGiven rows (Set name) = first_of name rows ≡ Some (codes "true")
IsGiven rows (Unset name) = first_of name rows ≢ Some (codes "true")
IsGiven rows (Absent name) = first_of name rows ≡ None
IsGiven rows (NotBoth option flag) = (first_of option rows ≡ None) ⊎ (first_of flag rows ≢ Some (codes "true"))
IsGiven rows (Numbers name numbers) = (text : Text) × (first_of name rows ≡ Some text) × IsPreset text numbers
IsGiven rows (Named option preset) =
    (text : Text)
    × (all_of option rows ≡ Some (text ∷ preset.name ∷ []))
    × IsPreset text preset.numbers
    × IsName preset.name
IsGiven rows (Presets name presets) = AreValues IsPreset rows name presets
IsGiven rows (Taken name presets) = AreValues IsTakenPreset rows name presets
IsGiven rows (Recordings name recordings out undo) =
    (words : List Text) × (all_of name rows ≡ Some words) × ArePaths words recordings out undo
IsGiven rows (About name topic) = (text : Text) × (first_of name rows ≡ Some text) × IsTopic text topic
IsGiven rows (Condition holds) = holds ≡ true

-- the words give each operand its value
abbrev pub AreGiven : List Row → List Operand → Type 0
AreGiven rows [] = Unit {0}
AreGiven rows (operand ∷ rest) = IsGiven rows operand × AreGiven rows rest

-- P holds for the value, and there is one wherever P holds for any
abbrev pub FindsOne : {A : Type 0} → Option A → (A → Type 0) → Type 0
FindsOne {A} result P = IfSome result P × ((value : A) → P value → IsSome result)

-- the command that was used is that of the request, and gives its operands their values
abbrev pub AsksFor : Option (Text × List Row) → Request → Type 0
AsksFor None request = ⊥
AsksFor (Some used) request = (used.0 ≡ command_of request) × AreGiven used.1 (operands_of request)

-- these words ask a program with these commands for this request, if clap states how it reads such commands
abbrev pub IsParsedBy : App → List Text → Request → Type 0
IsParsedBy app words request = is_simple app ≡ true → AsksFor (subcommand_of app words) request

-- the command that was used asks for no request
abbrev pub AsksForNone : Option (Text × List Row) → Type 0
AsksForNone used = (request : Request) → AsksFor used request → ⊥

-- there is a request only if clap finds no fault in the words; an error is `OutOfMemory`, or has a kind of the fault,
-- or the words ask for no request
abbrev pub FailsByFault : App → List Text → Result Request Error → Type 0
FailsByFault app words result = MatchResult result
    (λ request. fault_of app words ≡ [])
    (λ e. HasKind (fault_of app words) e ⊎ AsksForNone (subcommand_of app words))

-- the word is a flag that asks for explanations of faults, or for reports
abbrev pub is_explaining : Text → Bool
is_explaining word = bytes_eq word (codes "--explain") || bytes_eq word (codes "--report")

-- whether the words ask for what a terminal gets: one of these flags is before the first `--`
abbrev pub asks_for_explanations : List Text → Bool
asks_for_explanations words = list_any is_explaining (take_while (λ word. not (bytes_eq word (codes "--"))) words)
