-- What clap reads of a command that is built argument by argument.
use Rattle.std.proofs.Common.{◌≡◌, ◌∙◌, ◌&&◌, ◌++◌, ◌∷◌, ◌<◌, ◌+◌, ℕ, Bool, true, false, not, List, [], ap, ap₂, map}
use Rattle.std.proofs.Common.{get_or, length, sym, refl, take}
use Rattle.std.specs.List.{fold}
use Rattle.std.proofs.lemmas.List.{take_more, map-append}
use Rattle.clap.specs.Words.{AddsSubcommand, App, Rule, Shape, Text, app_of, new_app, shape_of, with_rule}
use Rattle.clap.specs.Words.{with_subcommand}
use Rattle.clap.specs.declared.builder.Command.{Command}
use Rattle.std.proofs.lemmas.List.Sums.{fold-append}
use Rattle.program_commands.specs.declared.commands.Entry.{Entry}
use Rattle.program_commands.specs.declared.commands.Operand.{Operand}
use Rattle.program_commands.specs.declared.commands.WordParsers.{WordParsers}
use Rattle.program_commands.specs.Commands.{argument_of, command_in, explain_flag, rule_for, shape_for}

-- the third of four or more conditions that hold is false where it is a `not`
third : (a b g rest : Bool) → (a && (b && (not g && rest))) ≡ true → g ≡ false
third true true false rest h = refl
third true true true rest h = absurd cc
third true false g rest h = absurd cc
third false b g rest h = absurd cc

-- a plain command is added as it is
pub adds_plain : (all sub new : Command) → (shape_of sub).is_plain ≡ true → AddsSubcommand all sub new
    → app_of new ≡ with_subcommand (app_of all) (shape_of sub)
adds_plain all sub new plain adds = adds.shape (third _ _ _ _ plain)

-- what clap reads of operands
abbrev rules_of : WordParsers → List Operand → List Rule
rules_of parsers operands = map (rule_for parsers) (map argument_of operands)

-- a command with these rules
abbrev app_of_rules : Text → List Rule → App
app_of_rules name rules = record (new_app name) { top = record (new_app name).top { rules = rules } }

-- a command with these operands
abbrev pub command_so_far : WordParsers → Text → List Operand → App
command_so_far parsers name operands = app_of_rules name (rules_of parsers operands)

-- the command with all its operands and the flag of every command
pub with_explain_flag : (parsers : WordParsers) (entry : Entry)
    → with_rule (command_so_far parsers entry.name.now entry.operands.now) (rule_for parsers explain_flag)
    ≡ record (new_app entry.name.now) { top = shape_for parsers (command_in entry) }
with_explain_flag parsers entry =
    sym (ap (app_of_rules entry.name.now)
    (map-append (rule_for parsers) (map argument_of entry.operands.now) (explain_flag ∷ [])))

-- the command with one operand more
pub one_operand_more : (parsers : WordParsers) (name : Text) (operands : List Operand) (i : ℕ) (d : Operand)
    → i < length operands
    → with_rule (command_so_far parsers name (take i operands)) (rule_for parsers (argument_of (get_or operands i d)))
    ≡ command_so_far parsers name (take (i + 1) operands)
one_operand_more parsers name operands i d lt =
    let split : rules_of parsers (take (i + 1) operands)
    ≡ rules_of parsers (take i operands) ++ rule_for parsers (argument_of (get_or operands i d)) ∷ [] =
    simp (take_more operands i d lt, map-append) in
    sym (ap (app_of_rules name) split)

-- the shapes of commands of the code
abbrev pub shapes_of : WordParsers → List Entry → List Shape
shapes_of parsers entries = map (λ entry. shape_for parsers (command_in entry)) entries

-- they are those of the commands with their arguments
shapes_by_arguments : (parsers : WordParsers) (entries : List Entry)
    → shapes_of parsers entries ≡ map (shape_for parsers) (map command_in entries)
shapes_by_arguments parsers [] = refl
shapes_by_arguments parsers (entry ∷ entries) =
    ap (λ (shapes : List Shape). shape_for parsers (command_in entry) ∷ shapes) (shapes_by_arguments parsers entries)

-- the program with the commands of two tables
pub two_tables : (parsers : WordParsers) (app : App) (first last : List Entry)
    → fold with_subcommand (fold with_subcommand app (shapes_of parsers first)) (shapes_of parsers last)
    ≡ fold with_subcommand app (map (shape_for parsers) (map command_in first ++ map command_in last))
two_tables parsers app first last =
    let all : shapes_of parsers first ++ shapes_of parsers last
    ≡ map (shape_for parsers) (map command_in first ++ map command_in last) =
    ap₂ (λ (a b : List Shape). a ++ b) (shapes_by_arguments parsers first) (shapes_by_arguments parsers last)
    ∙ sym (map-append (shape_for parsers) (map command_in first) (map command_in last)) in
    sym (fold-append with_subcommand app (shapes_of parsers first) (shapes_of parsers last))
    ∙ ap (λ (shapes : List Shape). fold with_subcommand app shapes) all

-- the program with one command more
pub one_command_more : (shape : Entry → Shape) (app : App) (entries : List Entry) (i : ℕ) (d : Entry)
    → i < length entries
    → with_subcommand (fold with_subcommand app (map shape (take i entries))) (shape (get_or entries i d))
    ≡ fold with_subcommand app (map shape (take (i + 1) entries))
one_command_more shape app entries i d lt =
    let split : map shape (take (i + 1) entries) ≡ map shape (take i entries) ++ shape (get_or entries i d) ∷ [] =
    simp (take_more entries i d lt, map-append) in
    let joined : fold with_subcommand app (map shape (take i entries) ++ shape (get_or entries i d) ∷ [])
    ≡ with_subcommand (fold with_subcommand app (map shape (take i entries))) (shape (get_or entries i d)) =
    fold-append with_subcommand app (map shape (take i entries)) (shape (get_or entries i d) ∷ []) in
    sym (ap (λ (xs : List Shape). fold with_subcommand app xs) split ∙ joined)
