use Rattle.std.proofs.Common.{◌≡◌, ◌∙◌, ◌++◌, List, ap, ap₂, map}
use Rattle.std.proofs.lemmas.Result.{IfOk-weaker}
use Rattle.std.specs.List.{fold}
use Rattle.clap.specs.Words.{App, Text, app_of, with_subcommand}
use Rattle.program_commands.specs.declared.commands.Entry.{Entry}
use Rattle.program_commands.specs.declared.commands.WordParsers.{WordParsers}
use Rattle.program_commands.specs.Commands.{Argument, app_with, command_in, command_table, parsers_of, program_app}
use Rattle.program_commands.specs.Commands.{shape_for}
use Rattle.program_commands.proofs.CommandLaws.{shapes_of, two_tables}
use Rattle.program_commands.proofs.commands.sfbank_command.Goals as goal

-- The tables of the code are those of the definitions.
pub returns : goal.returns
returns c =
    let given : WordParsers = c.word_parsers-parsers.result in
    let words = c.word_parsers-parsers.ensures in
    let parsers : given ≡ parsers_of words.0 = words.2 in
    let first : List Entry = c.commands_to_live.result.now in
    let last : List Entry = c.commands_from_map.result.now in
    let table : map command_in first ++ map command_in last ≡ command_table =
    ap₂ (λ (a b : List (Text × List Argument)). a ++ b) c.commands_to_live.ensures c.commands_from_map.ensures in
    let begun : app_of c.in_ok-begun.begun ≡ fold with_subcommand program_app (shapes_of given first) =
    c.in_ok-begun.ensures
    ∙ ap (λ (a : App). fold with_subcommand a (shapes_of given first)) c.in_ok-command.ensures in
    let all : fold with_subcommand (app_of c.in_ok-begun.begun) (shapes_of given last)
    ≡ app_with (parsers_of words.0) =
    ap (λ (a : App). fold with_subcommand a (shapes_of given last)) begun
    ∙ two_tables given program_app first last
    ∙ ap₂ (λ (p : WordParsers) (cs : List (Text × List Argument)). fold with_subcommand program_app
    (map (shape_for p) cs)) parsers table in
    IfOk-weaker c.with_commands-2.result _ _ (λ command is. (words.0, words.1, is ∙ all))
    c.with_commands-2.ensures
