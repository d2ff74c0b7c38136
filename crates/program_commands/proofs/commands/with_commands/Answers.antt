use Rattle.std.proofs.Common.{◌≡◌, ◌∙◌, List, ap, ap₂, arith, map, take, true}
use Rattle.std.proofs.lemmas.List.{take_all}
use Rattle.std.specs.List.{fold}
use Rattle.clap.specs.Words.{Shape, app_of, shape_of, with_subcommand}
use Rattle.program_commands.specs.declared.commands.Entry.{Entry}
use Rattle.program_commands.specs.Commands.{command_in, shape_for}
use Rattle.program_commands.proofs.CommandLaws.{adds_plain, one_command_more}
use Rattle.program_commands.proofs.commands.with_commands.Goals as goal

-- Each entry adds its command.
pub loop-entry-preserved : goal.loop-entry-preserved
loop-entry-preserved c =
    let plain : (shape_of c.in_ok-subcommand.subcommand).is_plain ≡ true =
    ap (λ (s : Shape). s.is_plain) c.in_ok-subcommand.ensures in
    adds_plain _ _ _ plain c.in_ok-command.ensures
    ∙ ap₂ with_subcommand c.loop-entry.invariant c.in_ok-subcommand.ensures
    ∙ one_command_more (λ entry. shape_for c.args.parsers (command_in entry)) (app_of c.args.command) c.args.entries.now
    c.loop-entry.entry-index _ c.loop-entry-test.true

-- All entries are added.
pub returns : goal.returns
returns c =
    let all : take c.loop-entry.entry-index c.args.entries.now ≡ c.args.entries.now = take_all _ _ (omega arith) in
    c.loop-entry.invariant ∙ ap (λ (entries : List Entry). fold with_subcommand (app_of c.args.command)
    (map (λ entry. shape_for c.args.parsers (command_in entry)) entries)) all
