use Rattle.std.proofs.Common.{◌≡◌, take, map}
use Rattle.std.specs.List.{fold}
use Rattle.clap.specs.Words.{app_of, with_subcommand}
use Rattle.program_commands.specs.Commands.{command_in, shape_for}
use Rattle.program_commands.proofs.commands.with_commands.Given as goal

-- the program has the commands so far
abbrev pub invariant-loop-entry : goal.invariant-loop-entry
invariant-loop-entry l = app_of l.command ≡ fold with_subcommand (app_of l.fn.command)
    (map (λ entry. shape_for l.parsers (command_in entry)) (take l.entry-index l.entries))
