use Rattle.std.proofs.Common.{◌≡◌, take}
use Rattle.clap.specs.Words.{app_of}
use Rattle.program_commands.proofs.CommandLaws.{command_so_far}
use Rattle.program_commands.proofs.commands.command_of.Given as goal

-- the command has the arguments so far
abbrev pub invariant-loop-operand : goal.invariant-loop-operand
invariant-loop-operand l =
    app_of l.command ≡ command_so_far l.parsers l.entry.name.now (take l.operand-index l.operand-items)
