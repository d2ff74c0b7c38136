use Rattle.std.proofs.Common.{sym}
use Rattle.program_commands.specs.Words.{rows_in}
use Rattle.program_commands.proofs.ChannelLaws.{no_channel}
use Rattle.program_commands.proofs.recordings.read_channel.Goals as goal

-- The text is no number of a channel.
pub returns-in_err-parse_channel-in-Some : goal.returns-in_err-parse_channel-in-Some
returns-in_err-parse_channel-in-Some c =
    rw c.from_residual.ensures (no_channel (rows_in c.args.matches.now) c.in-Some.text.now
    (sym c.in-Some.ensures) c.in_err-parse_channel-in-Some.ensures)
