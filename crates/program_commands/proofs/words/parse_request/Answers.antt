use Rattle.std.proofs.Common.{inr, map}
use Rattle.clap.specs.Words.{app_of}
use Rattle.program_commands.proofs.RequestLaws.{none_asked}
use Rattle.program_commands.proofs.words.parse_request.Goals as goal

-- No request is found among the matches of the words.
pub returns-clause-fault : goal.returns-clause-fault
returns-clause-fault g c free =
    inr (none_asked (app_of c.args.command.now) (map g.S.AsStr.text c.args.words.now) c.in_ok-matches.matches
    c.in_ok-found.found c.in_ok-matches.ensures.ok.2 free c.in_ok-found.ensures c.in-None.is)
