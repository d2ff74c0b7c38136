use Rattle.std.proofs.Common.{map}
use Rattle.std.proofs.lemmas.Result.{IfOk-weaker}
use Rattle.clap.specs.Words.{app_of}
use Rattle.program_commands.proofs.RequestLaws.{asked_of_sfbank, fails_as_sfbank}
use Rattle.program_commands.proofs.words.request_of.Goals as goal

-- The command has the app of sfbank.
pub returns-clause-request : goal.returns-clause-request
returns-clause-request g c = IfOk-weaker c.parse_request.result _ _
    (asked_of_sfbank {app = app_of c.in_ok-command.command} c.in_ok-command.ensures
    (map g.S.AsStr.text c.args.words.now))
    c.parse_request.ensures.request

-- It fails as sfbank does.
pub returns-clause-fault : goal.returns-clause-fault
returns-clause-fault g c =
    fails_as_sfbank {app = app_of c.in_ok-command.command} c.in_ok-command.ensures (map g.S.AsStr.text c.args.words.now)
    c.parse_request.result c.parse_request.ensures.fault
