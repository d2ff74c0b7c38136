use Rattle.std.proofs.Common.{[], arith}
use Rattle.mixer.proofs.AheadLaws.{within_more}
use Rattle.mixer.proofs.ahead.Ahead.fill.Goals as goal

pub join-requires-clause-room : goal.join-requires-clause-room
join-requires-clause-room c = within_more 0 32767 c.clear.new.self (omega arith) c.clear.ensures.silent.within

pub returns-clause-sums : goal.returns-clause-sums
returns-clause-sums c = c.join.ensures.sums [] c.clear.ensures.silent
