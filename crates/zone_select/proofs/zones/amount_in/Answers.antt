use Rattle.std.proofs.Common.{sym}
use Rattle.zone_select.proofs.AmountLaws.{found, missing}
use Rattle.zone_select.proofs.zones.amount_in.Goals as goal

pub returns-in-Ok : goal.returns-in-Ok
returns-in-Ok c =
    sym (found c.args.entries.now c.args.operator c.in-Ok.at (0, 0) c.requires c.in-Ok.ensures.found)

pub returns-in-Err : goal.returns-in-Err
returns-in-Err c = sym (missing c.args.entries.now c.args.operator _ c.in-Err.ensures.absent)
