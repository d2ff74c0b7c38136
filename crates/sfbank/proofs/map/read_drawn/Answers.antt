use Rattle.std.proofs.Common.{◌∙◌, ap}
use Rattle.sfbank.specs.Maps.{drawing, if_there}
use Rattle.sfbank.proofs.Maps.{map_read}
use Rattle.sfbank.proofs.CommandLaws.{map_fails}
use Rattle.sfbank.proofs.map.read_drawn.Goals as goal

pub returns-then-has_drawn : goal.returns-then-has_drawn
returns-then-has_drawn c =
    let d = c.args.drawn in
    let b = c.in-Ok.bank in
    map_read c.args.file.now d b c.in-Ok._counts c.has_drawn.result c.in-Ok.ensures c.has_drawn.ensures
    ∙ ap (λ there. if_there there d (drawing b d)) c.if-has_drawn.true

pub returns-in-Ok : goal.returns-in-Ok
returns-in-Ok c =
    let d = c.args.drawn in
    let b = c.in-Ok.bank in
    rw c.cause_of_missing.ensures
    (map_read c.args.file.now d b c.in-Ok._counts c.has_drawn.result c.in-Ok.ensures c.has_drawn.ensures
    ∙ ap (λ there. if_there there d (drawing b d)) c.if-has_drawn.false)

pub returns : goal.returns
returns c = map_fails (λ both. both) c.in-Err.fault c.args.file.now c.args.drawn c.in-Err.ensures
