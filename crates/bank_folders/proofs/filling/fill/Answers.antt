use Rattle.std.proofs.Common.{sym, ◌∙◌}
use Rattle.bank_folders.proofs.ListLaws.{filled_on, filled_end}
use Rattle.bank_folders.proofs.filling.fill.Goals as goal

pub loop-line-preserved : goal.loop-line-preserved
loop-line-preserved c =
    filled_on c.in-Some.line c.next_line.result c.loop-line.full.items c.push.new.self.items
    c.loop-line.line-iterator.rest.items c.next.new.self.rest.items _ c.loop-line.remaining.items
    c.next_line.new.points.items c.in-Some.ensures.steps.0 c.next_line.ensures.line c.next_line.ensures.rest
    c.in_ok-push.ensures.items c.loop-line.invariant

pub returns : goal.returns
returns c =
    let ring = c.loop-line.line-iterator.rest in
    filled_end c.loop-line.full.items ring.items _ c.loop-line.remaining.items
    (sym ring.ok.0 ∙ c.in-None.ensures.steps.0) c.loop-line.invariant
