use Rattle.std.proofs.Common.{◌≡◌, ◌+◌, ◌-◌, arith, rules}
use Rattle.bank_format.specs.Windows.{without_terminal}
use Rattle.sf_reader.proofs.RowLaws.{sum_more, total_breaks}
use Rattle.sf_reader.proofs.samples.check_total.Goals as goal

pub loop-head-preserved : goal.loop-head-preserved
loop-head-preserved c =
    let old = c.loop-head.head-iterator in
    let new = c.next.new.self in
    let turn = c.in-Some.ensures.steps in
    let here : c.from.result + 46 ≡ c.in-Some.head.end - c.in-Some.head.start + 46 = search rules in (
      tt,
      tt,
      sum_more old.n new.n old.iter new.iter c.in-Some.head turn.0 turn.1 (λ h. h.end - h.start + 46) c.loop-head.total
          _ _ here c.loop-head.invariant.2,
      omega arith,
    )

pub returns-then-total-gt-POINTS : goal.returns-then-total-gt-POINTS
returns-then-total-gt-POINTS c =
    let old = c.loop-head.head-iterator in
    let new = c.next.new.self in
    let turn = c.in-Some.ensures.steps in
    let here : c.from.result + 46 ≡ c.in-Some.head.end - c.in-Some.head.start + 46 = search rules in
    let so_far =
    sum_more old.n new.n old.iter new.iter c.in-Some.head turn.0 turn.1 (λ h. h.end - h.start + 46)
    c.loop-head.total _ _ here c.loop-head.invariant.2 in
    total_breaks (without_terminal c.args.heads.now) (omega (arith, so_far))
