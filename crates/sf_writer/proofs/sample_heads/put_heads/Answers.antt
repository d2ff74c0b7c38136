use Rattle.std.proofs.Common.{◌≡◌, ◌+◌, length, ap, sym, arith}
use Rattle.bank_parts.specs.Valid.{point_total}
use Rattle.base_outputs.proofs.OutputLaws.{puts_as, putting_from, putting_step, putting_last}
use Rattle.sf_writer.proofs.PointLaws.{point_total-next}
use Rattle.sf_writer.proofs.RecordLaws.{heads-start, heads-next, heads-last}
use Rattle.sf_writer.proofs.sample_heads.put_heads.Goals as goal

pub loop-sample-init : goal.loop-sample-init
loop-sample-init g c =
    let points = c.samples-samples.ensures.valid.limits.points in
    let same = ap point_total c.samples-samples.ensures.value in record {
      putting = putting_from _ _ (heads-start _ _ c.samples-samples.ensures.value);
      room = omega (arith, points, same);
    }

pub loop-sample-preserved : goal.loop-sample-preserved
loop-sample-preserved g c =
    let next =
    heads-next _ c.loop-sample.sample-index _ _ _ _ c.loop-sample-test.true c.sample-item.is
    c.sample_head-head.ensures c.put.ensures in
    let points = point_total-next _ c.loop-sample.sample-index _ c.loop-sample-test.true c.sample-item.is in
    let end : c.sample_head-head.result.end ≡ c.loop-sample.start + length c.sample-item.result.points =
    ap (λ h. h.end) c.sample_head-head.ensures in
    let room = c.loop-sample.invariant.room in record {
      putting = putting_step c.put.result _ c.loop-sample.invariant.putting next c.put-in-loop-sample.ensures;
      room = omega (arith, points, end, room);
    }

pub returns-clause-puts : goal.returns-clause-puts
returns-clause-puts g c =
    putting_last c.loop-sample.invariant.putting
    (puts_as _ _
    (sym
    (heads-last _ c.loop-sample.sample-index _ _ _ c.loop-sample-test.false c.sample_end.ensures
    c.put-2.ensures))
    c.put-3.ensures)
