use Rattle.sample_view.specs.Words.{words}
use Rattle.bank_format.specs.Samples.{sample_read}
use Rattle.sf_reader.proofs.RowLaws.{map_more}
use Rattle.sf_reader.proofs.samples.read_samples.Goals as goal

pub loop-head-preserved : goal.loop-head-preserved
loop-head-preserved c =
    let old = c.loop-head.head-iterator in
    let new = c.next.new.self in
    let turn = c.in-Some.ensures.steps in (
      tt,
      tt,
      map_more old.n new.n old.iter new.iter c.in-Some.head turn.0 turn.1
          (sample_read c.row_count-count.result (words c.args.smpl.now))
          c.loop-head.samples.items c.push.new.self.items c.read_sample.result _ c.read_sample.ensures
          c.in_ok-push.ensures.items c.loop-head.invariant.2,
    )
