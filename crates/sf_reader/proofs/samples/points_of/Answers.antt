use Rattle.std.proofs.Common.{◌≡◌, ◌∙◌, ap, rules}
use Rattle.sample_view.specs.Words.{words}
use Rattle.sf_reader.proofs.SampleLaws.{points_cut}
use Rattle.sf_reader.proofs.samples.points_of.Goals as goal

pub returns : goal.returns
returns c =
    let whole : c.unwrap.result ≡ words c.part_of.result.now = search rules in
    whole ∙ ap words c.part_of.ensures
    ∙ points_cut c.args.smpl.now c.args.head.now.start c.args.head.now.end c.point_count-count.result
    c.point_count-count.ensures
