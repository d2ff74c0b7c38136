use Rattle.std.proofs.Common.{refl, sym, ap}
use Rattle.std.specs.List.{flat_map}
use Rattle.sample_view.specs.Words.{word_bytes}
use Rattle.bank_format.specs.Ids.{SMPL}
use Rattle.bank_format.specs.Tables.{all_points, points_written}
use Rattle.base_outputs.proofs.OutputLaws.{puts_as}
use Rattle.sf_writer.proofs.ChunkLaws.{put_even}
use Rattle.sf_writer.proofs.PointLaws.{all_points-even, sdta-is}
use Rattle.sf_writer.proofs.points.put_smpl.Goals as goal

pub returns : goal.returns
unfolding SMPL all_points
returns g c =
    puts_as _ _ (sym (sdta-is c.args.bank.now))
    (put_even _ _ _ _ refl (all_points-even c.args.bank.now) c.requires c.head.ensures
    (puts_as _ _ (ap (λ samples. flat_map word_bytes (flat_map points_written samples)) c.samples.ensures.value)
    c.put_samples.ensures))
