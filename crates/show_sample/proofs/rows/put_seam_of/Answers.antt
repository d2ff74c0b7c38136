use Rattle.std.proofs.Common.{ℕ, ap}
use Rattle.base_outputs.proofs.OutputLaws.{puts_as, puts_then}
use Rattle.show_zone_map.specs.Marks.{marks_text}
use Rattle.show_sample.specs.Rows.{join_marks}
use Rattle.show_sample.proofs.rows.put_seam_of.Goals as goal

pub returns-in-Some : goal.returns-in-Some
returns-in-Some g c =
    let join =
    puts_as _ _ (ap (λ (k : ℕ). marks_text (join_marks c.args.rows c.args.row c.args.sample k)) c.side_count.ensures) c.put_join.ensures in
    rw c.in-Some.is (puts_then _ _ join (puts_then _ _ c.put_seam.ensures c.put.ensures))
