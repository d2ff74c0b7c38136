use Rattle.std.proofs.Common.{◌≡◌, Some}
use Rattle.riff_chunks.specs.First.{index_of}
use Rattle.riff_chunks.proofs.FirstLaws.{put_first, none_there}
use Rattle.riff_chunks.proofs.first.keep_first.Goals as goal

pub returns-then-is_none : goal.returns-then-is_none
returns-then-is_none c =
    let here : index_of c.args.id c.args.ids.now ≡ Some c.in-Some.id_index = cc in
    put_first c.args.ids.now c.args.bodies.now c.args.id c.in-Some.id_index c.args.body here c.told-bodies
    c.if-id_index-lt-MOST_KEPT.true
    (none_there _ (c.if-is_none.ensures))
