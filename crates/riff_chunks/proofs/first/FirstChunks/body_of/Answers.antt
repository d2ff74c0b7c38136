use Rattle.std.proofs.Common.{◌≡◌, ◌∙◌, Some, ap}
use Rattle.riff_chunks.specs.Finding.{first_body}
use Rattle.riff_chunks.specs.First.{index_of}
use Rattle.riff_chunks.proofs.first.FirstChunks.body_of.Goals as goal

pub returns-in-Some : goal.returns-in-Some
returns-in-Some c =
    let here : index_of c.args.id c.self.inside.ids.now ≡ Some c.in-Some.id_index = cc in
    c.self.invariant c.args.id c.in-Some.id_index here c.if-id_index-lt-MOST_KEPT.true
    ∙ ap (first_body c.args.id) c.self.view_is
