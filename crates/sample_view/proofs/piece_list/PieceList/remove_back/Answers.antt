use Rattle.sample_view.proofs.SlotLaws.{back_stored}
use Rattle.sample_view.proofs.piece_list.PieceList.remove_back.Goals as goal

pub returns : goal.returns
returns c =
    let found = c.cut_before_last-piece in
    let part = c.part in
    let stored =
    back_stored c.self.inside.slots.items c.truncate.new.self.items c.args.self.now c.as_slice.result.now
    c.self.inside.blanks c.args.count found.result.piece found.result.position part.result _ _ c.self.view_is
    c.as_slice.ensures c.truncate.ensures.items c.requires.pieces found.ensures.cut found.ensures.filled c.index.ensures
    part.ensures.bytes part.ensures.points in
    record { pieces = stored.0; points = stored.1 }
