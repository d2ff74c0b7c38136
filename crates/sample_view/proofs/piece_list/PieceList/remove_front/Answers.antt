use Rattle.std.proofs.Common.{refl}
use Rattle.sample_view.proofs.SlotLaws.{front_stored}
use Rattle.sample_view.proofs.piece_list.PieceList.remove_front.Goals as goal

pub returns : goal.returns
returns c =
    let found = c.cut_at-piece in
    let part = c.part in
    let stored =
    front_stored c.self.inside.slots.items c.args.self.now c.as_slice.result.now c.self.inside.blanks c.args.count
    found.result.piece found.result.position _ part.result _ _ c.self.view_is c.as_slice.ensures c.requires.pieces
    found.ensures.cut found.ensures.inside c.index-bytes.ensures refl part.ensures.bytes part.ensures.points in
    record { pieces = stored.0; points = stored.1 }
