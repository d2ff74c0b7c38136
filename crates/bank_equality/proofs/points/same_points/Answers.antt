use Rattle.bank_equality.proofs.Reading.{same_by_bytes}
use Rattle.bank_equality.proofs.points.same_points.Goals as goal

pub returns-then-len : goal.returns-then-len
returns-then-len c =
    same_by_bytes _ _ _ _ c.same_bytes.result c.pieces.ensures.bytes c.pieces-then-len.ensures.bytes
    c.same_bytes.ensures
