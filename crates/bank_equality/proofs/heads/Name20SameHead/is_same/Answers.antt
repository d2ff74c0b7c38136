use Rattle.std.proofs.lemmas.Bool.Decides.{Decides-eqb}
use Rattle.std.proofs.lemmas.Slice.Eq.{slice_eq-Decides}
use Rattle.bank_equality.proofs.heads.Name20SameHead.is_same.Goals as goal

pub returns : goal.returns
returns c =
    let decided = slice_eq-Decides Decides-eqb c.bytes.result.now c.bytes-2.result.now c.eq.result c.eq.ensures in
    rw (← c.bytes.ensures.value, ← c.bytes-2.ensures.value) decided
