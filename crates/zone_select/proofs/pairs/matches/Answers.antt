use Rattle.std.proofs.Common.{sym}
use Rattle.zone_select.proofs.RemainingLaws.{all_pairs, no_pairs}
use Rattle.zone_select.proofs.pairs.matches.Goals as goal

pub returns-in_default : goal.returns-in_default
returns-in_default c = sym (no_pairs c.args.bank.now c.args.note.now c.in_default.ensures)

pub returns : goal.returns
returns c =
    all_pairs c.args.bank.now c.args.note.now c.in-Some.preset c.next_held.result c.in-Some.ensures
    c.next_held.ensures.first
