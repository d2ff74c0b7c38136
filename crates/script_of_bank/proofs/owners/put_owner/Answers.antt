use Rattle.std.proofs.Common.{◌≡◌, [], ◌∷◌, ap}
use Rattle.base_numbered_lists.proofs.Lists.{slice_get-found}
use Rattle.base_outputs.proofs.OutputLaws.{puts_as}
use Rattle.script_tokens.proofs.PrintLaws.{puts_line}
use Rattle.script_grammar.specs.Operands.{pieces_of}
use Rattle.script_grammar.proofs.PutLaws.{spaced_out, puts_both}
use Rattle.script_steps.specs.Members.{place, printed_owner}
use Rattle.script_steps.proofs.PutLaws.{puts_owner}
use Rattle.script_of_bank.proofs.owners.put_owner.Goals as goal

pub returns : goal.returns
returns g c =
    let word = g.H.AddedHead.word in
    let operands = g.H.AddedHead.operands in
    let (x, is) = slice_get-found c.args.owners.now c.args.i c.requires in
    let head : c.head.result.now ≡ x.head = (let p = rw is at c.head.ensures in cc p) in
    let following = puts_as _ _ (ap (λ h. spaced_out (operands h)) head) c.put_operands.ensures in
    let zones = rw is at c.put_zones_of.ensures in
    rw is (puts_line word (pieces_of (printed_owner operands c.args.i x)) (puts_as _ _ c.word.ensures c.put.ensures)
    (puts_owner operands c.args.i x (puts_both (place c.args.i ∷ []) (operands x.head) c.put_pieces.ensures
    following) zones) c.put-2.ensures)
