use Rattle.std.proofs.Common.{◌∙◌, ◌-◌, ap, drop, length, refl}
use Rattle.bank_linked_members.proofs.Parts.{placed_after, written_size}
use Rattle.bank_linked_members.proofs.double_ended.insert_over_blank.Goals as goal

pub returns : goal.returns
returns g c =
    let v = c.args.slots.now in
    let b = c.args.blanks in
    let slots = c.deref_mut in
    let put = c.put_in_front in
    record {
      value = placed_after v slots.result.now put.new.members b c.args.i c.args.x (drop b v.items) c.requires.some
          c.requires.blanks slots.ensures.value slots.ensures.len refl put.ensures.long put.ensures.value;
      long = written_size v slots.result.now put.new.members (b - 1) slots.ensures.len put.ensures.long
          ∙ ap length slots.ensures.value;
    }
