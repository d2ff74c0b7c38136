use Rattle.std.proofs.Common.{◌∙◌, ap, drop, length, refl}
use Rattle.base_numbered_lists.specs.Moved.{changed_within}
use Rattle.bank_linked_members.proofs.Parts.{all_written, written_size, borrowed_after}
use Rattle.bank_linked_members.proofs.double_ended.renumber_after_blanks.Goals as goal

pub returns : goal.returns
returns g c =
    let v = c.args.slots.now in
    let b = c.args.blanks in
    let span = c.args.span in
    let slots = c.deref_mut in
    let changed = c.renumber_range in
    record {
      value = all_written v slots.result.now changed.new.members b slots.ensures.value slots.ensures.len
          c.requires.blanks changed.ensures.long
          ∙ (changed.ensures.value
          ∙ ap (changed_within span.start span.end (g.T.Renumber.with_new_numbers c.args.by))
          (borrowed_after b slots.result.now v.items (drop b v.items) slots.ensures.value refl));
      long = written_size v slots.result.now changed.new.members b slots.ensures.len changed.ensures.long
          ∙ ap length slots.ensures.value;
      size = refl;
      room = refl;
    }
