use Rattle.std.proofs.Common.{◌∙◌, ap, refl}
use Rattle.std.specs.Prelude.{slice_set}
use Rattle.std.proofs.lemmas.List.{drop-set-add}
use Rattle.bank_linked_members.proofs.Parts.{found_after}
use Rattle.bank_linked_members.proofs.double_ended.DoubleEndedList.member_mut.Goals as goal

pub returns : goal.returns
returns g c =
    let blanks = c.self.inside.blanks in
    let items = c.self.inside.slots.items in (
      (refl, λ w. drop-set-add blanks items c.args.i w ∙ ap (λ xs. slice_set xs c.args.i w) c.self.view_is),
      record {
        writes_back = tt;
        value =
            found_after blanks items c.args.self.now c.args.i c.index_mut.result.now c.self.view_is c.self.invariant
            c.requires c.index_mut.ensures.value;
      },
    )
