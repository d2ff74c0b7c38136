use Rattle.std.proofs.Common.{◌∙◌, ◌-◌, ◌++◌, ap, drop, length, map, sym, take}
use Rattle.std.proofs.lemmas.List.{length-map}
use borrow.Rule.Slice.PartMut.{Post-is, same_len_mid}
use Rattle.bank_linked_members.proofs.Parts.{part_is}
use Rattle.bank_linked_members.proofs.double_ended.renumber_range.Goals as goal

pub returns : goal.returns
returns g c =
    let span = c.args.span in
    let members = c.args.members.now in
    let changed =
    c.renumber_all.ensures
    ∙ ap (map (g.T.Renumber.with_new_numbers c.args.by))
    (part_is members span.start span.end c.requires.order) in
    record {
      value = λ i. take span.start members ++ (changed i ++ Post-is span.start span.end members c.requires.order i);
      long = same_len_mid span.start (span.end - span.start) members c.renumber_all.new.members
          (ap length changed
          ∙
          (length-map (drop span.start (take span.end members)) (g.T.Renumber.with_new_numbers c.args.by)
          ∙ ap length (sym (part_is members span.start span.end c.requires.order))));
    }
