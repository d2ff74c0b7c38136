use Rattle.std.proofs.Common.{◌≡◌, ◌++◌, ◌∙◌, List, ap, subst}
use Rattle.std.specs.List.{flat_map}
use Rattle.std.specs.Result.{OnOk}
use Rattle.edit_forms.specs.declared.edit.Edit.{Edit}
use Rattle.commented_scripts.proofs.ListingLaws.{edits_of_text, all_texts}
use Rattle.commented_scripts.proofs.listing.list_texts.Goals as goal

pub returns : goal.returns
returns c =
    let es = edits_of_text c.args.bank.now.texts in
    subst
    (λ (all : List Edit).
    OnOk c.list_each_text.result (c.list_each_text.new.edits.items ≡ c.args.edits.now.items ++ all))
    (ap (flat_map es) c.all.ensures ∙ all_texts c.args.bank.now.texts) c.list_each_text.ensures
