use Rattle.std.proofs.Common.{not, refl}
use Rattle.sfbank.specs.EditTexts.{edits_text}
use Rattle.sfbank.specs.Outcome.{both_texts}
use Rattle.sfbank.proofs.FoundEdits.{all_saved, edits_print, edits_saved, is_planned, is_script}
use Rattle.sfbank.proofs.program.planned.put_found.Goals as goal

pub returns-then-paths : goal.returns-then-paths
returns-then-paths g c purpose file promised read =
    let edits = c.args.edits.items in
    let comments = not c.args.paths.no_comments in
    edits_print _ c.args.paths purpose file (edits_text comments c.args.bank edits) _ _ _ c.print_edits.result
    c.if-paths.true (is_script comments purpose file c.args.bank edits read promised c.requires)
    (rw c.as_slice.ensures.value at c.print_edits.ensures)

pub returns-in-Some : goal.returns-in-Some
returns-in-Some g c purpose file promised read =
    all_saved _ _ c.args.paths c.in-Some.script purpose file _ c.save_all.result c.if-paths.false c.in-Some.is
    (c.save_all.ensures purpose file _ promised read)

pub returns-in-None : goal.returns-in-None
returns-in-None g c purpose file promised read =
    let edits = c.args.edits.items in
    edits_saved _ _ c.args.paths purpose file (both_texts c.args.bank edits) _ _ c.save_edited.result c.if-paths.false
    c.in-None.is (is_planned purpose file c.args.bank edits (both_texts c.args.bank edits) read promised c.requires refl)
    c.save_edited.ensures
