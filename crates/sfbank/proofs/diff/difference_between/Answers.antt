use Rattle.std.proofs.Common.{◌≡◌, true}
use Rattle.sfbank.specs.EditTexts.{edits_text}
use Rattle.sfbank.specs.Prepared.{text_of_difference}
use Rattle.script_of_bank.specs.BankScript.{IsScript}
use Rattle.sfbank.proofs.Differences.{commented_leads, printed_leads, with_text}
use Rattle.script_of_bank.proofs.PrintedLaws.{replaces}
use Rattle.sfbank.proofs.diff.difference_between.Goals as goal

pub returns-in-Some-clause-leads : goal.returns-in-Some-clause-leads
returns-in-Some-clause-leads c =
    let edits = c.in-Some.edits.items in
    let x = c.args.from in
    let y = c.args.to in
    with_text text_of_difference (λ t. x.minor ≡ y.minor → IsScript x t y) (edits_text true x edits) c.with_comments.result
    (λ m. commented_leads x y edits c.soundness.ensures (rw c.in-Some.is at c.in_ok-edits.ensures.found)) c.with_comments.ensures

pub returns-in-Some-2-clause-leads : goal.returns-in-Some-2-clause-leads
returns-in-Some-2-clause-leads c m = printed_leads c.args.from c.args.to c.in-Some.edits.items
    (rw c.in-Some.is at c.in_ok-edits.ensures.found)

pub returns-clause-leads : goal.returns-clause-leads
returns-clause-leads c m = replaces c.args.from c.args.to c.soundness.ensures c.soundness-2.ensures m
