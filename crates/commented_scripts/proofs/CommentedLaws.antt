-- A bank's text with comments is read as the edits that list the bank.
use Rattle.bank_parts.specs.declared.parts.Parts.{Parts}
use Rattle.bank_parts.specs.Sound.{IsSound}
use Rattle.edit_script.specs.Printing.{numbered}
use Rattle.edit_script.specs.TextForm.{Spells}
use Rattle.script_comments.specs.Comments.{comment_of}
use Rattle.script_comments.specs.Lines.{commented}
use Rattle.script_comments.proofs.CommentLaws.{are_comments}
use Rattle.script_comments.proofs.LineLaws.{each_skipped}
use Rattle.script_of_bank.specs.declared.samples.SamplePoints.{SamplePoints}
use Rattle.script_of_bank.specs.declared.samples.SamplePoints.TheVariants.{Kept}
use Rattle.script_of_bank.specs.BankEdits.{edits_of_bank}
use Rattle.script_of_bank.specs.BankScript.{with_points}
use Rattle.commented_scripts.specs.CommentedScript.{commented_script, CommentedTextListsEdits, CommentedTextGivesBank}
use Rattle.commented_scripts.specs.CommentedScript.{CommentedTextDeterminesBank}
use Rattle.commented_scripts.proofs.ReadLaws.{listed_fit, bank_read, bank_given, bank_determined}

spelled : (how : SamplePoints) (b : Parts) → IsSound b
    → Spells (commented (comment_of b) (edits_of_bank (with_points how b)))
    (numbered 1 (edits_of_bank (with_points how b)))
spelled how b s =
    each_skipped (comment_of b) (edits_of_bank (with_points how b)) (listed_fit how b s) (λ e. are_comments b e s)

pub lists : CommentedTextListsEdits
unfolding commented_script
lists how b s = bank_read how b (commented (comment_of b) (edits_of_bank (with_points how b))) s (spelled how b s)

pub gives : CommentedTextGivesBank
gives b s = bank_given b (commented_script Kept b) s (lists Kept b s)

pub determines : CommentedTextDeterminesBank
unfolding commented_script
determines a b s r e =
    bank_determined a b (commented (comment_of a) (edits_of_bank a)) (commented (comment_of b) (edits_of_bank b)) s r
    (lists Kept a s) (lists Kept b r) e
