-- The texts that a plan will write.
use Rattle.std.specs.Prelude.{ℕ, List, ◌++◌, Option, Some, None}
use Rattle.std.specs.Option.{option_map}
use Rattle.bank_parts.specs.declared.parts.Parts.{Parts}
use Rattle.bank_format.specs.Canon.{canon}
use Rattle.edit_forms.specs.declared.edit.Edit.{Edit}
use Rattle.edit_script.specs.Printing.{texts_of}
use Rattle.script_comments.specs.Comments.{comment_of}
use Rattle.script_comments.specs.Along.{comments_in}
use Rattle.script_comments.specs.Lines.{commented, commented_in_turn}
use Rattle.script_of_bank.specs.BankScript.{bank_script, first_line}
use Rattle.script_of_bank.specs.LeadsTo.{edits_between}
use Rattle.script_of_bank.specs.declared.samples.SamplePoints.{SamplePoints}
use Rattle.sfbank.specs.declared.edited_bank.EditedBank.{EditedBank}
use Rattle.sfbank.specs.declared.diff.BankDifference.{BankDifference}
use Rattle.sfbank.specs.declared.diff.BankDifference.TheVariants.{Found, Commented, Replacing}
use Rattle.sfbank.specs.declared.edits_script.EditsScript.{EditsScript}
use Rattle.sfbank.specs.declared.script.FormedScript.{FormedScript}
use Rattle.sfbank.specs.Outcome.{Done}

abbrev pub texts_of_bank : EditedBank → Done
texts_of_bank edited_bank = record { out = canon edited_bank.bank; undo = texts_of edited_bank.undo.items }

-- the script of a bank, with comments if its edits are given
abbrev pub script_with : Parts → SamplePoints → Option (List Edit) → List ℕ
script_with b points None = bank_script points b
script_with b points (Some edits) = first_line points b.minor ++ commented (comment_of b) edits

abbrev pub formed_text : FormedScript → List ℕ
formed_text s = script_with s.bank.now s.points (option_map (λ edits. edits.items) s.edits)

-- lines, with comments if they have some
abbrev pub lines_with : List Edit → Option (List (List ℕ)) → List ℕ
lines_with edits None = texts_of edits
lines_with edits (Some comments) = commented_in_turn edits comments

abbrev pub edits_script_text : EditsScript → List ℕ
edits_script_text s = lines_with s.edits.now (option_map comments_in s.comments)

-- the script of a difference
abbrev pub text_of_difference : BankDifference → List ℕ
text_of_difference (Found edits) = texts_of edits.items
text_of_difference (Commented edits comments) = commented_in_turn edits.items (comments_in comments)
text_of_difference (Replacing from to) = texts_of (edits_between from to)
