-- The script of edits that are found for a bank.
use Rattle.std.specs.Prelude.{ℕ, Bool, true, false, List}
use Rattle.bank_parts.specs.declared.parts.Parts.{Parts}
use Rattle.edit_forms.specs.declared.edit.Edit.{Edit}
use Rattle.edit_script.specs.Printing.{texts_of}
use Rattle.script_comments.specs.Along.{comments_of}
use Rattle.script_comments.specs.Lines.{commented_in_turn}

-- the lines of the edits, with comments or without; each comment has the names of the bank before its edit
abbrev pub edits_text : Bool → Parts → List Edit → List ℕ
edits_text true b es = commented_in_turn es (comments_of b es)
edits_text false b es = texts_of es
