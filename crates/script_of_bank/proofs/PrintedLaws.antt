-- A bank's text is read as the edits that list it.
use Rattle.std.proofs.Common.{◌≡◌, ◌<◌, ◌^◌, ℕ, List, [], ◌∷◌, map, codes, decimal, drop, Result, Ok, Err, refl, sym}
use Rattle.std.proofs.Common.{subst, ◌∙◌, ap, arith}
use Rattle.std.proofs.lemmas.List.{append-nil}
use Rattle.bank_parts.specs.declared.parts.Parts.{Parts}
use Rattle.bank_parts.specs.Sound.{IsSound}
use Rattle.edit_forms.specs.declared.edit.Edit.{Edit}
use Rattle.edit_refusals.specs.Edits.{raw}
use Rattle.bank_edits.specs.Runs.{AllAccepted, after_all}
use Rattle.script_tokens.specs.declared.fault.ScriptFault.{ScriptFault}
use Rattle.script_tokens.specs.declared.printing.Piece.TheVariants.{Number}
use Rattle.script_tokens.specs.Lines.{lines_of}
use Rattle.script_tokens.specs.Parsers.{digits_value}
use Rattle.script_tokens.specs.Printing.{piece_text}
use Rattle.script_tokens.proofs.PieceLaws.{line_first, printable_number, writes}
use Rattle.edit_script.specs.declared.parsing.Line.{Line}
use Rattle.edit_script.specs.Script.{script_of}
use Rattle.edit_script.specs.Printing.{AllFit, texts_of, numbered}
use Rattle.edit_script.proofs.LineLaws.{printed_is_read, printed_after_comment, edits_numbered}
use Rattle.script_of_bank.specs.declared.samples.SamplePoints.TheVariants.{Kept}
use Rattle.script_of_bank.specs.BankEdits.{empty, edits_of_bank}
use Rattle.script_of_bank.specs.LeadsTo.{Leads, edits_between}
use Rattle.script_of_bank.specs.BankScript.{first_line, bank_script, TextGivesBank, TextDeterminesBank, ReplacementLeads}
use Rattle.script_of_bank.proofs.Law.{whole, anywhere}

pub accepted_fit : (b : Parts) (es : List Edit) → AllAccepted b es → AllFit es
accepted_fit b [] h = tt
accepted_fit b (e ∷ es) h = (h.0.fits, accepted_fit (raw b e) es h.1)

pub small : (b : Parts) → IsSound b → b.minor < 2 ^ 32
small b s = let h = s.fits.minor in omega (arith, h)

-- ---- the script of a bank

pub text_read : (b : Parts) → IsSound b → script_of (bank_script Kept b) ≡ Ok (numbered 2 (edits_of_bank b))
unfolding bank_script first_line
text_read b s =
    printed_after_comment (drop 1 (codes "# sfbank new --minor")) (Number b.minor ∷ []) (edits_of_bank b) refl
    (printable_number b.minor (small b s), tt)
    (accepted_fit (empty b.minor) (edits_of_bank b) (whole b s).is_accepted)

pub text_gives : TextGivesBank
text_gives b s = record {
  lines = numbered 2 (edits_of_bank b);
  read = text_read b s;
  leads = subst (λ (es : List Edit). Leads (empty b.minor) es b) (sym (edits_numbered 2 (edits_of_bank b))) (whole b s);
}

lines_or : Result (List Line) ScriptFault → List Line
lines_or (Ok lines) = lines
lines_or (Err f) = []

-- the edits of a text that is read
edits_read : List ℕ → List Edit
unfolding lines_or
edits_read text = map (λ (l : Line). l.edit) (lines_or (script_of text))

edits_of_text : (b : Parts) → IsSound b → edits_read (bank_script Kept b) ≡ edits_of_bank b
unfolding edits_read lines_or
edits_of_text b s =
    ap (λ (r : Result (List Line) ScriptFault). map (λ (l : Line). l.edit) (lines_or r)) (text_read b s)
    ∙ edits_numbered 2 (edits_of_bank b)

-- ---- the minor version

first_or : List (List ℕ) → List ℕ
first_or [] = []
first_or (l ∷ ls) = l

-- the number after the words of the first line
minor_read : List ℕ → ℕ
unfolding first_or
minor_read text = digits_value (drop 21 (first_or (lines_of text)))

minor_of_text : (b : Parts) → IsSound b → minor_read (bank_script Kept b) ≡ b.minor
unfolding minor_read first_or bank_script first_line piece_text
minor_of_text b s =
    ap (λ (ls : List (List ℕ)). digits_value (drop 21 (first_or ls)))
    (line_first (codes "# sfbank new --minor") (Number b.minor ∷ []) (texts_of (edits_of_bank b)) refl
    (printable_number b.minor (small b s), tt))
    ∙ (ap digits_value (append-nil (decimal b.minor))
    ∙ (let h = s.fits.minor in writes 65535 b.minor (omega (arith, h)) (omega arith)).value)

pub text_determines : TextDeterminesBank
text_determines a b s r e =
    let m : a.minor ≡ b.minor = sym (minor_of_text a s) ∙ (ap minor_read e ∙ minor_of_text b r) in
    let same : edits_of_bank a ≡ edits_of_bank b = sym (edits_of_text a s) ∙ (ap edits_read e ∙ edits_of_text b r) in
    sym (whole a s).given ∙ ((λ i. after_all (empty (m i)) (same i)) ∙ (whole b r).given)

-- ---- the script that replaces a bank

pub replaces : ReplacementLeads
replaces a b s r m =
    let es = edits_between a b in
    let leads = anywhere a b s r m in
    record {
      lines = numbered 1 es;
      read = printed_is_read es (accepted_fit a es leads.is_accepted);
      leads = subst (λ (es : List Edit). Leads a es b) (sym (edits_numbered 1 es)) leads;
    }
