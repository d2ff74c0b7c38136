-- Lines that encode the edits that list a bank, after the first line of the bank's script.
use Rattle.std.proofs.Common.{◌≡◌, ◌++◌, ℕ, suc, List, [], ◌∷◌, map, codes, drop, Ok, refl, sym, ap, subst, ◌∙◌}
use Rattle.std.proofs.Common.{inl, inr}
use Rattle.bank_parts.specs.declared.parts.Parts.{Parts}
use Rattle.bank_parts.specs.Sound.{IsSound}
use Rattle.edit_forms.specs.declared.edit.Edit.{Edit}
use Rattle.script_tokens.specs.declared.printing.Piece.{Piece}
use Rattle.script_tokens.specs.declared.printing.Piece.TheVariants.{Number, Word}
use Rattle.script_tokens.specs.Lines.{lines_of}
use Rattle.script_tokens.specs.Printing.{line_text}
use Rattle.script_tokens.proofs.PieceLaws.{AllPrintable, line, line_first, printable_number, printable_word}
use Rattle.script_tokens.proofs.PrintLaws.{line_spaced}
use Rattle.edit_script.specs.declared.parsing.Line.{Line}
use Rattle.edit_script.specs.Script.{script_of}
use Rattle.edit_script.specs.Printing.{AllFit, LinesFit, numbered, texts_of}
use Rattle.edit_script.specs.TextForm.{LinesEncode, Spells}
use Rattle.edit_script.proofs.CompletenessLaws.{spelled_read}
use Rattle.edit_script.proofs.FitLaws.{spelled_fit}
use Rattle.edit_script.proofs.LineLaws.{edits_numbered}
use Rattle.edit_script.proofs.ReadLaws.{read_spelled}
use Rattle.script_of_bank.specs.declared.samples.SamplePoints.{SamplePoints}
use Rattle.script_of_bank.specs.declared.samples.SamplePoints.TheVariants.{Kept, LeftOut}
use Rattle.script_of_bank.specs.BankEdits.{empty, edits_of_bank}
use Rattle.script_of_bank.specs.LeadsTo.{Leads}
use Rattle.script_of_bank.specs.BankScript.{first_line, with_points, bank_script, IsScript}
use Rattle.script_of_bank.proofs.Law.{whole}
use Rattle.script_of_bank.proofs.ListedLaws.{text_lists}
use Rattle.script_of_bank.proofs.PrintedLaws.{small, text_determines}

-- ---- one line later

raised : Line → Line
raised l = record l { number = suc l.number }

raised_numbered : (n : ℕ) (es : List Edit) → map raised (numbered n es) ≡ numbered (suc n) es
unfolding raised
raised_numbered n [] = refl
raised_numbered n (e ∷ es) =
    ap (λ (ls : List Line). record { number = suc n; edit = e } ∷ ls) (raised_numbered (suc n) es)

later : (n : ℕ) (ls : List (List ℕ)) (es : List Line) → LinesEncode n ls es → LinesEncode (suc n) ls (map raised es)
unfolding raised
later n [] es h = ap (map raised) h
later n (l ∷ ls) es (inl none) = inl (none.0, later (suc n) ls es none.1)
later n (l ∷ ls) es (inr first) =
    inr (record {
      token_values = first.token_values;
      edit = first.edit;
      more = map raised first.more;
      parts = ap (map raised) first.parts;
      tokens = first.tokens;
      form = first.form;
      follow = later (suc n) ls first.more first.follow;
    })

-- after a comment line the edits are on line 2 and the next lines
after_comment : (comment : List ℕ) (ps : List Piece) (text : List ℕ) (es : List Edit) → AllPrintable ps
    → lines_of (line_text (35 ∷ comment) ps ++ text) ≡ line (35 ∷ comment) ps ∷ lines_of text
    → Spells text (numbered 1 es)
    → script_of (line_text (35 ∷ comment) ps ++ text) ≡ Ok (numbered 2 es)
after_comment comment ps text es s first h =
    spelled_read (line_text (35 ∷ comment) ps ++ text) (numbered 2 es)
    (subst (λ (ls : List (List ℕ)). LinesEncode 1 ls (numbered 2 es)) (sym first)
    (inl (
      record { blanks = []; rest = line (35 ∷ comment) ps; parts = refl; blank = refl; silent = refl },
      subst (λ (lines : List Line). LinesEncode 2 (lines_of text) lines) (raised_numbered 1 es)
          (later 1 (lines_of text) (numbered 1 es) h),
    )))

-- ---- the first line of a bank's script

abbrev command : List ℕ
command = codes "# sfbank new --minor"

abbrev pieces : SamplePoints → ℕ → List Piece
pieces Kept minor = Number minor ∷ []
pieces LeftOut minor = Number minor ∷ Word (codes "without") ∷ Word (codes "points") ∷ []

first_is : (how : SamplePoints) (minor : ℕ) → first_line how minor ≡ line_text command (pieces how minor)
unfolding first_line
first_is Kept minor = refl
first_is LeftOut minor = refl

printable : (how : SamplePoints) (b : Parts) → IsSound b → AllPrintable (pieces how b.minor)
printable Kept b s = (printable_number b.minor (small b s), tt)
printable LeftOut b s = (
  printable_number b.minor (small b s),
  (printable_word (codes "without") refl refl, (printable_word (codes "points") refl refl, tt)),
)

lines_after : (how : SamplePoints) (b : Parts) (text : List ℕ) → IsSound b
    → lines_of (line_text command (pieces how b.minor) ++ text) ≡ line command (pieces how b.minor) ∷ lines_of text
lines_after how b text s = line_first command (pieces how b.minor) text refl (printable how b s)

pub bank_read : (how : SamplePoints) (b : Parts) (text : List ℕ) → IsSound b
    → Spells text (numbered 1 (edits_of_bank (with_points how b)))
    → script_of (first_line how b.minor ++ text) ≡ Ok (numbered 2 (edits_of_bank (with_points how b)))
bank_read how b text s h =
    ap (λ (first : List ℕ). script_of (first ++ text)) (first_is how b.minor)
    ∙ after_comment (drop 1 command) (pieces how b.minor) text (edits_of_bank (with_points how b)) (printable how b s)
    (lines_after how b text s) h

-- ---- the edits fit

edits_fit : (n : ℕ) (es : List Edit) → LinesFit (numbered n es) → AllFit es
edits_fit n [] h = tt
edits_fit n (e ∷ es) h = (h.0, edits_fit (suc n) es h.1)

pub listed_fit : (how : SamplePoints) (b : Parts) → IsSound b → AllFit (edits_of_bank (with_points how b))
listed_fit how b s =
    let es = edits_of_bank (with_points how b) in
    edits_fit 2 es
    (spelled_fit (bank_script how b) (numbered 2 es)
    (read_spelled (bank_script how b) (numbered 2 es) (text_lists how b s)))

-- ---- the bank

pub bank_given : (b : Parts) (text : List ℕ) → IsSound b → script_of text ≡ Ok (numbered 2 (edits_of_bank b))
    → IsScript (empty b.minor) text b
bank_given b text s h = record {
  lines = numbered 2 (edits_of_bank b);
  read = h;
  leads = subst (λ (es : List Edit). Leads (empty b.minor) es b) (sym (edits_numbered 2 (edits_of_bank b))) (whole b s);
}

-- the first line and the edits determine the bank
same_edits : (n : ℕ) (es fs : List Edit) → numbered n es ≡ numbered n fs → es ≡ fs
same_edits n es fs h =
    sym (edits_numbered n es) ∙ ap (map (λ (l : Line). l.edit)) h ∙ edits_numbered n fs

same_first : (a b : Parts) (s t : List ℕ) → IsSound a → IsSound b
    → first_line Kept a.minor ++ s ≡ first_line Kept b.minor ++ t → first_line Kept a.minor ≡ first_line Kept b.minor
same_first a b s t sound_a sound_b e =
    let lines : line command (pieces Kept a.minor) ∷ lines_of s ≡ line command (pieces Kept b.minor) ∷ lines_of t =
    sym (lines_after Kept a s sound_a)
    ∙ ap (λ (first : List ℕ). lines_of (first ++ s)) (sym (first_is Kept a.minor))
    ∙ ap lines_of e
    ∙ ap (λ (first : List ℕ). lines_of (first ++ t)) (first_is Kept b.minor)
    ∙ lines_after Kept b t sound_b in
    let same : line command (pieces Kept a.minor) ≡ line command (pieces Kept b.minor) = cc lines in
    first_is Kept a.minor
    ∙ line_spaced command (pieces Kept a.minor)
    ∙ ap (λ (l : List ℕ). l ++ 10 ∷ []) same
    ∙ sym (line_spaced command (pieces Kept b.minor))
    ∙ sym (first_is Kept b.minor)

pub bank_determined : (a b : Parts) (s t : List ℕ) → IsSound a → IsSound b
    → script_of (first_line Kept a.minor ++ s) ≡ Ok (numbered 2 (edits_of_bank a))
    → script_of (first_line Kept b.minor ++ t) ≡ Ok (numbered 2 (edits_of_bank b))
    → first_line Kept a.minor ++ s ≡ first_line Kept b.minor ++ t
    → a ≡ b
unfolding bank_script
bank_determined a b s t sound_a sound_b read_a read_b e =
    let both = sym read_a ∙ ap script_of e ∙ read_b in
    let lines : numbered 2 (edits_of_bank a) ≡ numbered 2 (edits_of_bank b) = cc both in
    let edits : edits_of_bank a ≡ edits_of_bank b = same_edits 2 (edits_of_bank a) (edits_of_bank b) lines in
    let first = same_first a b s t sound_a sound_b e in
    text_determines a b sound_a sound_b (λ i. first i ++ texts_of (edits i))
