-- The lines that remove all parts of a bank.
use Rattle.std.proofs.Common.{◌≡◌, ◌<◌, ◌≤◌, ◌+◌, ◌-◌, ◌++◌, ℕ, zero, suc, List, [], ◌∷◌, length, take, get_or}
use Rattle.std.proofs.Common.{codes, refl, sym, ◌∙◌, ap, arith}
use Rattle.std.specs.List.{flat_map}
use Rattle.std.proofs.Math.Seq.{take-suc, take-length}
use Rattle.std.specs.Prelude.{Option}
use Rattle.std.proofs.lemmas.List.{append-nil, append_assoc, length-take-le}
use Rattle.base_outputs.specs.declared.output.Output.{Output}
use Rattle.base_outputs.specs.Output.{Puts}
use Rattle.base_outputs.proofs.OutputLaws.{puts_as}
use Rattle.bank_parts.specs.declared.texts.Texts.{Texts}
use Rattle.bank_parts.specs.declared.texts.InfoId.{InfoId}
use Rattle.bank_parts.specs.declared.texts.InfoId.TheVariants.{Engine, Name, Date, Engineers, Product, Copyright}
use Rattle.bank_parts.specs.declared.texts.InfoId.TheVariants.{Comment, Software}
use Rattle.bank_parts.specs.declared.parts.Parts.{Parts}
use Rattle.bank_parts.specs.Texts.{text_of}
use Rattle.edit_forms.specs.declared.edit.Edit.{Edit}
use Rattle.script_tokens.specs.declared.printing.Piece.TheVariants.{Number}
use Rattle.script_tokens.specs.Printing.{line_text}
use Rattle.edit_script.specs.Printing as printed
use Rattle.edit_script.specs.Printing.{texts_of}
use Rattle.script_of_bank.specs.BankRemoval.{in_reverse, removals, unlink_edits, reset_edits, resets, removal_edits}
use Rattle.script_of_bank.specs.BankRemoval.{removal_lines, remove_preset, remove_instrument, remove_sample}
use Rattle.script_of_bank.proofs.TextLaws.{both_texts, then_texts, row_lines}

-- ---- members that are removed

presets_away : (n : ℕ) → removal_lines (codes "remove-preset") n ≡ texts_of (removals remove_preset n)
unfolding printed.text_of
presets_away zero = refl
presets_away (suc n) = ap (λ (t : List ℕ). line_text (codes "remove-preset") (Number n ∷ []) ++ t) (presets_away n)

instruments_away : (n : ℕ) → removal_lines (codes "remove-inst") n ≡ texts_of (removals remove_instrument n)
unfolding printed.text_of
instruments_away zero = refl
instruments_away (suc n) =
    ap (λ (t : List ℕ). line_text (codes "remove-inst") (Number n ∷ []) ++ t) (instruments_away n)

samples_away : (n : ℕ) → removal_lines (codes "remove-sample") n ≡ texts_of (removals remove_sample n)
unfolding printed.text_of
samples_away zero = refl
samples_away (suc n) = ap (λ (t : List ℕ). line_text (codes "remove-sample") (Number n ∷ []) ++ t) (samples_away n)

-- in a loop over all members, the line of the last remaining member comes next
pub removals_at : (word : List ℕ) (count done : ℕ) → done < count
    → removal_lines word (count - done)
    ≡ line_text word (Number (count - done - 1) ∷ []) ++ removal_lines word (count - (done + 1))
removals_at word count done h =
    let e : count - done ≡ suc (count - done - 1) = omega (arith, h) in
    let f : count - (done + 1) ≡ count - done - 1 = omega (arith, h) in
    ap (removal_lines word) e
    ∙ ap (λ (n : ℕ). line_text word (Number (count - done - 1) ∷ []) ++ removal_lines word n) (sym f)

pub removals_over : (word : List ℕ) (count done : ℕ) → count ≤ done → removal_lines word (count - done) ≡ []
removals_over word count done h = ap (removal_lines word) (let e : count - done ≡ 0 = omega (arith, h) in e)

-- ---- the members of a list, from the last to the first

reverse_last : {X : Type 0} (edits : ℕ → X → List Edit) (n : ℕ) (xs : List X) (x : X)
    → in_reverse edits n (xs ++ x ∷ []) ≡ edits (n + length xs) x ++ in_reverse edits n xs
reverse_last edits n [] x = (let e : n + 0 ≡ n = omega arith in rw e (sym (append-nil (edits n x))))
reverse_last {X} edits n (y ∷ ys) x =
    ap (λ (es : List Edit). es ++ edits n y) (reverse_last edits (suc n) ys x)
    ∙ (append_assoc (edits (suc n + length ys) x) (in_reverse edits (suc n) ys) (edits n y)
    ∙ ap (λ (k : ℕ). edits k x ++ (in_reverse edits (suc n) ys ++ edits n y)) (omega arith))

pub reverse_at : {X : Type 0} (edits : ℕ → X → List Edit) (xs : List X) (done : ℕ) (x : X) → done < length xs
    → x ≡ get_or xs (length xs - done - 1) x
    → texts_of (in_reverse edits 0 (take (length xs - done) xs))
    ≡ texts_of (edits (length xs - done - 1) x) ++ texts_of (in_reverse edits 0 (take (length xs - (done + 1)) xs))
reverse_at {X} edits xs done x h is =
    let k = length xs - done - 1 in
    let e : length xs - done ≡ suc (length xs - done - 1) = omega (arith, h) in
    let f : length xs - (done + 1) ≡ length xs - done - 1 = omega (arith, h) in
    let less : length xs - done - 1 < length xs = omega (arith, h) in
    let few : length xs - done - 1 ≤ length xs = omega (arith, h) in
    let size : 0 + length (take (length xs - done - 1) xs) ≡ length xs - done - 1 =
    (let l = length-take-le (length xs - done - 1) xs few in omega (arith, l)) in
    ap (λ (n : ℕ). texts_of (in_reverse edits 0 (take n xs))) e
    ∙ ap (λ (ys : List X). texts_of (in_reverse edits 0 ys))
    (take-suc xs k x less ∙ ap (λ (y : X). take k xs ++ y ∷ []) (sym is))
    ∙ ap texts_of (reverse_last edits 0 (take k xs) x)
    ∙ both_texts (edits (0 + length (take k xs)) x) (in_reverse edits 0 (take k xs))
    ∙ ap (λ (n : ℕ). texts_of (edits n x) ++ texts_of (in_reverse edits 0 (take k xs))) size
    ∙ ap (λ (n : ℕ). texts_of (edits k x) ++ texts_of (in_reverse edits 0 (take n xs))) (sym f)

pub reverse_start : {X : Type 0} (edits : ℕ → X → List Edit) (xs : List X)
    → texts_of (in_reverse edits 0 xs) ≡ texts_of (in_reverse edits 0 (take (length xs - 0) xs))
reverse_start {X} edits xs =
    ap (λ (ys : List X). texts_of (in_reverse edits 0 ys))
    (sym (take-length xs) ∙ ap (λ (n : ℕ). take n xs) (let e : length xs ≡ length xs - 0 = omega arith in e))

pub reverse_over : {X : Type 0} (edits : ℕ → X → List Edit) (xs : List X) (done : ℕ) → length xs ≤ done
    → texts_of (in_reverse edits 0 (take (length xs - done) xs)) ≡ []
reverse_over {X} edits xs done h =
    ap (λ (n : ℕ). texts_of (in_reverse edits 0 (take n xs))) (let e : length xs - done ≡ 0 = omega (arith, h) in e)

-- ---- the texts

abbrev pub last_first : List InfoId
last_first = Software ∷ Comment ∷ Copyright ∷ Product ∷ Engineers ∷ Date ∷ Name ∷ Engine ∷ []

abbrev pub reset_lines : Texts → InfoId → List ℕ
reset_lines t id = texts_of (reset_edits id (text_of t id))

pub puts_reset_line : {W : Type 0} {c : W → Option (List ℕ)} {o p : Output W} (t : Texts) (id : InfoId)
    (text : List ℕ)
    → text ≡ text_of t id → Puts c o p (texts_of (reset_edits id text)) → Puts c o p (reset_lines t id)
puts_reset_line t id text e h =
    puts_as (texts_of (reset_edits id text)) (reset_lines t id)
    (ap (λ (text : List ℕ). texts_of (reset_edits id text)) e) h

pub resets_lines : (t : Texts) → flat_map (reset_lines t) last_first ≡ texts_of (resets t)
resets_lines t =
    let es : InfoId → List Edit = λ id. reset_edits id (text_of t id) in
    row_lines es last_first
    ∙ ap
    (λ (last : List Edit).
    texts_of
    (es Software
    ++ (es Comment ++ (es Copyright ++ (es Product ++ (es Engineers ++ (es Date ++ (es Name ++ last))))))))
    (append-nil (es Engine))

-- ---- all parts

pub down_lines : (b : Parts)
    → removal_lines (codes "remove-preset") (length b.presets)
    ++ (removal_lines (codes "remove-inst") (length b.instruments)
    ++ (texts_of (in_reverse unlink_edits 0 b.samples)
    ++ (removal_lines (codes "remove-sample") (length b.samples)
    ++ texts_of (resets b.texts))))
    ≡ texts_of (removal_edits b)
down_lines b =
    let es0 = removals remove_preset (length b.presets) in
    let es1 = removals remove_instrument (length b.instruments) in
    let es2 = in_reverse unlink_edits 0 b.samples in
    let es3 = removals remove_sample (length b.samples) in
    let es4 = resets b.texts in
    (λ i.
    presets_away (length b.presets) i
    ++
    (instruments_away (length b.instruments) i
    ++ (texts_of es2 ++ (samples_away (length b.samples) i ++ texts_of es4))))
    ∙ sym
    (then_texts es0 (es1 ++ (es2 ++ (es3 ++ es4))) _
    (then_texts es1 (es2 ++ (es3 ++ es4)) _ (then_texts es2 (es3 ++ es4) _ (both_texts es3 es4))))
