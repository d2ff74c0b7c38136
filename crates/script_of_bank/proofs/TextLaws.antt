-- The texts of edits, member by member.
use Rattle.std.proofs.Common.{◌≡◌, ◌≤◌, ◌<◌, ◌+◌, ◌++◌, ℕ, suc, List, [], ◌∷◌, length, map, get_or, drop, refl, sym}
use Rattle.std.proofs.Common.{ap, ◌∙◌, arith, drop-cons}
use Rattle.std.specs.List.{flat_map}
use Rattle.std.proofs.lemmas.List.{drop_all, append-nil}
use Rattle.std.proofs.lemmas.List.Concat.{flat_map-append}
use Rattle.base_outputs.specs.declared.output.Output.{Output}
use Rattle.base_outputs.specs.Output.{Puts}
use Rattle.base_outputs.proofs.OutputLaws.{puts_as}
use Rattle.bank_parts.specs.declared.texts.Texts.{Texts}
use Rattle.bank_parts.specs.declared.texts.InfoId.{InfoId}
use Rattle.bank_parts.specs.declared.texts.InfoId.TheVariants.{Engine, Name, Date, Engineers, Product, Copyright}
use Rattle.bank_parts.specs.declared.texts.InfoId.TheVariants.{Comment, Software}
use Rattle.bank_parts.specs.declared.parts.Head.{Head}
use Rattle.bank_parts.specs.declared.parts.ZoneOwner.{ZoneOwner}
use Rattle.bank_parts.specs.declared.parts.Sample.{Sample}
use Rattle.bank_parts.specs.declared.parts.Parts.{Parts}
use Rattle.bank_parts.specs.Texts.{text_of}
use Rattle.edit_forms.specs.declared.edit.Edit.{Edit}
use Rattle.script_grammar.specs.Operands.{Operand}
use Rattle.script_grammar.specs.Texts.{ids}
use Rattle.script_steps.specs.Instruments.{name_operands}
use Rattle.script_steps.specs.Presets.{head_operands}
use Rattle.edit_script.specs.Printing as printed
use Rattle.edit_script.specs.Printing.{texts_of}
use Rattle.script_of_bank.specs.declared.samples.SamplePoints.{SamplePoints}
use Rattle.script_of_bank.specs.declared.samples.SamplePoints.TheVariants.{Kept, LeftOut}
use Rattle.script_of_bank.specs.BankEdits.{in_turn, text_edits, texts_edits, sample_edits, link_edits, instrument_edits}
use Rattle.script_of_bank.specs.BankEdits.{preset_edits, edits_of_bank}
use Rattle.script_of_bank.specs.Lines.{owner_line, owner_lines}
use Rattle.script_of_bank.specs.BankScript.{selected_sample, selected_edits, with_points}
use Rattle.std.specs.Prelude.{codes, Option}

pub both_texts : (es fs : List Edit) → texts_of (es ++ fs) ≡ texts_of es ++ texts_of fs
both_texts es fs = flat_map-append printed.text_of es fs

pub then_texts : (es fs : List Edit) (text : List ℕ) → texts_of fs ≡ text → texts_of (es ++ fs) ≡ texts_of es ++ text
then_texts es fs text e = both_texts es fs ∙ ap (λ (t : List ℕ). texts_of es ++ t) e

-- ---- the members of a list in order

pub turns_at : {X : Type 0} (edits : ℕ → X → List Edit) (xs : List X) (i : ℕ) (x : X) → i < length xs
    → x ≡ get_or xs i x
    → texts_of (in_turn edits i (drop i xs))
    ≡ texts_of (edits i x) ++ texts_of (in_turn edits (i + 1) (drop (i + 1) xs))
turns_at {X} edits xs i x h e =
    ap (λ (ys : List X). texts_of (in_turn edits i ys))
    (drop-cons xs i x h ∙ ap (λ (y : X). y ∷ drop (suc i) xs) (sym e))
    ∙ both_texts (edits i x) (in_turn edits (suc i) (drop (suc i) xs))
    ∙ (let a : i + 1 ≡ suc i = omega arith in rw a refl)

pub turns_over : {X : Type 0} (edits : ℕ → X → List Edit) (xs : List X) (i : ℕ) → length xs ≤ i
    → texts_of (in_turn edits i (drop i xs)) ≡ []
turns_over {X} edits xs i h = ap (λ (ys : List X). texts_of (in_turn edits i ys)) (drop_all i xs h)

-- the same for the images of members
turns_of : {X : Type 0} (edits fs : ℕ → X → List Edit) (f : X → X) → ((n : ℕ) (x : X) → edits n x ≡ fs n (f x))
    → (n : ℕ) (xs : List X) → in_turn edits n xs ≡ in_turn fs n (map f xs)
turns_of edits fs f same n [] = refl
turns_of edits fs f same n (x ∷ xs) = (λ i. same n x i ++ turns_of edits fs f same (suc n) xs i)

-- ---- presets and instruments

pub presets_lines : (n : ℕ) (xs : List (ZoneOwner Head))
    → owner_lines (codes "add-preset") head_operands n xs ≡ texts_of (in_turn preset_edits n xs)
unfolding printed.text_of
presets_lines n [] = refl
presets_lines n (x ∷ xs) =
    ap (λ (t : List ℕ). owner_line (codes "add-preset") head_operands n x ++ t) (presets_lines (suc n) xs)

pub instruments_lines : (n : ℕ) (xs : List (ZoneOwner (List ℕ)))
    → owner_lines (codes "add-inst") name_operands n xs ≡ texts_of (in_turn instrument_edits n xs)
unfolding printed.text_of
instruments_lines n [] = refl
instruments_lines n (x ∷ xs) =
    ap (λ (t : List ℕ). owner_line (codes "add-inst") name_operands n x ++ t) (instruments_lines (suc n) xs)

-- the line of the next owner: its head and its zones
pub owner_lines_next : {H : Type 0} (word : List ℕ) (head : H → List Operand) (xs : List (ZoneOwner H)) (i : ℕ)
    (x : ZoneOwner H)
    → i < length xs → x ≡ get_or xs i x
    → owner_lines word head i (drop i xs) ≡ owner_line word head i x ++ owner_lines word head (i + 1) (drop (i + 1) xs)
owner_lines_next {H} word head xs i x h e =
    ap (owner_lines word head i) (drop-cons xs i x h ∙ ap (λ (y : ZoneOwner H). y ∷ drop (suc i) xs) (sym e))
    ∙ (let a : i + 1 ≡ suc i = omega arith in rw a refl)

-- ---- the texts

abbrev pub text_lines : Texts → InfoId → List ℕ
text_lines t id = texts_of (text_edits id (text_of t id))

pub puts_text_line : {W : Type 0} {c : W → Option (List ℕ)} {o p : Output W} (t : Texts) (id : InfoId)
    (text : List ℕ)
    → text ≡ text_of t id → Puts c o p (texts_of (text_edits id text)) → Puts c o p (text_lines t id)
puts_text_line t id text e h =
    puts_as (texts_of (text_edits id text)) (text_lines t id)
    (ap (λ (text : List ℕ). texts_of (text_edits id text)) e) h

-- the texts of several ids
pub row_lines : (edits : InfoId → List Edit) (ids : List InfoId)
    → flat_map (λ (id : InfoId). texts_of (edits id)) ids ≡ texts_of (flat_map edits ids)
row_lines edits [] = refl
row_lines edits (id ∷ ids) =
    sym
    (then_texts (edits id) (flat_map edits ids) (flat_map (λ (id : InfoId). texts_of (edits id)) ids)
    (sym (row_lines edits ids)))

pub texts_lines : (t : Texts) → flat_map (text_lines t) ids ≡ texts_of (texts_edits t)
texts_lines t =
    let es : InfoId → List Edit = λ id. text_edits id (text_of t id) in
    row_lines es ids
    ∙ ap
    (λ (last : List Edit).
    texts_of
    (es Engine
    ++ (es Name ++ (es Date ++ (es Engineers ++ (es Product ++ (es Copyright ++ (es Comment ++ last))))))))
    (append-nil (es Software))

-- ---- points

same_samples : (ss : List Sample) → map (selected_sample Kept) ss ≡ ss
same_samples [] = refl
same_samples (s ∷ ss) = ap (λ (xs : List Sample). s ∷ xs) (same_samples ss)

sample_turns : (how : SamplePoints) (n : ℕ) (ss : List Sample)
    → in_turn (selected_edits how) n ss ≡ in_turn sample_edits n (map (selected_sample how) ss)
sample_turns how n ss = turns_of (selected_edits how) sample_edits (selected_sample how) (λ n s. refl) n ss

pub link_turns : (how : SamplePoints) (n : ℕ) (ss : List Sample)
    → in_turn link_edits n ss ≡ in_turn link_edits n (map (selected_sample how) ss)
link_turns how n ss = turns_of link_edits link_edits (selected_sample how) (λ n s. refl) n ss

selected_parts : (how : SamplePoints) (b : Parts)
    → record b { samples = map (selected_sample how) b.samples } ≡ with_points how b
selected_parts Kept b = ap (λ (ss : List Sample). record b { samples = ss }) (same_samples b.samples)
selected_parts LeftOut b = refl

-- all lines of a bank
pub bank_lines : (how : SamplePoints) (b : Parts)
    → texts_of (texts_edits b.texts)
    ++ (texts_of (in_turn (selected_edits how) 0 b.samples)
    ++ (texts_of (in_turn link_edits 0 b.samples)
    ++ (owner_lines (codes "add-inst") name_operands 0 b.instruments
    ++ owner_lines (codes "add-preset") head_operands 0 b.presets)))
    ≡ texts_of (edits_of_bank (with_points how b))
bank_lines how b =
    let selected = record b { samples = map (selected_sample how) b.samples } in
    let es0 = texts_edits b.texts in
    let es1 = in_turn sample_edits 0 selected.samples in
    let es2 = in_turn link_edits 0 selected.samples in
    let es3 = in_turn instrument_edits 0 b.instruments in
    let es4 = in_turn preset_edits 0 b.presets in
    (λ i.
    texts_of es0
    ++
    (texts_of (sample_turns how 0 b.samples i)
    ++
    (texts_of (link_turns how 0 b.samples i)
    ++ (instruments_lines 0 b.instruments i ++ presets_lines 0 b.presets i))))
    ∙ sym
    (then_texts es0 (es1 ++ (es2 ++ (es3 ++ es4))) _
    (then_texts es1 (es2 ++ (es3 ++ es4)) _ (then_texts es2 (es3 ++ es4) _ (both_texts es3 es4))))
    ∙ ap (λ (p : Parts). texts_of (edits_of_bank p)) (selected_parts how b)
