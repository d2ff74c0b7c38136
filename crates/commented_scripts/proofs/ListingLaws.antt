-- Edits that are listed member by member.
use Rattle.std.proofs.Common.{◌≡◌, ◌≤◌, ◌<◌, ◌+◌, ◌++◌, ℕ, suc, List, [], ◌∷◌, length, map, get_or, drop, refl, sym}
use Rattle.std.proofs.Common.{ap, ◌∙◌, arith, drop-cons, append_assoc}
use Rattle.std.specs.List.{flat_map}
use Rattle.std.proofs.lemmas.List.{drop_all, at_drop_more, append-nil}
use Rattle.bank_parts.specs.declared.texts.Texts.{Texts}
use Rattle.bank_parts.specs.declared.texts.InfoId.{InfoId}
use Rattle.bank_parts.specs.declared.texts.InfoId.TheVariants.{Engine, Name, Date, Engineers, Product, Copyright}
use Rattle.bank_parts.specs.declared.texts.InfoId.TheVariants.{Comment, Software}
use Rattle.bank_parts.specs.declared.parts.Head.{Head}
use Rattle.bank_parts.specs.declared.parts.ZoneOwner.{ZoneOwner}
use Rattle.bank_parts.specs.declared.parts.Sample.{Sample}
use Rattle.bank_parts.specs.declared.parts.Parts.{Parts}
use Rattle.bank_parts.specs.Texts.{text_of}
use Rattle.edit_forms.specs.declared.edit.Edit.{Edit}
use Rattle.script_grammar.specs.Texts.{ids}
use Rattle.script_of_bank.specs.declared.samples.SamplePoints.{SamplePoints}
use Rattle.script_of_bank.specs.declared.samples.SamplePoints.TheVariants.{Kept, LeftOut}
use Rattle.script_of_bank.specs.BankEdits.{in_turn, text_edits, texts_edits, sample_edits, link_edits, instrument_edits}
use Rattle.script_of_bank.specs.BankEdits.{preset_edits, edits_of_bank}
use Rattle.script_of_bank.specs.BankScript.{selected_sample, selected_edits, with_points}
use Rattle.script_of_bank.proofs.TextLaws.{link_turns}

-- ---- what remains to be listed

-- old edits, and then those that are listed so far; the rest of the whole is still to be listed
pub record Listing (old now whole rest : List Edit) : Type 0 where
  pub parts : now ++ rest ≡ old ++ whole

pub listing_start : (old whole : List Edit) → Listing old old whole whole
listing_start old whole = record { parts = refl }

pub listing_step : {old now whole rest new : List Edit} (next others : List Edit) → Listing old now whole rest
    → rest ≡ next ++ others → new ≡ now ++ next → Listing old new whole others
listing_step {old} {now} {whole} {rest} {new} next others was here e = record {
  parts =
      ap (λ (es : List Edit). es ++ others) e
      ∙ append_assoc now next others
      ∙ ap (λ (es : List Edit). now ++ es) (sym here)
      ∙ was.parts;
}

pub listing_end : {old now whole rest : List Edit} → Listing old now whole rest → rest ≡ [] → now ≡ old ++ whole
listing_end {old} {now} {whole} {rest} was none =
    sym (append-nil now) ∙ ap (λ (es : List Edit). now ++ es) (sym none) ∙ was.parts

-- ---- members in order

pub turns_next : {X : Type 0} (edits : ℕ → X → List Edit) (xs : List X) (i : ℕ) (x : X) → i < length xs
    → x ≡ get_or xs i x → in_turn edits i (drop i xs) ≡ edits i x ++ in_turn edits (i + 1) (drop (i + 1) xs)
turns_next {X} edits xs i x h e =
    ap (λ (ys : List X). in_turn edits i ys)
    (drop-cons xs i x h ∙ ap (λ (y : X). y ∷ drop (suc i) xs) (sym e))
    ∙ (let a : i + 1 ≡ suc i = omega arith in rw a refl)

pub turns_over : {X : Type 0} (edits : ℕ → X → List Edit) (xs : List X) (i : ℕ) → length xs ≤ i
    → in_turn edits i (drop i xs) ≡ []
turns_over {X} edits xs i h = ap (λ (ys : List X). in_turn edits i ys) (drop_all i xs h)

-- ---- the texts

abbrev pub edits_of_text : Texts → InfoId → List Edit
edits_of_text t id = text_edits id (text_of t id)

pub text_listed : {old now whole new : List Edit} (t : Texts) (ids : List InfoId) (i : ℕ) (d : InfoId) (text : List ℕ)
    → Listing old now whole (flat_map (edits_of_text t) (drop i ids)) → i < length ids
    → text ≡ text_of t (get_or ids i d)
    → new ≡ now ++ text_edits (get_or ids i d) text
    → Listing old new whole (flat_map (edits_of_text t) (drop (i + 1) ids))
text_listed {now = now} t ids i d text was h is e =
    let id = get_or ids i d in
    listing_step (edits_of_text t id) (flat_map (edits_of_text t) (drop (i + 1) ids)) was
    (at_drop_more (flat_map (edits_of_text t)) ids i d h)
    (e ∙ ap (λ (text : List ℕ). now ++ text_edits id text) is)

pub all_texts : (t : Texts) → flat_map (edits_of_text t) ids ≡ texts_edits t
all_texts t =
    let es : InfoId → List Edit = edits_of_text t in
    ap
    (λ (last : List Edit).
    es Engine
    ++ (es Name ++ (es Date ++ (es Engineers ++ (es Product ++ (es Copyright ++ (es Comment ++ last)))))))
    (append-nil (es Software))

-- ---- points

sample_turns : (n : ℕ) (ss : List Sample)
    → in_turn (selected_edits LeftOut) n ss ≡ in_turn sample_edits n (map (selected_sample LeftOut) ss)
sample_turns n [] = refl
sample_turns n (s ∷ ss) = ap (λ (es : List Edit). selected_edits LeftOut n s ++ es) (sample_turns (suc n) ss)

-- ---- the bank

abbrev rest_after_samples : Parts → List Edit
rest_after_samples b = in_turn instrument_edits 0 b.instruments ++ in_turn preset_edits 0 b.presets

-- all edits, in the order in which they are listed
bank_edits : (how : SamplePoints) (b : Parts)
    → texts_edits b.texts
    ++ (in_turn (selected_edits how) 0 b.samples
    ++ (in_turn link_edits 0 b.samples
    ++ (in_turn instrument_edits 0 b.instruments
    ++ in_turn preset_edits 0 b.presets)))
    ≡ edits_of_bank (with_points how b)
bank_edits Kept b = refl
bank_edits LeftOut b =
    (λ i. texts_edits b.texts
    ++ (sample_turns 0 b.samples i ++ (link_turns LeftOut 0 b.samples i ++ rest_after_samples b)))

-- texts, samples, links, instruments and presets are listed one after another
pub all_listed : (how : SamplePoints) (b : Parts) {es0 es1 es2 es3 es4 es5 : List Edit} {added linked : List Sample}
    {instruments : List (ZoneOwner (List ℕ))} {presets : List (ZoneOwner Head)} → es0 ≡ []
    → es1 ≡ es0 ++ texts_edits b.texts
    → added ≡ b.samples → es2 ≡ es1 ++ in_turn (selected_edits how) 0 added
    → linked ≡ b.samples → es3 ≡ es2 ++ in_turn link_edits 0 linked
    → instruments ≡ b.instruments → es4 ≡ es3 ++ in_turn instrument_edits 0 instruments
    → presets ≡ b.presets → es5 ≡ es4 ++ in_turn preset_edits 0 presets
    → es5 ≡ edits_of_bank (with_points how b)
all_listed how b {es1 = es1} none texts s samples l links i instruments p presets =
    let one = texts_edits b.texts in
    let two = in_turn (selected_edits how) 0 b.samples in
    let three = in_turn link_edits 0 b.samples in
    let four = in_turn instrument_edits 0 b.instruments in
    let five = in_turn preset_edits 0 b.presets in
    let first : es1 ≡ one = texts ∙ ap (λ (es : List Edit). es ++ one) none in
    presets
    ∙ (λ j. instruments j ++ in_turn preset_edits 0 (p j))
    ∙ (λ j. (links j ++ in_turn instrument_edits 0 (i j)) ++ five)
    ∙ (λ j. ((samples j ++ in_turn link_edits 0 (l j)) ++ four) ++ five)
    ∙ (λ j. (((first j ++ in_turn (selected_edits how) 0 (s j)) ++ three) ++ four) ++ five)
    ∙ append_assoc ((one ++ two) ++ three) four five
    ∙ append_assoc (one ++ two) three (four ++ five)
    ∙ append_assoc one two (three ++ (four ++ five))
    ∙ bank_edits how b
