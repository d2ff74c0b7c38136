-- The recordings appended so far, and those that follow.
use Rattle.std.proofs.Common.{◌≡◌, ◌≤◌, ◌+◌, ◌++◌, ◌∷◌, [], ℕ, Bool, true, false, nat_le, if◌then◌else◌, List, length}
use Rattle.std.proofs.Common.{refl, sym, ap}
use Rattle.std.proofs.Common.{subst, ◌∙◌, arith}
use Rattle.std.specs.Bool.{OnTrue}
use Rattle.std.proofs.lemmas.Bool.{leb-true}
use Rattle.std.proofs.lemmas.List.{append-nil, append_assoc}
use Rattle.sf_base.specs.declared.limits.TheConstants.{SAMPLES}
use Rattle.edit_forms.specs.declared.edit.Edit.{Edit}
use Rattle.wave_file.specs.Imports.{BothSides, import_edits}
use Rattle.kit_edits.specs.declared.kit.KitRecording.{KitRecording}
use Rattle.kit_edits.specs.declared.samples.KitSamples.{KitSamples}
use Rattle.kit_edits.specs.Names.{has_name}
use Rattle.kit_edits.specs.Numbers.{sample_count, numbered, all_numbered, have_room, name_of, used_after, sample_edits}
use Rattle.kit_edits.specs.Appending.{AreSplit, IsStarted, IsNumbered, IsAppended, AreSamples, no_names}

-- some of the recordings rs are appended to n samples; these remain
pub record Appending (n : ℕ) (rs : List KitRecording) (kit : KitSamples) (rest : List KitRecording)
    (sides : List BothSides) : Type 0 where
  pub count : kit.count ≤ SAMPLES
  pub split : AreSplit rest sides
  pub room : have_room kit.count rest ≡ have_room n rs
  pub edits : kit.edits.items ++ sample_edits kit.count (has_name kit.used) rest ≡ sample_edits n no_names rs
  pub numbers : kit.numbered.items ++ all_numbered kit.count rest ≡ all_numbered n rs

pub started : (n : ℕ) (rs rest : List KitRecording) (kit : KitSamples) (sides : List BothSides) → IsStarted n kit
    → n ≤ SAMPLES → rest ≡ rs → AreSplit rs sides → Appending n rs kit rest sides
started n rs rest kit sides s most e split = record {
  count = subst (λ m. m ≤ SAMPLES) (sym s.count) most;
  split = subst (λ (xs : List KitRecording). AreSplit xs sides) (sym e) split;
  room = λ i. have_room (s.count i) (e i);
  edits = λ i. s.edits i ++ sample_edits (s.count i) (λ name. s.used name i) (e i);
  numbers = λ i. s.numbered i ++ all_numbered (s.count i) (e i);
}

-- the points of the next recording
pub split_here : (rest others : List KitRecording) (sides later : List BothSides) (r : KitRecording) (s : BothSides)
    → rest ≡ r ∷ others → sides ≡ s ∷ later → AreSplit rest sides → AreSplit (r ∷ others) (s ∷ later)
split_here rest others sides later r s e f split =
    subst (λ (xs : List KitRecording). AreSplit xs (s ∷ later)) e
    (subst (λ (ys : List BothSides). AreSplit rest ys) f split)

-- points remain while recordings do
pub some_remain : (rest others : List KitRecording) (sides : List BothSides) (r : KitRecording) → rest ≡ r ∷ others
    → length sides ≡ 0 → AreSplit rest sides → ⊥
some_remain rest others [] r e none split = subst (λ (xs : List KitRecording). AreSplit xs []) e split
some_remain rest others (s ∷ sides) r e none split = absurd (omega (arith, none))

-- a list without members
pub is_empty : {X : Type 0} (xs : List X) (n : ℕ) → n ≡ length xs → n ≡ 0 → xs ≡ []
is_empty [] n e none = refl
is_empty (x ∷ xs) n e none = absurd (omega (arith, e, none))

module _ (n : ℕ) (rs rest others : List KitRecording) (kit new : KitSamples) (sides later : List BothSides)
    (r : KitRecording) (s : BothSides) (has_room : Bool)
    (was : Appending n rs kit rest sides) (here : rest ≡ r ∷ others) (points : sides ≡ s ∷ later)
    (is : IsAppended kit new r has_room) where
  abbrev imported : List Edit
  imported = import_edits kit.count (name_of (has_name kit.used) r) r.recording

  abbrev after : ℕ
  after = kit.count + sample_count r

  abbrev later_edits : List Edit
  later_edits = sample_edits after (used_after (has_name kit.used) r) others

  -- what was known, with the next recording in front
  edits_were : kit.edits.items ++ (imported ++ (if nat_le after SAMPLES then later_edits else []))
      ≡ sample_edits n no_names rs
  edits_were =
      ap (λ (xs : List KitRecording). kit.edits.items ++ sample_edits kit.count (has_name kit.used) xs) (sym here)
      ∙ was.edits

  room_was : (if nat_le after SAMPLES then have_room after others else false) ≡ have_room n rs
  room_was = ap (λ (xs : List KitRecording). have_room kit.count xs) (sym here) ∙ was.room

  numbers_were : kit.numbered.items ++ (numbered kit.count r ∷ all_numbered after others) ≡ all_numbered n rs
  numbers_were =
      ap (λ (xs : List KitRecording). kit.numbered.items ++ all_numbered kit.count xs) (sym here) ∙ was.numbers

  pub appended : has_room ≡ true → Appending n rs new others later
  appended e =
      let fits : nat_le after SAMPLES ≡ true = sym is.room ∙ e in
      let got : IsNumbered kit new r = subst (λ (b : Bool). OnTrue b (IsNumbered kit new r)) e is.numbers in
      record {
        count = subst (λ m. m ≤ SAMPLES) (sym got.count) (leb-true after SAMPLES fits);
        split = (split_here rest others sides later r s here points was.split).1;
        room =
            ap (λ m. have_room m others) got.count
            ∙ ap (λ (b : Bool). if b then have_room after others else false) (sym fits)
            ∙ room_was;
        edits =
            (λ i. is.edits i ++ sample_edits (got.count i) (λ name. is.used name i) others)
            ∙ append_assoc kit.edits.items imported later_edits
            ∙ ap (λ (b : Bool). kit.edits.items ++ (imported ++ (if b then later_edits else []))) (sym fits)
            ∙ edits_were;
        numbers =
            (λ i. got.numbered i ++ all_numbered (got.count i) others)
            ∙ append_assoc kit.numbered.items (numbered kit.count r ∷ []) (all_numbered after others)
            ∙ numbers_were;
      }

  pub stopped : has_room ≡ false → AreSamples n rs new false
  stopped e =
      let full : nat_le after SAMPLES ≡ false = sym is.room ∙ e in
      record {
        room = ap (λ (b : Bool). if b then have_room after others else false) (sym full) ∙ room_was;
        edits =
            is.edits
            ∙ ap (λ (xs : List Edit). kit.edits.items ++ xs) (sym (append-nil imported))
            ∙ ap (λ (b : Bool). kit.edits.items ++ (imported ++ (if b then later_edits else []))) (sym full)
            ∙ edits_were;
        numbers = tt;
      }

pub finished : (n : ℕ) (rs rest : List KitRecording) (kit : KitSamples) (sides : List BothSides)
    → Appending n rs kit rest sides → rest ≡ [] → AreSamples n rs kit true
finished n rs rest kit sides was none = record {
  room = ap (λ (xs : List KitRecording). have_room kit.count xs) (sym none) ∙ was.room;
  edits =
      sym (append-nil kit.edits.items)
      ∙ ap (λ (xs : List KitRecording). kit.edits.items ++ sample_edits kit.count (has_name kit.used) xs) (sym none)
      ∙ was.edits;
  numbers =
      sym (append-nil kit.numbered.items)
      ∙ ap (λ (xs : List KitRecording). kit.numbered.items ++ all_numbered kit.count xs) (sym none)
      ∙ was.numbers;
}
