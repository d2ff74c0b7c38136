-- The history of a bank with undo and redo lists.
use Rattle.std.proofs.Common.{◌≡◌, ℕ, suc, ◌+◌, ◌-◌, Option, None, slice_get, List, [], ◌∷◌, ◌++◌, map, reverse, length, take, refl, sym, subst, ◌∙◌, ap}
use Rattle.std.proofs.Common.{append_assoc, Some, arith}
use Rattle.std.proofs.lemmas.Grind.{common_steps}
use Rattle.std.proofs.Math.Seq.{take-append_seam}
use Rattle.std.proofs.lemmas.List.{reverse-reverse}
use Rattle.std.specs.Prelude.{zip, MatchOption}
use Rattle.std.specs.Borrow.{Bor}
use Rattle.std.specs.Option.{option_copied}
use Rattle.bank_parts.specs.declared.parts.Parts.{Parts}
use Rattle.bank_parts.specs.Sound.{IsSound}
use Rattle.edit_forms.specs.declared.edit.Edit.{Edit}
use Rattle.edit_refusals.specs.Edits.{raw}
use Rattle.bank_edits.specs.EditChanges.{inverse}
use Rattle.bank_edits.specs.Runs.{AllAccepted, undo_list}
use Rattle.bank_edits.proofs.Law.{undone}
use Rattle.inverse_edits.specs.Histories.{IsHistory, AreLinked, Follow, MovesForward, bank_now, edited, undo_edits}
use Rattle.inverse_edits.specs.Histories.{banks_before, banks_after, history_of, IsLast}
use Rattle.inverse_edits.proofs.ListLaws.{get_seam, take_past_seam, take_zip, map_zip_push, reverse_cons, reverse_push}

-- ---- lengths

length_before : (b : Parts) (undos : List Edit) → length (banks_before b undos) ≡ length undos
length_before b [] = refl
length_before b (e ∷ undos) = grind (arith, common_steps, length_before (raw b e) undos)

length_undos : (b : Parts) (undos : List Edit) → length (undo_list b undos) ≡ length undos
length_undos b [] = refl
length_undos b (e ∷ undos) = grind (arith, common_steps, length_undos (raw b e) undos)

length_after : (b : Parts) (next : List Edit) → length (banks_after b next) ≡ length next
length_after b [] = refl
length_after b (e ∷ next) = grind (arith, common_steps, length_after (raw b e) next)

pub bank_total : (b : Parts) (undos next : List Edit)
    → length (banks_before b undos ++ b ∷ banks_after b next) ≡ length undos + 1 + length next
bank_total b undos next = grind (arith, common_steps, length_before b undos, length_after b next)

-- ---- the banks and edits are a history

follow_after : (b : Parts) (next : List Edit) → AllAccepted b next → Follow b (banks_after b next) next
follow_after b [] t = tt
follow_after b (e ∷ next) t = (t.0, refl, follow_after (raw b e) next t.1)

linked_before : (b : Parts) (undos : List Edit) (banks : List Parts) (edits : List Edit) → IsSound b
    → AllAccepted b undos → Follow b banks edits
    → AreLinked (banks_before b undos ++ b ∷ banks) (undo_list b undos ++ edits)
linked_before b [] banks edits s t f = f
linked_before b (e ∷ undos) banks edits s t f =
    let u = undone b e s t.0 in
    let c : Parts = raw b e in
    let there = linked_before c undos (b ∷ banks) (inverse b e ∷ edits) u.sound t.1 (u.is_accepted, sym u.restored, f) in
    subst (λ (l : List Parts). AreLinked l ((undo_list c undos ++ inverse b e ∷ []) ++ edits))
    (sym (append_assoc (banks_before c undos) (c ∷ []) (b ∷ banks)))
    (subst (λ (l : List Edit). AreLinked (banks_before c undos ++ c ∷ b ∷ banks) l)
    (sym (append_assoc (undo_list c undos) (inverse b e ∷ []) edits)) there)

pub is_history : (b : Parts) (undos next : List Edit) → IsSound b → AllAccepted b undos → AllAccepted b next
    → IsHistory (history_of b undos next)
is_history b undos next s t n = record {
  linked = linked_before b undos (banks_after b next) next s t (follow_after b next n);
  within = omega (arith, bank_total b undos next);
}

pub bank_now_is : (b : Parts) (undos next : List Edit) → bank_now (history_of b undos next) ≡ Some b
bank_now_is b undos next = rw (← length_before b undos) (get_seam (banks_before b undos) (banks_after b next) b)

-- ---- undo, redo and edit in a history

module _ (b c : Parts) (e i : Edit) (undos next : List Edit) (back : raw c i ≡ b) (redone : inverse c i ≡ e) where
  banks_grow : (more : List Parts)
      → (banks_before (raw c i) undos ++ raw c i ∷ []) ++ more ≡ banks_before b undos ++ b ∷ more
  banks_grow more =
      append_assoc (banks_before (raw c i) undos) (raw c i ∷ []) more
      ∙ ap (λ (x : Parts). banks_before x undos ++ x ∷ more) back

  edits_grow : (more : List Edit)
      → (undo_list (raw c i) undos ++ inverse c i ∷ []) ++ more ≡ undo_list b undos ++ e ∷ more
  edits_grow more =
      append_assoc (undo_list (raw c i) undos) (inverse c i ∷ []) more
      ∙
      (ap (λ (x : Parts). undo_list x undos ++ inverse c i ∷ more) back
      ∙ ap (λ (x : Edit). undo_list b undos ++ x ∷ more) redone)

  pub forth : raw b e ≡ c → MovesForward (history_of b undos (e ∷ next)) (history_of c (i ∷ undos) next)
  forth there =
      let banks : (banks_before (raw c i) undos ++ raw c i ∷ []) ++ c ∷ banks_after c next
      ≡ banks_before b undos ++ b ∷ raw b e ∷ banks_after (raw b e) next
      = banks_grow (c ∷ banks_after c next)
      ∙ ap (λ (x : Parts). banks_before b undos ++ b ∷ x ∷ banks_after x next) (sym there) in
      let index : length (i ∷ undos) ≡ length undos + 1 = omega arith in
      record {
        next = omega (arith, bank_total b undos (e ∷ next));
        moved = λ k. record { banks = banks k; edits = edits_grow next k; index = index k };
      }

  pub edit_done : (was : List Edit) → history_of c (i ∷ undos) [] ≡ edited (history_of b undos was) e c
  edit_done was =
      let kept_banks : take (length undos + 1) (banks_before b undos ++ b ∷ banks_after b was)
      ≡ banks_before b undos ++ b ∷ []
      = rw (← length_before b undos) (take_past_seam (banks_before b undos) (banks_after b was) b) in
      let kept_edits : take (length undos) (undo_list b undos ++ was) ≡ undo_list b undos
      = rw (← length_undos b undos) (take-append_seam (undo_list b undos) was) in
      let banks : (banks_before (raw c i) undos ++ raw c i ∷ []) ++ c ∷ []
      ≡ take (length undos + 1) (banks_before b undos ++ b ∷ banks_after b was) ++ c ∷ []
      = banks_grow (c ∷ [])
      ∙
      (sym (append_assoc (banks_before b undos) (b ∷ []) (c ∷ []))
      ∙ ap (λ (l : List Parts). l ++ c ∷ []) (sym kept_banks))
      in
      let edits : (undo_list (raw c i) undos ++ inverse c i ∷ []) ++ []
      ≡ take (length undos) (undo_list b undos ++ was) ++ e ∷ []
      = edits_grow [] ∙ ap (λ (l : List Edit). l ++ e ∷ []) (sym kept_edits) in
      let index : length (i ∷ undos) ≡ length undos + 1 = omega arith in
      λ k. record { banks = banks k; edits = edits k; index = index k }

-- ---- the undo list

inverses : (b : Parts) (undos : List Edit) → IsSound b → AllAccepted b undos
    → map (λ (step : Parts × Edit). inverse step.0 step.1) (zip (banks_before b undos) (undo_list b undos))
    ≡ reverse undos
inverses b [] s t = refl
inverses b (e ∷ undos) s t =
    let u = undone b e s t.0 in
    let c : Parts = raw b e in
    let f = λ (step : Parts × Edit). inverse step.0 step.1 in
    map_zip_push f (banks_before c undos) (undo_list c undos) c (inverse b e)
    (length_before c undos ∙ sym (length_undos c undos))
    ∙ (ap (λ (l : List Edit). l ++ inverse c (inverse b e) ∷ []) (inverses c undos u.sound t.1)
    ∙ (ap (λ (x : Edit). reverse undos ++ x ∷ []) u.redone ∙ sym (reverse_cons undos e)))

pub undo_list_is : (b : Parts) (undos next : List Edit) → IsSound b → AllAccepted b undos
    → undo_edits (history_of b undos next) ≡ reverse undos
undo_list_is b undos next s t =
    let f = λ (step : Parts × Edit). inverse step.0 step.1 in
    let cut : take (length undos) (zip (banks_before b undos ++ b ∷ banks_after b next) (undo_list b undos ++ next))
    ≡ zip (banks_before b undos) (undo_list b undos)
    = rw (← length_undos b undos)
    (take_zip (banks_before b undos) (b ∷ banks_after b next) (undo_list b undos) next
    (length_before b undos ∙ sym (length_undos b undos)))
    in
    ap (λ (l : List (Parts × Edit)). map f l) cut ∙ inverses b undos s t

-- ---- the next edits

past_first : (x y : Edit) (xs : List Edit)
    → slice_get (x ∷ y ∷ xs) (length (x ∷ y ∷ xs) - 1) ≡ slice_get (y ∷ xs) (length (y ∷ xs) - 1)
past_first x y xs =
    let next : length (x ∷ y ∷ xs) - 1 ≡ suc (length (y ∷ xs) - 1) = omega arith in ap (slice_get (x ∷ y ∷ xs)) next

last_is : (xs : List Edit) (r : Option (Bor Edit)) → option_copied r ≡ slice_get xs (length xs - 1)
    → MatchOption r (xs ≡ []) (λ (e : Bor Edit). IsLast xs e.now)
last_is [] None h = refl
last_is [] (Some e) h = absurd cc
last_is (x ∷ []) None h = absurd cc
last_is (x ∷ []) (Some e) h = ([], (let same : e.now ≡ x = cc in λ j. sym same j ∷ []))
last_is (x ∷ y ∷ xs) None h =
    let none : y ∷ xs ≡ [] = last_is (y ∷ xs) None (h ∙ past_first x y xs) in absurd cc
last_is (x ∷ y ∷ xs) (Some e) h =
    let k : IsLast (y ∷ xs) e.now = last_is (y ∷ xs) (Some e) (h ∙ past_first x y xs) in
    (x ∷ k.0, ap (λ (l : List Edit). x ∷ l) k.1)

none_left : (xs : List Edit) → xs ≡ [] → length (reverse xs) ≡ 0
none_left xs e = ap (λ (l : List Edit). length (reverse l)) e

pub next_undo_is : (b : Parts) (undo : List Edit) (next : List Edit) → IsSound b → AllAccepted b (reverse undo)
    → (r : Option (Bor Edit)) → option_copied r ≡ slice_get undo (length undo - 1)
    → MatchOption r ((history_of b (reverse undo) next).index ≡ 0)
    (λ (e : Bor Edit). IsLast (undo_edits (history_of b (reverse undo) next)) e.now)
next_undo_is b undo next s t None h = none_left undo (last_is undo None h)
next_undo_is b undo next s t (Some e) h =
    subst (λ (l : List Edit). IsLast l e.now)
    (sym (undo_list_is b (reverse undo) next s t ∙ reverse-reverse undo))
    (last_is undo (Some e) h)

pub next_redo_is : (b : Parts) (undos redo : List Edit) (r : Option (Bor Edit))
    → option_copied r ≡ slice_get redo (length redo - 1)
    → MatchOption r ((history_of b undos (reverse redo)).index + 1 ≡ length (history_of b undos (reverse redo)).banks)
    (λ (e : Bor Edit).
    slice_get (history_of b undos (reverse redo)).edits (history_of b undos (reverse redo)).index ≡ Some e.now)
next_redo_is b undos redo None h =
    let none : length (reverse redo) ≡ 0 = none_left redo (last_is redo None h) in
    omega (arith, bank_total b undos (reverse redo), none)
next_redo_is b undos redo (Some e) h =
    let k : IsLast redo e.now = last_is redo (Some e) h in
    let first : reverse redo ≡ e.now ∷ reverse k.0 = ap reverse k.1 ∙ reverse_push k.0 e.now in
    ap (λ (l : List Edit). slice_get (undo_list b undos ++ l) (length undos)) first
    ∙ ap (λ (n : ℕ). slice_get (undo_list b undos ++ e.now ∷ reverse k.0) n) (sym (length_undos b undos))
    ∙ get_seam (undo_list b undos) (reverse k.0) e.now
