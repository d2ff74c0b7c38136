-- Spans of lists that change.
use Rattle.std.proofs.Common.{◌≡◌, ◌≢◌, ℕ, ◌<◌, ◌≤◌, ◌+◌, ◌-◌, inl, inr, suc, zero, Bool, ◌||◌, false, true, List}
use Rattle.std.proofs.Common.{[], ◌∷◌, ◌++◌, length, map, insert, remove, slice_get, Option, Some, None, refl, sym}
use Rattle.std.proofs.Common.{◌∙◌, ap, arith, subst}
use Rattle.std.proofs.lemmas.Bool.{cases_lt, cases_eq}
use Rattle.std.proofs.lemmas.List.{length-map}
use Rattle.std.proofs.lemmas.List.Edits.{length-insert, length-remove, insert_end}
use Rattle.std.proofs.lemmas.List.Folds.{list_any_at}
use Rattle.std.proofs.lemmas.Option.{get_or_from_slice_get, slice_get_within}
use Rattle.std.specs.Prelude.{IfSome}
use Rattle.std.specs.List.{list_any}
use Rattle.base_numbered_lists.specs.Moved.{moved, changed_within}
use Rattle.base_numbered_lists.proofs.Lists.{slice_get-found, slice_get-insert, slice_get-insert_below}
use Rattle.base_numbered_lists.proofs.Lists.{slice_get-insert_above, slice_get-remove_below, slice_get-remove_above}
use Rattle.base_numbered_lists.proofs.Lists.{moved-found}
use Rattle.bank_linked_members.specs.declared.span.LinkSpan.{LinkSpan}
use Rattle.bank_linked_members.specs.Spans.{IsLinkSpan, IsLinkSpanExcept, IsOutside, IsShifted}
use Rattle.bank_linked_members.proofs.Parts.{all_changed}

if_some : {X : Type 0} {P Q : X → Type 0} → (o : Option X) → ((x : X) → P x → Q x) → IfSome o P → IfSome o Q
if_some None f h = tt
if_some (Some x) f h = f x h

if_some_map : {X Y : Type 0} (P : Y → Type 0) (f : X → Y) (xs : List X) (i : ℕ)
    → IfSome (slice_get xs i) (λ x. P (f x)) → IfSome (slice_get (map f xs) i) P
if_some_map P f [] zero h = tt
if_some_map P f [] (suc i) h = tt
if_some_map P f (x ∷ xs) zero h = h
if_some_map P f (x ∷ xs) (suc i) h = if_some_map P f xs i h

-- The same for a span.
abbrev pub IsLinkSpanOf : {X : Type 0} → (X → Bool) → LinkSpan → List X → Type 0
IsLinkSpanOf h span xs = IsLinkSpan h xs span

-- ---- the members outside a span

module _ {X : Type 0} (h : X → Bool) where
  abbrev Free : Option X → Type 0
  Free o = IfSome o (λ x. h x ≡ false)

  -- Renumbering keeps them.
  pub linked_changed : (f : X → X) → ((x : X) → h x ≡ false → f x ≡ x) → (xs : List X) (span : LinkSpan)
      → IsLinkSpan h xs span → changed_within span.start span.end f xs ≡ map f xs
  linked_changed f stays xs span s =
      all_changed f xs span.start span.end s.order (λ i o. if_some (slice_get xs i) stays (s.outside i o))

  pub span_changed : (f : X → X) → ((x : X) → h x ≡ false → f x ≡ x) → (xs : List X) (span : LinkSpan) → IsLinkSpan h xs span
      → IsLinkSpan h (map f xs) span
  span_changed f stays xs span s =
      let size = length-map xs f in
      let within = s.within in
      record {
        order = s.order;
        within = omega arith;
        outside =
            λ i o.
            if_some_map (λ y. h y ≡ false) f xs i
            (if_some (slice_get xs i) (λ x free. subst (λ y. h y ≡ false) (sym (stays x free)) free)
            (s.outside i o));
      }

  pub span_inserted : (xs : List X) (at : ℕ) (x : X) (span r : LinkSpan) → IsLinkSpan h xs span → at ≤ length xs
      → r.start ≤ r.end → r.end ≤ length (insert xs at x)
      → ((i : ℕ) → IsOutside r i → i < at → IsOutside span i)
      → ((i : ℕ) → IsOutside r (i + 1) → at ≤ i → IsOutside span i) → (IsOutside r at → h x ≡ false)
      → IsLinkSpan h (insert xs at x) r
  span_inserted xs at x span r s place order within below above own =
      let free : (i : ℕ) → IsOutside r i → Free (slice_get (insert xs at x) i) = λ i o. elim (cases_lt i at) [
        | inl l ↦ subst Free (sym (slice_get-insert_below xs at x i place l)) (s.outside i (below i o l))
        | inr g ↦ elim (cases_eq i at) [
          | inl same ↦ subst (λ k. Free (slice_get (insert xs at x) k)) (sym same)
              (subst Free (sym (slice_get-insert xs at x place)) (own (subst (IsOutside r) same o)))
          | inr other ↦
              let before : i ≡ i - 1 + 1 = omega arith in
              let next : i ≡ suc (i - 1) = omega arith in
              let tail_changed : at ≤ i - 1 = omega arith in
              subst (λ k. Free (slice_get (insert xs at x) k)) (sym next)
              (subst Free (sym (slice_get-insert_above xs at x (i - 1) place tail_changed))
              (s.outside (i - 1) (above (i - 1) (subst (IsOutside r) before o) tail_changed)))
        ]
      ] in
      record { order = order; within = within; outside = free }

  pub span_removed : (xs : List X) (at : ℕ) (span r : LinkSpan) → IsLinkSpan h xs span → at < length xs → r.start ≤ r.end
      → r.end ≤ length (remove xs at)
      → ((i : ℕ) → IsOutside r i → i < at → IsOutside span i)
      → ((i : ℕ) → IsOutside r i → at ≤ i → IsOutside span (i + 1))
      → IsLinkSpan h (remove xs at) r
  span_removed xs at span r s place order within below above =
      let free : (i : ℕ) → IsOutside r i → Free (slice_get (remove xs at) i) = λ i o. elim (cases_lt i at) [
        | inl l ↦ subst Free (sym (slice_get-remove_below xs at i l)) (s.outside i (below i o l))
        | inr g ↦
            let next : i + 1 ≡ suc i = omega arith in
            subst Free (sym (slice_get-remove_above xs at i g))
            (s.outside (suc i) (subst (IsOutside span) next (above i o g)))
      ] in
      record { order = order; within = within; outside = free }

  -- A move is a removal and then an insertion.
  pub span_moved : (xs : List X) (from to : ℕ) (x : X) (span others r : LinkSpan) → IsLinkSpan h xs span → from < length xs
      → to < length xs → slice_get xs from ≡ Some x
      → others.start ≤ others.end → others.end ≤ length (remove xs from)
      → ((i : ℕ) → IsOutside others i → i < from → IsOutside span i)
      → ((i : ℕ) → IsOutside others i → from ≤ i → IsOutside span (i + 1))
      → r.start ≤ r.end → r.end ≤ length xs
      → IsShifted others r to → (IsOutside r to → h x ≡ false)
      → IsLinkSpan h (moved xs from to) r
  span_moved xs from to x span others r s there place e order_others within_others below above order within shift own =
      let rest = length-remove xs from there in
      let inside : to ≤ length (remove xs from) = omega arith in
      let whole = length-insert (remove xs from) to x inside in
      let long : r.end ≤ length (insert (remove xs from) to x) = omega arith in
      subst (IsLinkSpanOf h r) (sym (moved-found xs from to x e))
      (span_inserted (remove xs from) to x others r
      (span_removed xs from span others s there order_others within_others below above)
      inside order long shift.below shift.above own)

  pub span_pushed : (xs : List X) (x : X) (span r : LinkSpan) → IsLinkSpan h xs span → r.start ≤ r.end
      → r.end ≤ length (xs ++ x ∷ [])
      → IsShifted span r (length xs) → (IsOutside r (length xs) → h x ≡ false) → IsLinkSpan h (xs ++ x ∷ []) r
  span_pushed xs x span r s order within shift own =
      let is = insert_end xs x in
      subst (IsLinkSpanOf h r) is
      (span_inserted xs (length xs) x span r s (omega arith) order
      (subst (λ ys. r.end ≤ length ys) (sym is) within) shift.below shift.above own)

  -- ---- the borrowed member

  pub no_borrowed : (xs : List X) (span : LinkSpan) → IsLinkSpan h xs span → IsLinkSpanExcept h xs span None
  no_borrowed xs span s =
      record { order = s.order; within = s.within; there = tt; outside = λ i o n. s.outside i o }

  pub span_of_linked : (xs : List X) (span r : LinkSpan) (b : ℕ) → IsLinkSpanExcept h xs span (Some b) → r.end ≤ length xs
      → r.start ≤ b → b < r.end → ((i : ℕ) → IsOutside r i → IsOutside span i) → IsLinkSpan h xs r
  span_of_linked xs span r b s within first last out =
      record {
        order = omega arith;
        within = within;
        outside =
            λ i o.
            s.outside i (out i o)
            (λ e. elim o [ inl l ↦ omega arith | inr g ↦ omega arith ]);
      }

-- ---- whether any member but one passes a test

none_pass : {X : Type 0} (p : X → Bool) (xs : List X) → ((i : ℕ) → IfSome (slice_get xs i) (λ x. p x ≡ false))
    → list_any p xs ≡ false
none_pass p [] h = refl
none_pass p (x ∷ xs) h = ap (λ b. b || list_any p xs) (h zero) ∙ none_pass p xs (λ i. h (suc i))

no_others : {X : Type 0} (p : X → Bool) (xs : List X) (at : ℕ)
    → ((i : ℕ) → i ≢ at → IfSome (slice_get xs i) (λ x. p x ≡ false)) → list_any p (remove xs at) ≡ false
no_others p xs at h =
    none_pass p (remove xs at) (λ i. elim (cases_lt i at) [
      | inl l ↦ subst (λ o. IfSome o (λ x. p x ≡ false)) (sym (slice_get-remove_below xs at i l))
          (h i (λ e. omega arith))
      | inr g ↦ subst (λ o. IfSome o (λ x. p x ≡ false)) (sym (slice_get-remove_above xs at i g))
          (h (suc i) (λ e. omega arith))
    ])

passes_at : {X : Type 0} (p : X → Bool) (xs : List X) (i : ℕ) (x : X) → slice_get xs i ≡ Some x → p x ≡ true
    → list_any p xs ≡ true
passes_at p xs i x e t = list_any_at p xs i x (slice_get_within xs i x e) (ap p (get_or_from_slice_get xs i x x e) ∙ t)

another_passes : {X : Type 0} (p : X → Bool) (xs : List X) (at i : ℕ) (x : X) → i ≢ at → slice_get xs i ≡ Some x
    → p x ≡ true → list_any p (remove xs at) ≡ true
another_passes p xs at i x ne e t = elim (cases_lt i at) [
  | inl l ↦ passes_at p (remove xs at) i x (slice_get-remove_below xs at i l ∙ e) t
  | inr g ↦
      let next : i ≡ suc (i - 1) = omega arith in
      passes_at p (remove xs at) (i - 1) x
      (slice_get-remove_above xs at (i - 1) (omega arith) ∙ (ap (slice_get xs) (sym next) ∙ e)) t
]

pub one_other : {X : Type 0} (p : X → Bool) (xs : List X) (at i : ℕ) → i ≢ at → i < length xs
    → IfSome (slice_get xs i) (λ x. p x ≡ true) → list_any p (remove xs at) ≡ true
one_other p xs at i ne there passes =
    let (x, e) = slice_get-found xs i there in
    another_passes p xs at i x ne e (subst (λ o. IfSome o (λ x. p x ≡ true)) e passes)

-- If no member of the span passes, except perhaps the one at an index, no other member of the list does.
pub none_but : {X : Type 0} (h p : X → Bool) (xs : List X) (at : ℕ) (span : LinkSpan) → IsLinkSpan h xs span
    → ((x : X) → h x ≡ false → p x ≡ false)
    → ((i : ℕ) → span.start ≤ i → i < span.end → i ≢ at → IfSome (slice_get xs i) (λ x. p x ≡ false))
    → list_any p (remove xs at) ≡ false
none_but h p xs at span s nowhere within =
    no_others p xs at (λ i ne. elim (cases_lt i span.start) [
      | inl l ↦ if_some (slice_get xs i) nowhere (s.outside i (inl l))
      | inr g ↦ elim (cases_lt i span.end) [
        | inl l ↦ within i g l ne
        | inr e ↦ if_some (slice_get xs i) nowhere (s.outside i (inr e))
      ]
    ])
