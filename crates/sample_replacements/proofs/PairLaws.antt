-- The samples of a pair are two.
use Rattle.std.proofs.Common.{◌≡◌, ◌≢◌, ℕ, List, slice_get, Some, None, Bool, true, false, refl, sym, ◌∙◌, ap}
use Rattle.std.proofs.Common.{if◌then◌else◌}
use Rattle.std.specs.Option.{option_and_then}
use Rattle.bank_parts.specs.declared.parts.Kind.{Kind}
use Rattle.bank_parts.specs.declared.parts.Kind.TheVariants.{Mono, Right, Left, Linked}
use Rattle.bank_parts.specs.declared.parts.Sample.{Sample}
use Rattle.sample_replacements.specs.Pairs.{is_left_of, is_right_of, has_kind, pair_by_kind, pair_in}

-- where a choice gives a value
chosen : {X : Type 0} (test : Bool) (x y : X) → (if test then Some x else None) ≡ Some y → (test ≡ true) × (x ≡ y)
chosen true x y h = (refl, cc)
chosen false x y h = cc

-- the kind of a sample that is there
kind_there : (test : Kind → Bool) (samples : List Sample) (n : ℕ) (s : Sample) → slice_get samples n ≡ Some s
    → has_kind test samples n ≡ test s.kind
kind_there test samples n s e = rw e refl

module _ (samples : List Sample) (n : ℕ) (s : Sample) (there : slice_get samples n ≡ Some s) where
  -- a sample that is linked to itself is not of a pair
  not_itself : (test : Kind → Bool) (link : ℕ) → has_kind test samples link ≡ true → test s.kind ≡ false → n ≢ link
  not_itself test link has not same =
      let here : has_kind test samples n ≡ true = ap (has_kind test samples) same ∙ has in
      let both : true ≡ false = sym here ∙ (kind_there test samples n s there ∙ not) in
      cc

  kinds_differ : (kind : Kind) → s.kind ≡ kind → (p : ℕ × ℕ) → pair_by_kind samples n kind ≡ Some p → p.0 ≢ p.1
  kinds_differ Mono is p h same = cc
  kinds_differ (Right link) is p h same =
      let c = chosen (has_kind (is_left_of n) samples link) (link, n) p h in
      not_itself (is_left_of n) link c.0 (ap (is_left_of n) is)
      (ap (λ (q : ℕ × ℕ). q.1) c.1 ∙ (sym same ∙ sym (ap (λ (q : ℕ × ℕ). q.0) c.1)))
  kinds_differ (Left link) is p h same =
      let c = chosen (has_kind (is_right_of n) samples link) (n, link) p h in
      not_itself (is_right_of n) link c.0 (ap (is_right_of n) is)
      (ap (λ (q : ℕ × ℕ). q.0) c.1 ∙ (same ∙ sym (ap (λ (q : ℕ × ℕ). q.1) c.1)))
  kinds_differ (Linked link) is p h same = cc

-- the samples of a pair are two
pub sides_differ : (samples : List Sample) (n : ℕ) (p : ℕ × ℕ) → pair_in samples n ≡ Some p → p.0 ≢ p.1
sides_differ samples n p =
    (elim (slice_get samples n) as
    (λ o. slice_get samples n ≡ o → option_and_then (λ (s : Sample). pair_by_kind samples n s.kind) o ≡ Some p
    → p.0 ≢ p.1) [
      | None ↦ λ e h. cc
      | Some s ↦ λ e h. kinds_differ samples n s e s.kind refl p h
    ]) refl
