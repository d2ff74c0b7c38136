use Rattle.std.proofs.Common.{◌≡◌, ℕ, ◌/◌, ◌%◌, ℤ, pos, arith, get_or, cond, nat_eq, ap, subst, sym, ◌∙◌}
use Rattle.voices.specs.Panning.{side}
use Rattle.voices.specs.Runs.{IsAdded}
use Rattle.voices.proofs.PanningLaws.{half_each, left_alone, right_alone}
use Rattle.voices.proofs.runs.add_sides.Goals as goal

in_parts : (z : ℤ) (i left right left' right' : ℕ) → left ≡ left' → right ≡ right'
    → side z (cond (nat_eq i 0) left' right') ≡ side z (cond (nat_eq i 0) left right)
in_parts z i left right left' right' e f =
    sym (ap (λ l. side z (cond (nat_eq i 0) l right)) e ∙ ap (λ r. side z (cond (nat_eq i 0) left' r)) f)

pub returns-then-right-eq0 : goal.returns-then-right-eq0
returns-then-right-eq0 c i h =
    let z : ℤ = get_or c.args.run.now (i / 2) (pos 0) in
    subst (λ (s : ℤ). IsAdded (get_or c.args.sums.now i (pos 0)) s (get_or c.add_one_side.new.sums i (pos 0)))
    (left_alone z (i % 2) (omega arith) ∙ in_parts z (i % 2) _ _ 1000 0 c.if-left-eq-WHOLE.true c.if-right-eq0.true)
    (c.add_one_side.ensures i h)

pub returns-then-right-eq-WHOLE : goal.returns-then-right-eq-WHOLE
returns-then-right-eq-WHOLE c i h =
    let z : ℤ = get_or c.args.run.now (i / 2) (pos 0) in
    subst
    (λ (s : ℤ).
    IsAdded (get_or c.args.sums.now i (pos 0)) s
    (get_or c.add_one_side-then-right-eq-WHOLE.new.sums i (pos 0)))
    (right_alone z (i % 2) (omega arith) ∙ in_parts z (i % 2) _ _ 0 1000 c.if-left-eq0.true c.if-right-eq-WHOLE.true)
    (c.add_one_side-then-right-eq-WHOLE.ensures i h)

pub returns-then-right-eq-HALF : goal.returns-then-right-eq-HALF
returns-then-right-eq-HALF c i h =
    let z : ℤ = get_or c.args.run.now (i / 2) (pos 0) in
    subst (λ (s : ℤ). IsAdded (get_or c.args.sums.now i (pos 0)) s (get_or c.add_halves.new.sums i (pos 0)))
    (half_each z (i % 2) _ _ c.if-left-eq-HALF.true c.if-right-eq-HALF.true)
    (c.add_halves.ensures i h)
