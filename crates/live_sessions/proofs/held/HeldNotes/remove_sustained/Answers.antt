use Rattle.std.proofs.Common.{◌≡◌, ◌+◌, rules, not, length, refl, ap, ◌∙◌, arith}
use Rattle.std.proofs.lemmas.Fn.{filter_same}
use Rattle.std.proofs.lemmas.List.Filters.{length-filter_both}
use Rattle.live_sessions.specs.declared.held.HeldNote.{HeldNote}
use Rattle.live_sessions.specs.Performances.{is_sustained_by}
use Rattle.live_sessions.specs.Steps.{held_but_by, sustained_by}
use Rattle.live_sessions.proofs.held.HeldNotes.remove_sustained.Goals as goal
use Rattle.live_sessions.proofs.held.HeldNotes.remove_sustained.Goals.{After-len}

others : (c : After-len) → c.retain.new.self.items ≡ held_but_by c.args.pedal c.args.self.now
others c =
    filter_same _ (λ (h : HeldNote). not (is_sustained_by c.args.pedal h)) _ (λ x b f t. search rules) _ _
    c.retain.ensures.filtered
    ∙ ap (held_but_by c.args.pedal) c.self.view_is

counted : (c : After-len) → length (sustained_by c.args.pedal c.args.self.now) + c.len.result ≡ c.len-count.result
counted c =
    let kept : c.len.result ≡ length (held_but_by c.args.pedal c.args.self.now) = c.len.ensures ∙ ap length (others c) in
    let all =
    length-filter_both (is_sustained_by c.args.pedal) (λ (h : HeldNote). not (is_sustained_by c.args.pedal h)) (λ h. refl)
    c.args.self.now in
    omega (arith, kept, all, c.len-count.ensures)

pub overflow_sub-result : goal.overflow_sub-result
overflow_sub-result c = let all = counted c in omega (arith, all)

pub returns-clause-rest : goal.returns-clause-rest
returns-clause-rest c = others (goal.at.returns-clause-rest c).After-len

pub returns-clause-count : goal.returns-clause-count
returns-clause-count c = let all = counted (goal.at.returns-clause-count c).After-len in omega (arith, all)
