use Rattle.std.proofs.Common.{rules, ◌≡◌, ℕ, ◌+◌, ◌-◌, ◌*◌, ◌/◌, ◌<◌, ◌++◌, pos, ◌+ℤ◌, get_or, length, take, drop}
use Rattle.std.proofs.Common.{sym, ◌∙◌, arith}
use Rattle.std.proofs.lemmas.List.{places}
use Rattle.mixer.proofs.Aging.{total_none}
use Rattle.mixer.proofs.Silent.{silent_within}
use Rattle.mixer.proofs.AheadLaws.{sides_written, middle_written, length-sides, length-middle}
use Rattle.mixer.proofs.ahead.Ahead.clear.Goals as goal

pub returns-clause-silent : goal.returns-clause-silent
returns-clause-silent c =
    let n = c.args.count in
    let was = c.args.self.now in
    let sides = c.fill.new.self in
    let middle = c.fill-2.new.self in
    let sides_size : length sides ≡ 2 * n = c.fill.ensures.len ∙ length-sides n was.sides c.requires (omega arith) in
    let middle_size : length middle ≡ n = c.fill-2.ensures.len ∙ length-middle n was.middle c.requires (omega arith) in
    let side : (i : ℕ) → i < 2 * n
    → get_or
    (take (2 * (1024 - n)) was.sides
    ++ (sides ++ drop (2048 - 2 * (1024 - n)) (drop (2 * (1024 - n)) was.sides)))
    (2048 - 2 * n + i) (pos 0)
    ≡ pos 0 =
    λ i l.
    let h : i < length sides = omega (arith, l, sides_size) in
    sides_written n was.sides sides _ i c.requires (omega arith) h
    ∙ (let zero : get_or sides i (pos 0) ≡ pos 0 = search (rules, places) in zero) in
    let both : (k : ℕ) → k < n
    → get_or (take (1024 - n) was.middle ++ (middle ++ drop (1024 - (1024 - n)) (drop (1024 - n) was.middle)))
    (1024 - n + k) (pos 0)
    ≡ pos 0 =
    λ k l.
    let h : k < length middle = omega (arith, l, middle_size) in
    middle_written n was.middle middle _ k c.requires (omega arith) h
    ∙ (let zero : get_or middle k (pos 0) ≡ pos 0 = search (rules, places) in zero) in
    record {
      within =
          record {
            most =
                c.requires;
            sides = λ i l. silent_within _ (side i l);
            middle = λ k l. silent_within _ (both k l);
          };
      sums = λ i l. (λ j. side i l j +ℤ both (i / 2) (omega (arith, l)) j) ∙ sym (total_none i);
    }
