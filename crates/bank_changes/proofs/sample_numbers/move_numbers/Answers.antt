use Rattle.std.proofs.Common.{◌≡◌, ◌+◌, ◌-◌, length, drop, get_or, ◌∙◌, subst, sym, ap, arith}
use Rattle.std.proofs.lemmas.List.{drop_all}
use Rattle.base_numbered_lists.specs.Moved.{moved}
use Rattle.bank_changes.specs.declared.sample_moves.SampleMove.{SampleMove}
use Rattle.bank_changes.specs.SampleNumbers.{AreNumbers}
use Rattle.bank_changes.proofs.SampleNumberLaws.{numbers_start, next_numbers}
use Rattle.bank_changes.proofs.sample_numbers.move_numbers.Goals as goal

pub loop-done-init : goal.loop-done-init
loop-done-init c =
    subst (λ ms. AreNumbers (length c.args.numbers.now) ms c.args.numbers.now)
    (sym (drop_all (length c.args.moves.now - 0) c.args.moves.now (omega arith)))
    (numbers_start c.args.numbers.now c.requires.numbers)

pub loop-done-preserved : goal.loop-done-preserved
loop-done-preserved c =
    let moves = c.args.moves.now in
    let count = length moves in
    let done = c.loop-done.done in
    let i = count - (done + 1) in
    let n = length c.args.numbers.now in
    let same : count - 1 - done ≡ i = omega arith in
    let next : i + 1 ≡ count - done = omega arith in
    let d : SampleMove = record { from = 0; to = 0 } in
    let now = c.loop-done.numbers in
    subst (λ numbers. AreNumbers n (drop i moves) numbers)
    (sym (c.move_number.ensures ∙ ap (λ j. moved now (get_or moves j d).to (get_or moves j d).from) same))
    (next_numbers n moves i d now (omega arith) c.requires.within
    (subst (λ j. AreNumbers n (drop j moves) now) (sym next) c.loop-done.invariant))
