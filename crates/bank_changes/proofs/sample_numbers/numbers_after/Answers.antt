use Rattle.std.proofs.Common.{◌≡◌, ◌∙◌, ◌++◌, length, drop, take, ap, sym, subst, arith}
use Rattle.std.specs.List.{range_with_len}
use Rattle.std.proofs.lemmas.List.{append-nil, drop_all, take_all}
use Rattle.std.proofs.lemmas.List.FromFn.{length-range_with_len}
use Rattle.bank_changes.specs.SampleMoves.{AreMoves}
use Rattle.bank_changes.specs.SampleNumbers.{AreNumbers}
use Rattle.bank_changes.proofs.sample_numbers.numbers_after.Goals as goal

pub move_numbers-requires-clause-numbers : goal.move_numbers-requires-clause-numbers
move_numbers-requires-clause-numbers c =
    let same = c.as_mut_slice.ensures.value ∙ c.in_ok-numbers.ensures in
    let size = ap length same ∙ length-range_with_len 0 c.args.count in
    same ∙ ap (range_with_len 0) (sym size)

pub move_numbers-requires-clause-within : goal.move_numbers-requires-clause-within
move_numbers-requires-clause-within c =
    let same = c.as_mut_slice.ensures.value ∙ c.in_ok-numbers.ensures in
    let size = ap length same ∙ length-range_with_len 0 c.args.count in
    subst (λ n. AreMoves n c.args.moves.now) (sym size) c.requires.within

pub returns : goal.returns
returns c =
    let items = c.in_ok-numbers.numbers.items in
    let new = c.move_numbers.new.numbers in
    let size : length items ≡ c.args.count = ap length c.in_ok-numbers.ensures ∙ length-range_with_len 0 c.args.count in
    let had = ap length c.as_mut_slice.ensures.value in
    let long = c.move_numbers.ensures.size in
    let ok = c.in_ok-numbers.numbers.ok in
    let len = c.in_ok-numbers.numbers.len in
    let none = drop_all (length new) items (omega (arith, size, had, long)) in
    let whole : take len (new ++ drop (length new) items) ≡ new =
    ap (λ rest. take len (new ++ rest)) none
    ∙ (ap (take len) (append-nil new) ∙ take_all len new (omega (arith, size, had, long, ok.0, ok.1))) in
    let count : length c.as_mut_slice.result.now ≡ c.args.count = had ∙ size in
    subst (λ numbers. AreNumbers c.args.count c.args.moves.now numbers) (sym whole)
    (subst (λ n. AreNumbers n c.args.moves.now new) count c.move_numbers.ensures)
