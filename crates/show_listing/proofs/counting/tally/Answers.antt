use Rattle.std.proofs.Common.{◌<◌, length, rules, Fits, w64, arith}
use Rattle.std.proofs.lemmas.List.{get_or_default}
use Rattle.show_listing.proofs.CountLaws.{counts_below, counts_all}
use Rattle.show_listing.proofs.counting.tally.Goals as goal

pub overflow_add-index_mut : goal.overflow_add-index_mut
overflow_add-index_mut c =
    let counts = c.loop-number.counts.items in
    let at = c.from-at.result in
    let size = c.loop-number.invariant.0 in
    let fits : Fits w64 (length c.args.numbers.now) = search rules in
    let there : at < length counts = omega (arith, c.if-at-len.true, c.len.ensures) in
    let here : at < c.args.members = omega (arith, there, size) in
    let same = get_or_default counts at c.index_mut.result.now 0 there in
    let most =
    counts_below c.args.members c.args.numbers.now counts c.loop-number.number-index at c.loop-number.invariant
    c.loop-number-test.true here in
    omega (arith, fits, c.index_mut.ensures.value, same, most, c.loop-number-test.true)

pub returns : goal.returns
returns c =
    counts_all c.args.members c.args.numbers.now c.loop-number.counts.items c.loop-number.number-index
    c.loop-number.invariant c.loop-number-test.false
