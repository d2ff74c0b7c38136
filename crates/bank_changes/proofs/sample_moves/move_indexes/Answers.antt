use Rattle.std.proofs.Common.{drop, get_or, ◌+◌, sym, subst}
use Rattle.bank_changes.proofs.SampleMoveLaws.{IsNamed, all_indexes, next_named, next_within, named_on}
use Rattle.bank_changes.proofs.sample_moves.move_indexes.Goals as goal

pub move_index-name-requires-clause-from : goal.move_index-name-requires-clause-from
move_index-name-requires-clause-from c =
    let all = c.args.moves.now in
    let i = c.loop-change.change-index in
    (next_within c.args.samples.now c.loop-change.order c.loop-change.names.items all (drop (i + 1) all)
    (get_or all i (record { from = 0; to = 0 }))
    (next_named c.args.samples.now c.loop-change.order c.loop-change.names.items all i (record { from = 0; to = 0 })
    c.loop-change.invariant c.loop-change-test.true)).from

pub move_index-name-requires-clause-to : goal.move_index-name-requires-clause-to
move_index-name-requires-clause-to c =
    let all = c.args.moves.now in
    let i = c.loop-change.change-index in
    (next_within c.args.samples.now c.loop-change.order c.loop-change.names.items all (drop (i + 1) all)
    (get_or all i (record { from = 0; to = 0 }))
    (next_named c.args.samples.now c.loop-change.order c.loop-change.names.items all i (record { from = 0; to = 0 })
    c.loop-change.invariant c.loop-change-test.true)).to

pub move_index-name-requires-clause-indexes : goal.move_index-name-requires-clause-indexes
move_index-name-requires-clause-indexes c =
    all_indexes c.args.samples.now c.loop-change.invariant.now c.loop-change.order c.loop-change.invariant.is_order

pub loop-change-preserved : goal.loop-change-preserved
loop-change-preserved c =
    let ss = c.args.samples.now in
    let all = c.args.moves.now in
    let i = c.loop-change.change-index in
    let later = c.move_index-name.new.order in
    subst (λ names. IsNamed ss later names all (drop (i + 1) all)) (sym c.in_ok-push.ensures.items)
    (named_on ss c.loop-change.order later c.loop-change.names.items all (drop (i + 1) all)
    (get_or all i (record { from = 0; to = 0 })) c.move_index-name.result
    (next_named ss c.loop-change.order c.loop-change.names.items all i (record { from = 0; to = 0 })
    c.loop-change.invariant c.loop-change-test.true)
    c.move_index-name.ensures.order c.move_index-name.ensures.name)
