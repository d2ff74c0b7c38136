use Rattle.std.proofs.Common.{◌+◌, drop, get_or, arith}
use Rattle.bank_changes.proofs.SampleMoveLaws.{next_so_far, so_far_on}
use Rattle.bank_changes.proofs.sample_moves.move_in_turn.Goals as goal

pub loop-change-preserved : goal.loop-change-preserved
loop-change-preserved c =
    let first = c.args.parts.now in
    let all = c.args.moves.now in
    let i = c.loop-change.change-index in
    let names = c.loop-change.names.items in
    let room = c.push_reserved.ensures.room in
    let before = c.loop-change.invariant.2 in
    let len = c.push_reserved.ensures.len in
    let count = c.loop-change.invariant.1 in (
      so_far_on first c.loop-change.parts c.move_named-name.new.parts names c.push_reserved.new.names.items all
          (drop (i + 1) all) (get_or all i (record { from = 0; to = 0 })) c.move_named-name.result
          (next_so_far first c.loop-change.parts names all i (record { from = 0; to = 0 }) c.loop-change.invariant.0
          c.loop-change-test.true)
          c.move_named-name.ensures.change c.move_named-name.ensures.name c.push_reserved.ensures.items,
      omega (arith, len, count),
      omega (arith, room, before),
    )
