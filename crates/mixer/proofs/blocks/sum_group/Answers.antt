use Rattle.std.proofs.Common.{rules, ◌≡◌, ◌+◌, pos, get_or, length, arith}
use Rattle.std.proofs.lemmas.List.{places}
use Rattle.mixer.proofs.Silent.{all_silent, all_wider}
use Rattle.mixer.proofs.blocks.sum_group.Goals as goal

pub add_voices-requires-clause-room : goal.add_voices-requires-clause-room
add_voices-requires-clause-room c =
    let sides = c.fill.new.self in
    all_wider 0 32767 sides (omega arith)
    (all_silent sides (λ k h. (let zero : get_or sides k (pos 0) ≡ pos 0 = search (rules, places) in zero)))

pub add_voices-requires-clause-middle : goal.add_voices-requires-clause-middle
add_voices-requires-clause-middle c =
    let middle = c.fill-2.new.self in
    all_wider 0 32767 middle (omega arith)
    (all_silent middle (λ k h. (let zero : get_or middle k (pos 0) ≡ pos 0 = search (rules, places) in zero)))

pub returns-clause-room : goal.returns-clause-room
returns-clause-room c =
    let sides = c.fill.new.self in
    let n = length c.args.voices.now in
    all_wider (0 + n) n c.add_voices.new.sides (omega arith)
    (c.add_voices.ensures.room 0
    (all_silent sides (λ k h. (let zero : get_or sides k (pos 0) ≡ pos 0 = search (rules, places) in zero))))

pub returns-clause-middle : goal.returns-clause-middle
returns-clause-middle c =
    let middle = c.fill-2.new.self in
    let n = length c.args.voices.now in
    all_wider (0 + n) n c.add_voices.new.middle (omega arith)
    (c.add_voices.ensures.middle 0
    (all_silent middle (λ k h. (let zero : get_or middle k (pos 0) ≡ pos 0 = search (rules, places) in zero))))
