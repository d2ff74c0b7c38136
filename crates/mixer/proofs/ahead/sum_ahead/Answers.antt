use Rattle.std.proofs.Common.{◌≡◌, ◌≤◌, ◌++◌, map, take, drop, length, sym, ap, subst, ◌∙◌, arith}
use Rattle.std.proofs.lemmas.Grind.{common_steps}
use Rattle.mixer.specs.Events.{aged}
use Rattle.mixer.specs.Ahead.{AreSums, IsAhead, playing_now}
use Rattle.mixer.proofs.AheadLaws.{dropped_playing, filled_ahead, filled_playing, none_playing}
use Rattle.mixer.proofs.ahead.sum_ahead.Goals as goal

pub returns-then-len-le-GROUP-clause-ahead : goal.returns-then-len-le-GROUP-clause-ahead
returns-then-len-le-GROUP-clause-ahead c =
    let vs = c.drop_over.new.voices.items in
    let a = c.fill.new.self in
    let e : take c.drop_over.new.voices.len (c.fill.new.voices ++ drop (length c.fill.new.voices) vs)
    ≡ map (aged a.left) vs =
    grind (arith, common_steps) in
    let few : length vs ≤ 32767 = omega arith in
    let slice_is : c.as_mut_slice.result.now ≡ vs = grind (arith, common_steps) in
    subst (IsAhead a) (sym e)
    (filled_ahead a vs few c.drop_over.ensures.young (subst (AreSums a) slice_is c.fill.ensures.sums))

pub returns-then-len-le-GROUP-clause-same : goal.returns-then-len-le-GROUP-clause-same
returns-then-len-le-GROUP-clause-same c =
    let vs = c.drop_over.new.voices.items in
    let a = c.fill.new.self in
    let none : c.args.ahead.now.left ≡ 0 = omega arith in
    let e : take c.drop_over.new.voices.len (c.fill.new.voices ++ drop (length c.fill.new.voices) vs)
    ≡ map (aged a.left) vs =
    grind (arith, common_steps) in
    ap (playing_now a) e ∙ filled_playing a vs c.drop_over.ensures.sounding ∙ c.drop_over.ensures.items
    ∙ sym (none_playing c.args.ahead.now c.args.voices.now.items none)

pub returns-else-is_short-clause-same : goal.returns-else-is_short-clause-same
returns-else-is_short-clause-same c =
    let none : c.args.ahead.now.left ≡ 0 = omega arith in
    ap (playing_now c.args.ahead.now) c.drop_over.ensures.items
    ∙ dropped_playing c.args.ahead.now c.args.voices.now.items none
