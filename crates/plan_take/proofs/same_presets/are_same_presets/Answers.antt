use Rattle.std.proofs.Common.{◌≡◌, ◌≤◌, length, arith, rules}
use Rattle.plan_take.proofs.same_presets.are_same_presets.Goals as goal

pub returns : goal.returns
returns c t =
    let all : length c.args.from.now ≤ c.loop-i.i = search rules in
    record { count = search rules; each = λ m lt. c.loop-i.invariant m (omega (arith, all)) }
