use Rattle.std.proofs.Common.{◌≡◌, ◌+◌, ◌<◌, pos, [], drop, length, sym, ap, ◌∙◌, arith}
use Rattle.std.proofs.lemmas.Grind.{common_steps}
use Rattle.live_sessions.specs.declared.meter.Meter.{Meter}
use Rattle.live_sessions.specs.Meters.{metered}
use Rattle.live_sessions.proofs.Metering.{metered_next, metered_none}
use Rattle.live_sessions.proofs.meter.Meter.add.Goals as goal

pub add_frame-requires : goal.add_frame-requires
add_frame-requires c =
    let even = c.loop-at.invariant.even in
    let whole = c.requires in
    omega (arith, even, whole, c.loop-at-test.true)

pub loop-at-preserved : goal.loop-at-preserved
loop-at-preserved c =
    let ss = c.args.samples.now in
    let even = c.loop-at.invariant.even in
    let whole = c.requires in
    let within : c.loop-at.at + 1 < length ss = omega (arith, even, whole, c.loop-at-test.true) in
    record {
      within = omega (arith, within);
      even = omega (arith, even);
      rest =
          ap (λ (m : Meter). metered m (drop (c.loop-at.at + 2) ss)) c.add_frame.ensures
          ∙ sym (metered_next c.loop-at.self ss c.loop-at.at (pos 0) (pos 0) within)
          ∙ c.loop-at.invariant.rest;
    }

pub returns : goal.returns
returns c =
    let none : drop c.loop-at.at c.args.samples.now ≡ [] = grind (arith, common_steps) in
    sym (metered_none c.loop-at.self) ∙ ap (metered c.loop-at.self) (sym none) ∙ c.loop-at.invariant.rest
