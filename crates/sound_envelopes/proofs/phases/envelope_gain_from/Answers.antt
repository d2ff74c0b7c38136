use Rattle.std.proofs.Common.{◌-◌, arith, sym, ◌∙◌}
use Rattle.sound_envelopes.proofs.PhaseLaws.{envelope_held, released_is}
use Rattle.sound_envelopes.proofs.phases.envelope_gain_from.Goals as goal

pub returns-then-t-length-clause-even : goal.returns-then-t-length-clause-even
returns-then-t-length-clause-even c =
    let v = c.args.v.now in
    record {
      even = λ k le lt.
          sym (envelope_held v k (omega (arith, lt, c.min.ensures, c.from-length.ensures)))
          ∙ c.held_from-level.ensures.even.even k le (omega (arith, lt, c.min.ensures));
    }

pub returns-clause-even : goal.returns-clause-even
returns-clause-even c =
    let v = c.args.v.now in
    let l = c.from-length.result in
    let over = c.from-release.result in
    let before = c.if-t-length.false in
    record {
      even = λ k le lt.
          released_is v l k c.args.at_end over c.from-length.ensures c.requires.at_end.0 c.from-release.ensures
          (omega (arith, before, le))
          ∙ c.falling_from-level.ensures.even.even (k - l) (omega (arith, before, le)) (omega (arith, before, le, lt));
    }
