use Rattle.std.proofs.Common.{◌≡◌, zero, suc, ◌*◌, ◌/◌, ◌<◌, ℕ, arith, ap, subst, sym, ◌∙◌}
use Rattle.sound_tables.specs.Tables.{gain_at}
use Rattle.sound_envelopes.specs.Envelope.{decayed}
use Rattle.sound_envelopes.proofs.PhaseLaws.{before_sustain, decaying, left_of_all}
use Rattle.sound_envelopes.proofs.phases.decayed_from.Goals as goal

some : (s d u : ℕ) → 960 * u < s * d → 0 < d
some s zero u h = absurd (omega (arith, (let e : s * 0 ≡ 0 = omega arith in e)))
some s (suc d) u h = omega arith

pub returns-clause-even : goal.returns-clause-even
unfolding decayed
returns-clause-even c =
    let v = c.args.v.now in
    let d : c.from-decay.result ≡ v.decay = c.from-decay.ensures in
    let s : c.from.result ≡ v.sustain = c.from.ensures in
    let fallen = c.args.fallen in
    let p : 0 < c.from-decay.result = some c.from.result c.from-decay.result fallen (omega arith) in
    record {
      even = λ k le lt.
          let b : 960 * k < c.from.result * c.from-decay.result =
          before_sustain c.from.result c.from-decay.result fallen k c.falling_from.result.until p (omega arith) lt
          c.falling_from.ensures.last in
          let b' : 960 * k < v.sustain * v.decay =
          subst (λ y. 960 * k < v.sustain * y) d (subst (λ y. 960 * k < y * c.from-decay.result) s b) in
          sym (decaying v.sustain v.decay k b')
          ∙ ap (λ y. gain_at (960 * k / y)) (sym d)
          ∙ sym (left_of_all (gain_at (960 * k / c.from-decay.result)))
          ∙ c.falling_from.ensures.even.even k le lt;
    }
