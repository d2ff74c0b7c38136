use Rattle.std.proofs.Common.{◌≡◌, pos, to_z, ◌*◌, ◌/◌, arith, ap, sym, ◌∙◌}
use Rattle.std.proofs.lemmas.Int.{to_z_pos}
use Rattle.std.proofs.Math.Nat.{div-le_self}
use Rattle.std.specs.Int.{w64}
use Rattle.sound_tables.specs.Tables.{gain_at, gain_of}
use Rattle.sound_envelopes.proofs.PhaseLaws.{lasts_some, lasts_shortly, same_centibel}
use Rattle.sound_envelopes.proofs.phases.falling_from.Goals as goal

pub returns-clause-some : goal.returns-clause-some
returns-clause-some c = let e = lasts_some (960 * c.args.fallen) c.args.over c.requires.divisor.0 in omega (arith, e)

pub returns-clause-near : goal.returns-clause-near
returns-clause-near c =
    let e = lasts_shortly (960 * c.args.fallen) c.args.over c.requires.divisor.0 in
    omega (arith, e, c.requires.near, c.requires.divisor)

pub returns-clause-last : goal.returns-clause-last
returns-clause-last c = omega arith

pub returns-clause-even : goal.returns-clause-even
returns-clause-even c =
    let over = c.args.over in
    let fallen = c.args.fallen in
    let g : c.from-2.result ≡ gain_at (960 * fallen / over) = c.from-2.ensures ∙ c.gain.ensures.value
    ∙
    (let z : to_z w64 (960 * fallen / over) ≡ pos (960 * fallen / over) =
    to_z_pos w64 (960 * fallen / over) (omega (arith, div-le_self (960 * fallen) over)) in ap gain_of z)
    in
    record {
      even = λ k le lt.
          ap (λ y. c.args.level * gain_at y / 65536) (sym (same_centibel over fallen k c.requires.divisor.0 le lt))
          ∙ ap (λ y. c.args.level * y / 65536) (sym g)
          ∙ ap (λ y. y * c.from-2.result / 65536) (sym c.from.ensures);
    }
