use Rattle.std.proofs.Common.{◌*◌, ◌/◌, ◌<◌, pos, ◌+ℤ◌, length, sym, subst, ◌∙◌, arith}
use Rattle.std.proofs.lemmas.Grind.{common_steps}
use Rattle.voices.specs.Within.{IsWithin}
use Rattle.sound_envelopes.proofs.WriteLaws.{in_piece}
use Rattle.mixer.specs.StartFrames.{clipped}
use Rattle.mixer.proofs.ahead.clip_from.Goals as goal

pub clip_sums-requires-clause-room : goal.clip_sums-requires-clause-room
clip_sums-requires-clause-room g c k h =
    let n = length c.args.out.now in
    let l : k < n = grind (arith, common_steps, h, c.requires.sides) in
    subst (IsWithin 32767) (sym (in_piece (pos 0) c.args.sides.now (2 * c.args.first) n k c.requires.sides l))
    (c.requires.room k l)

pub clip_sums-requires-clause-middle_room : goal.clip_sums-requires-clause-middle_room
clip_sums-requires-clause-middle_room g c k h =
    let n = length c.args.out.now / 2 in
    let l : k < n = grind (arith, common_steps, h, c.requires.middle) in
    subst (IsWithin 32767) (sym (in_piece (pos 0) c.args.middle.now c.args.first n k c.requires.middle l))
    (c.requires.middle_room k l)

pub returns : goal.returns
returns g c k h =
    let n = length c.args.out.now in
    let l : k < n = omega (arith, h, c.clip_sums.auto.out) in
    let half : k / 2 < n / 2 = omega (arith, l, c.requires.even) in
    c.clip_sums.ensures k h
    ∙
    (λ j.
    clipped
    (in_piece (pos 0) c.args.sides.now (2 * c.args.first) n k c.requires.sides l j
    +ℤ in_piece (pos 0) c.args.middle.now c.args.first (n / 2) (k / 2) c.requires.middle half j))
