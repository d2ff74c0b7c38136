use Rattle.std.proofs.Common.{◌≡◌, ◌+◌, ◌-◌, ◌*◌, ◌/◌, ◌<◌, pos, ◌+ℤ◌, get_or, length, refl, ap, subst, ◌∙◌, arith}
use Rattle.voices.specs.Within.{IsWithin}
use Rattle.mixer.specs.StartFrames.{clipped}
use Rattle.mixer.specs.Events.{next_side}
use Rattle.mixer.proofs.AheadLaws.{given_later}
use Rattle.mixer.proofs.ahead.Ahead.write_frames.Goals as goal

pub clip_from-requires-clause-room : goal.clip_from-requires-clause-room
clip_from-requires-clause-room g c i h =
    let a = c.args.self.now in
    let place : 2048 - 2 * a.left + i ≡ 2 * (1024 - a.left) + i = omega (arith, c.requires.room.most) in
    subst (λ k. IsWithin 32767 (get_or a.sides k (pos 0))) place
    (c.requires.room.sides i (omega (arith, h, c.requires.enough)))

pub clip_from-requires-clause-middle_room : goal.clip_from-requires-clause-middle_room
clip_from-requires-clause-middle_room g c k h = c.requires.room.middle k (omega (arith, h, c.requires.enough))

pub returns-clause-heard : goal.returns-clause-heard
unfolding next_side
returns-clause-heard g c ps h i l =
    let a = c.args.self.now in
    let here : i < length c.args.out.now = omega (arith, l, c.clip_from.auto.out) in
    let place : 2 * (1024 - a.left) + i ≡ 2048 - 2 * a.left + i = omega (arith, c.requires.room.most) in
    c.clip_from.ensures i l
    ∙ ap (λ k. clipped (get_or a.sides k (pos 0) +ℤ get_or a.middle (1024 - a.left + i / 2) (pos 0))) place
    ∙ ap clipped (h.sums i (omega (arith, here, c.requires.enough)))

pub returns-clause-sums : goal.returns-clause-sums
returns-clause-sums g c ps h =
    let enough = c.requires.enough in
    let size = c.clip_from.auto.out in
    given_later c.args.self.now _ ps (length c.args.out.now / 2) refl refl (omega (arith, enough, size)) h
