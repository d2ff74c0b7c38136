use Rattle.std.proofs.Common.{◌≡◌, ℕ, ◌+◌, ◌*◌, ◌/◌, ◌<◌, pos, arith, get_or, length, sym, subst}
use Rattle.voices.specs.Within.{IsWithin}
use Rattle.voices.proofs.voice.Voice.add_frames_apart.Goals as goal

pub returns-clause-middle : goal.returns-clause-middle
returns-clause-middle c j room k h =
    let new = c.add_run_apart.new.middle in
    let here : k < length c.args.middle.now = omega (arith, h, c.add_run_apart.auto.middle) in
    let e : 2 * k / 2 ≡ k = omega arith in
    let shared =
    c.add_run_apart.ensures.sums (2 * k) (omega (arith, here, c.add_run_apart.auto.sums, c.requires.sums)) in
    subst (λ (m : ℕ). IsWithin (j + 1) (get_or new m (pos 0))) e
    (shared.middle_room j (subst (λ (m : ℕ). IsWithin j (get_or c.args.middle.now m (pos 0))) (sym e) (room k here)))
