use Rattle.std.proofs.Common.{◌≡◌, ◌+◌, ◌-◌, ◌*◌, ◌/◌, ◌<◌, ◌+ℤ◌, length, map, drop, refl, sym, ap, subst, ◌∙◌, arith}
use Rattle.voices.specs.Within.{IsWithin}
use Rattle.mixer.specs.Events.{aged, total_at}
use Rattle.mixer.proofs.Parts.{aged-none}
use Rattle.mixer.proofs.AheadLaws.{sides_written, middle_written, length-sides, length-middle, sides_borrowed}
use Rattle.mixer.proofs.AheadLaws.{middle_borrowed, joined}
use Rattle.mixer.proofs.ahead.Ahead.join.Goals as goal

pub returns-then-self-eq0-clause-live : goal.returns-then-self-eq0-clause-live
returns-then-self-eq0-clause-live c =
    let none : 0 ≡ c.args.self.now.left = omega arith in
    aged-none c.args.voices.now ∙ ap (λ n. map (aged n) c.args.voices.now) none

pub add_voices-requires-clause-room : goal.add_voices-requires-clause-room
add_voices-requires-clause-room c k h =
    let a = c.args.self.now in
    let most = c.requires.room.most in
    let l : k < 2 * a.left = omega (arith, h, length-sides a.left a.sides most (omega arith)) in
    subst (IsWithin 32767) (sym (sides_borrowed a.left a.sides k most l)) (c.requires.room.sides k l)

pub add_voices-requires-clause-middle : goal.add_voices-requires-clause-middle
add_voices-requires-clause-middle c k h =
    let a = c.args.self.now in
    let most = c.requires.room.most in
    let l : k < a.left = omega (arith, h, length-middle a.left a.middle most (omega arith)) in
    subst (IsWithin 32767) (sym (middle_borrowed a.left a.middle k most l)) (c.requires.room.middle k l)

pub returns-clause-sums : goal.returns-clause-sums
returns-clause-sums c ps h =
    let a = c.args.self.now in
    let qs = c.args.voices.now in
    let most = c.requires.room.most in
    let sides = c.add_voices.new.sides in
    let middle = c.add_voices.new.middle in
    let sides_size : length sides ≡ 2 * a.left =
    c.add_voices.auto.sides ∙ length-sides a.left a.sides most (omega arith) in
    let middle_size : length middle ≡ a.left =
    c.add_voices.auto.middle ∙ length-middle a.left a.middle most (omega arith) in
    let borrowed_size = length-sides a.left a.sides most (omega arith) in
    let borrowed_middle_size = length-middle a.left a.middle most (omega arith) in
    joined a _ ps qs refl
    (λ i l.
    let here : i < length sides = omega (arith, l, sides_size) in
    let half : i / 2 < length middle = omega (arith, l, middle_size) in
    let both : i / 2 < a.left = omega (arith, l) in
    (λ j. sides_written a.left a.sides sides (drop (2048 - 2 * (1024 - a.left))
    (drop (2 * (1024 - a.left)) a.sides)) i most (omega arith) here j
    +ℤ middle_written a.left a.middle middle (drop (1024 - (1024 - a.left)) (drop (1024 - a.left) a.middle)) (i / 2)
    most (omega arith) half j)
    ∙ c.add_voices.ensures.value i here
    ∙ (λ j. sides_borrowed a.left a.sides i most l j +ℤ middle_borrowed a.left a.middle (i / 2) most both j +ℤ total_at qs i))
    (λ n i l all.
    let here : i < length sides = omega (arith, l, sides_size) in
    subst (IsWithin (n + length qs)) (sym (sides_written a.left a.sides sides _ i most (omega arith) here))
    (c.add_voices.ensures.room n (λ k g. let there : k < 2 * a.left = omega (arith, g, borrowed_size) in subst
    (IsWithin n) (sym (sides_borrowed a.left a.sides k most there)) (all k there)) i here))
    (λ n k l all.
    let here : k < length middle = omega (arith, l, middle_size) in
    subst (IsWithin (n + length qs)) (sym (middle_written a.left a.middle middle _ k most (omega arith) here))
    (c.add_voices.ensures.middle n (λ m g. let there : m < a.left = omega (arith, g, borrowed_middle_size) in subst
    (IsWithin n) (sym (middle_borrowed a.left a.middle m most there)) (all m there)) k here))
    h
