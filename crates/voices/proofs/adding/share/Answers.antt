use Rattle.std.proofs.Common.{◌≡◌, ℤ, ◌+◌, ◌/◌, ◌%◌, ◌<◌, pos, arith, get_or, length, nat_eq, ap, refl, subst, ◌∙◌}
use Rattle.std.proofs.lemmas.Int.{ints}
use Rattle.zone_select.specs.Select.{Voice}
use Rattle.voices.specs.Panning.{side}
use Rattle.voices.specs.Runs.{IsAdded}
use Rattle.voices.proofs.RunLaws.{central_side, frame_added, shared_side, shared_middle}
use Rattle.voices.proofs.adding.share.Goals as goal

pub returns-then-v-eq0 : goal.returns-then-v-eq0
returns-then-v-eq0 c i h =
    let v : Voice = record { points = c.args.points.now; parameters = c.args.v.now } in
    let k = i / 2 in
    let inside : k < length c.args.middle.now = omega (arith, h, c.requires.sums) in
    let there : k < length c.args.run.now = omega (arith, inside, c.requires.long) in
    let zero = c.if-v-eq0.true in
    let central : c.args.v.now.pan ≡ pos 0 =
    omega (arith, ints, zero, c.requires.playable.left, c.requires.playable.right) in
    shared_middle _ _ _ _ _ refl
    (subst (λ (s : ℤ). IsAdded (get_or c.args.middle.now k (pos 0)) s (get_or c.add_halves_once.new.middle k (pos 0)))
    (ap (λ (z : ℤ). side z 500) (c.requires.audible k there) ∙ central_side v (nat_eq (i % 2) 0) (c.args.age + k) central)
    (c.add_halves_once.ensures k (omega (arith, inside, c.add_halves_once.auto.middle))))

pub returns-else-v-eq0 : goal.returns-else-v-eq0
returns-else-v-eq0 c i h =
    let v : Voice = record { points = c.args.points.now; parameters = c.args.v.now } in
    let k = i / 2 in
    let there : k < length c.args.run.now = omega (arith, h, c.add_sides.auto.sums, c.requires.sums, c.requires.long) in
    shared_side _ _ _ _ _
    (frame_added v (c.args.age + k) (i % 2) _ _ _ _ _ (c.add_sides.ensures i h) (c.requires.audible k there)
    c.left_part.ensures.value c.right_part.ensures.value) refl
