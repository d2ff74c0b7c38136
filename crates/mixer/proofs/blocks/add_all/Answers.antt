use Rattle.std.proofs.Common.{◌≡◌, ◌+◌, ◌*◌, ◌≤◌, ◌-◌, ℕ, ℤ, pos, ◌+ℤ◌, ◌/◌, get_or, length, arith, map, take, drop}
use Rattle.std.proofs.Common.{◌∙◌, sym, ap}
use Rattle.std.proofs.lemmas.Int.{ints}
use Rattle.std.proofs.lemmas.Grind.{common_steps}
use Rattle.mixer.specs.Events.{aged}
use Rattle.mixer.proofs.Sums.{add_z-zero}
use Rattle.mixer.proofs.Aging.{young_part, part_live, total_part, total_none, added}
use Rattle.mixer.proofs.blocks.add_all.Goals as goal

pub loop-at-init : goal.loop-at-init
loop-at-init c = record {
  within = omega arith;
  value =
      λ k h.
      sym (add_z-zero (get_or c.args.totals.now k (pos 0)))
      ∙ ap (λ (z : ℤ). get_or c.args.totals.now k (pos 0) +ℤ z) (sym (total_none k));
  room = c.requires.silent;
  live = (λ _. c.args.voices.now);
}

pub add_group-requires-clause-young : goal.add_group-requires-clause-young
add_group-requires-clause-young c =
    let le : c.loop-at.at ≤ length c.args.voices.now = omega (arith, c.loop-at.invariant.within) in
    young_part (aged (length c.args.totals.now / 2)) c.args.voices.now c.loop-at.voices c.loop-at.at c.min-n.result _
    le c.loop-at.invariant.live c.requires.young

pub loop-at-preserved : goal.loop-at-preserved
loop-at-preserved c =
    let at = c.loop-at.at in
    let n = c.min-n.result in
    let xs = c.args.voices.now in
    let ys = c.loop-at.voices in
    let f = aged (length c.args.totals.now / 2) in
    let le : at ≤ length xs = omega (arith, c.loop-at.invariant.within) in
    let end : at + n ≤ length xs = omega arith in
    record {
      within = end;
      value = λ k h.
          added _ _ _ _ _ (c.add_group.ensures.value k h) (c.loop-at.invariant.value k (omega arith))
          ∙ ap (λ (z : ℤ). get_or c.args.totals.now k (pos 0) +ℤ z)
          (sym (total_part f xs ys at n k le c.loop-at.invariant.live));
      room = λ k h.
          let len : length (take (at + n - at) (drop at ys)) ≡ n = grind (arith, common_steps) in
          let r = c.add_group.ensures.room (2 * at) c.loop-at.invariant.room k h in
          (omega (arith, ints, r.0, len), omega (arith, ints, r.1, len));
      live = part_live f xs ys c.add_group.new.voices at n end c.loop-at.invariant.live
          (c.add_group.ensures.live
          ∙ ap (λ (m : ℕ). map (aged (m / 2)) (take (at + n - at) (drop at ys))) c.loop-at.auto.totals);
    }
