use Rattle.std.proofs.Common.{◌≡◌, ◌-◌, ◌≤◌, drop, take, length, ap, arith}
use Rattle.std.proofs.lemmas.Grind.{common_steps}
use Rattle.sfbank_c.specs.declared.open_player.OpenPlayer.{OpenPlayer}
use Rattle.sfbank_c.proofs.SideLaws.{later_more, of_sides, part_more}
use Rattle.sfbank_c.proofs.floats.write_parts.Goals as goal

pub loop-at-preserved : goal.loop-at-preserved
loop-at-preserved c =
    let at = c.loop-at.at in
    let end = c.min-end.result in
    let left = c.loop-at.left in
    let right = c.loop-at.right in
    let new = c.write_part.new.left in
    let other = c.write_part.new.right in
    let ps = c.args.player.now.player in
    let before : at ≤ end = grind (arith, common_steps) in
    let within : end ≤ length left = grind (arith, common_steps) in
    let equal : length right ≡ length left = grind (arith, common_steps) in
    let m = length (take (end - at) (drop at left)) in
    let size : m ≡ end - at = grind (arith, common_steps) in
    let new_size : length new ≡ m = grind (arith, common_steps) in
    let other_size : length other ≡ m = grind (arith, common_steps) in
    let both = part_more ps c.loop-at.player.player at end m left right new other _ _ before within equal size new_size
    other_size (ap (λ (p : OpenPlayer). p.player) c.loop-at.invariant.player) c.write_part.ensures.heard
    c.loop-at.invariant.left c.loop-at.invariant.right in
    record {
      within = grind (arith, common_steps);
      player =
          later_more at m end c.args.player.now c.loop-at.player c.write_part.new.player c.loop-at.invariant.player
          c.write_part.ensures.played (omega (arith, before, size));
      left = both.0;
      right = both.1;
    }

pub returns-clause-heard : goal.returns-clause-heard
returns-clause-heard c =
    of_sides c.args.player.now.player (length c.args.left.now) c.loop-at.left c.loop-at.right
    (grind (arith, common_steps)) (λ k l. c.loop-at.invariant.left k (grind (arith, common_steps)))
    (λ k l. c.loop-at.invariant.right k (grind (arith, common_steps)))
