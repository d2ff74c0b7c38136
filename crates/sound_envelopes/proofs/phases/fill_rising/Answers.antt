use Rattle.std.proofs.Common.{◌≡◌, ◌+◌, ◌*◌, ◌/◌, ◌%◌, ◌<◌, arith, ap, ◌∙◌}
use Rattle.std.proofs.lemmas.Nat.{mod_below}
use Rattle.sound_envelopes.proofs.WriteLaws.{below_set}
use Rattle.sound_envelopes.proofs.PhaseLaws.{rising_more, line_whole, rising_fits}
use Rattle.sound_envelopes.proofs.phases.fill_rising.Goals as goal
use Rattle.sound_envelopes.proofs.phases.fill_rising.Goals.{then-rest-over, else-rest-over}

pub loop-k-preserved : goal.loop-k-preserved
loop-k-preserved c =
    let k = c.loop-k.k in
    let over = c.args.over in
    let j = c.args.risen + k in
    let b =
    rising_fits c.loop-k.whole over c.loop-k.rest j c.loop-k.invariant.small c.loop-k.invariant.sum
    (omega (arith, c.requires.within)) in
    let w = line_whole (65536 * j) over c.loop-k.whole c.loop-k.rest c.loop-k.invariant.small c.loop-k.invariant.sum in
    let more = rising_more over j c.loop-k.whole c.loop-k.rest c.loop-k.invariant.sum in
    let next : c.args.risen + k + 1 ≡ c.args.risen + (k + 1) = omega arith in
    let more' = more ∙ ap (λ i. 65536 * i) next in
    let small : 65536 % over < over = mod_below 65536 over c.requires.divisor.0 in
    let done =
    below_set 0 (λ k y. y ≡ 65536 * (c.args.risen + k) / over) c.loop-k.levels k _ (omega arith)
    c.loop-k.invariant.done (let e = w in omega (arith, e, b)) in
    elim c.if-rest-over.branch [
      | then-rest-over w ↦ record {
        sum =
            omega (arith, more', ap (λ x. x * over) w.whole-is, w.rest-is);
        small =
            omega (arith, small, w.rest-is);
        done = done;
      }
      | else-rest-over w ↦ record {
        sum =
            omega (arith, more', ap (λ x. x * over) w.whole-is, w.rest-is);
        small =
            omega (arith, small, w.rest-is);
        done = done;
      }
    ]
