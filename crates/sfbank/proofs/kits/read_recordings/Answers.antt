use Rattle.std.proofs.Common.{◌≡◌, ◌∙◌, ◌+◌, ◌∷◌, List, Ok, ap, arith, length, map, subst, suc, sym, rules}
use Rattle.sfbank.specs.declared.kits.KitWave.{KitWave}
use Rattle.sfbank.specs.Kits.{bare, recordings_from, recordings_in, source_of}
use Rattle.sfbank.proofs.KitRuns.{joined, one_read}
use Rattle.sfbank.proofs.kits.read_recordings.Goals as goal

pub loop-wave-preserved : goal.loop-wave-preserved
loop-wave-preserved c =
    let l = c.loop-wave in
    let rest = c.next.new.self.rest.items in
    let due = recordings_in c.args.options (map source_of c.args.waves.items) in
    let step : l.wave-iterator.rest.items ≡ c.in-Some.wave ∷ rest = search rules in
    let lengths = ap length step in
    let count = l.invariant.0 in
    let one : l.number + 1 ≡ suc l.number = omega arith in
    let h = l.invariant.1
    ∙ ap (λ (ws : List KitWave). joined (map bare l.recordings.items) (recordings_from (suc l.number) c.args.options (map source_of ws))) step
    in (
      omega (arith, lengths, count),
      subst (λ m. due ≡ joined (map bare c.push.new.self.items) (recordings_from (suc m) c.args.options (map source_of rest)))
          (sym one)
          (one_read due c.args.options c.in-Some.wave rest (suc l.number) l.recordings.items c.push.new.self.items
          c.in-Ok.recording (sym c.in-Ok.ensures) c.in_ok-push-in-Ok.ensures.items h),
    )
