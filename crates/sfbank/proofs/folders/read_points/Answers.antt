use Rattle.std.proofs.Common.{◌≡◌, ◌∙◌, ◌+◌, ◌∷◌, List, Err, ap, arith, drop, length, map, subst, suc, sym, rules, ℕ}
use Rattle.std.specs.List.{zip}
use Rattle.std.specs.Borrow.{Bor}
use Rattle.program_reports.specs.declared.run_fault.RunFault.TheVariants as run
use Rattle.sfbank.specs.Folders.{all_points, points_from}
use Rattle.sfbank.proofs.FolderRuns.{no_files, no_some, none_left, none_pointed, one_left, one_pointed}
use Rattle.sfbank.proofs.KitRuns.{joined}
use Rattle.sfbank.proofs.folders.read_points.Goals as goal

abbrev bytes : List (Bor (List ℕ)) → List (List ℕ)
bytes waves = map (λ (wave : Bor (List ℕ)). wave.now) waves

pub loop-sample-preserved : goal.loop-sample-preserved
loop-sample-preserved c =
    let l = c.loop-sample in
    let rest = c.next.new.self.rest.items in
    let ws = bytes c.args.waves.now in
    let due = all_points c.args.samples.items ws in
    let step : l.sample-iterator.rest.items ≡ c.in-Some.sample ∷ rest = search rules in
    let lengths = ap length step in
    let count = l.invariant.0 in
    let one : l.number + 1 ≡ suc l.number = omega arith in
    let there =
    one_left (λ (wave : Bor (List ℕ)). wave.now) c.args.waves.now l.number c.in-Some-wave_at.wave
    (sym c.in-Some-wave_at.ensures) in
    let h = l.invariant.1 ∙ (λ i. joined l.all.items (points_from (suc l.number) (zip (step i) (there i)))) in (
      omega (arith, lengths, count),
      subst (λ m. due ≡ joined c.push.new.self.items (points_from (suc m) (zip rest (drop m ws)))) (sym one)
          (one_pointed due c.in-Some.sample c.in-Some-wave_at.wave.now (zip rest (drop (suc l.number) ws)) (suc l.number)
          l.all.items c.push.new.self.items c.in-Ok.points (sym c.in-Ok.ensures) c.in_ok-push-in-Ok.ensures.items h),
    )

pub returns-in-Err : goal.returns-in-Err
returns-in-Err c =
    let l = c.loop-sample in
    let rest = c.next.new.self.rest.items in
    let ws = bytes c.args.waves.now in
    let due = all_points c.args.samples.items ws in
    let step : l.sample-iterator.rest.items ≡ c.in-Some.sample ∷ rest = search rules in
    let one : l.number + 1 ≡ suc l.number = omega arith in
    let there =
    one_left (λ (wave : Bor (List ℕ)). wave.now) c.args.waves.now l.number c.in-Some-wave_at.wave
    (sym c.in-Some-wave_at.ensures) in
    let h = l.invariant.1 ∙ (λ i. joined l.all.items (points_from (suc l.number) (zip (step i) (there i)))) in
    subst (λ m. due ≡ Err (run.InRecording m c.in-Err.fault)) (sym one)
    (none_pointed due c.in-Some.sample c.in-Some-wave_at.wave.now (zip rest (drop (suc l.number) ws)) (suc l.number)
    l.all.items c.in-Err.fault (sym c.in-Err.ensures) h)

pub returns-in_default : goal.returns-in_default
returns-in_default c =
    let l = c.loop-sample in
    let rest = l.sample-iterator.rest.items in
    let due = all_points c.args.samples.items (bytes c.args.waves.now) in
    let left =
    none_left (λ (wave : Bor (List ℕ)). wave.now) c.args.waves.now l.number
    (sym c.wave_at.ensures ∙ no_some c.wave_at.result c.in_default.not-Some) in
    no_files due l.all.items rest (suc l.number)
    (l.invariant.1 ∙ ap (λ (waves : List (List ℕ)). joined l.all.items (points_from (suc l.number) (zip rest waves))) left)
