use Rattle.std.proofs.Common.{◌≡◌, ◌-◌, ◌+◌, map}
use Rattle.std.specs.Prelude.{max}
use Rattle.std.specs.List.{fold}
use Rattle.show_findings.specs.Clicks.{step_between, steps, largest}
use Rattle.show_findings.proofs.GatherLaws.{from}
use Rattle.show_findings.proofs.clicks.largest_step.Given as goal

-- the largest step is that so far, or one of the rest
abbrev pub invariant-loop-at : goal.invariant-loop-at
invariant-loop-at l =
    fold max l.largest (map (λ i. step_between l.points i (i + 1)) (from l.at (l.to - 1))) ≡ largest (steps l.points l.from l.to)
