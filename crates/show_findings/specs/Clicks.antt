-- Loops that click.
use Rattle.std.specs.Prelude.{ℕ, Bool, cond, ◌+◌, ◌-◌, ◌*◌, ◌-ℤ◌, ◌&&◌, nat_lt, nat_le, min, max, List, length, map}
use Rattle.std.specs.Prelude.{Option, Some, None, slice_index, unsigned_abs}
use Rattle.std.specs.Int.{w16, cast_signed}
use Rattle.std.specs.List.{fold, range_with_len}
use Rattle.std.specs.Option.{option_and_then}
use Rattle.bank_parts.specs.declared.parts.Sample.{Sample}
use Rattle.show_findings.specs.declared.finding.Finding.{Finding}
use Rattle.show_findings.specs.declared.finding.Finding.TheVariants.{ClickingLoop}

-- how far two points are apart
abbrev pub step_between : List ℕ → ℕ → ℕ → ℕ
step_between points i j =
    unsigned_abs (cast_signed w16 (slice_index points i) -ℤ cast_signed w16 (slice_index points j))

-- the steps between neighbouring points, from one position to before another
abbrev pub steps : List ℕ → ℕ → ℕ → List ℕ
steps points from to = map (λ i. step_between points i (i + 1)) (range_with_len from (to - 1 - from))

-- 0 if there are none
abbrev pub largest : List ℕ → ℕ
largest ns = fold max 0 ns

-- the jump from the last point of a loop to its first
abbrev pub loop_jump : List ℕ → ℕ × ℕ → ℕ
loop_jump points looped = step_between points (looped.1 - 1) looped.0

-- the largest step between neighbours among the first 1,024 and among the last 1,024 points of a loop
abbrev pub loop_step : List ℕ → ℕ × ℕ → ℕ
loop_step points looped =
    max (largest (steps points looped.0 (min looped.1 (looped.0 + 1024))))
    (largest (steps points (max looped.0 (looped.1 - 1024)) looped.1))

-- the loop has a point, and ends within the points
abbrev pub is_within : List ℕ → ℕ × ℕ → Bool
is_within points looped = nat_lt looped.0 looped.1 && nat_le looped.1 (length points)

-- the jump is above 1,000, and more than twice that step
abbrev pub clicks : List ℕ → ℕ × ℕ → Bool
clicks points looped =
    let jump = loop_jump points looped in nat_lt 1000 jump && nat_lt (2 * loop_step points looped) jump

abbrev pub clicking_loop : ℕ → Sample → Option Finding
clicking_loop n s =
    option_and_then
    (λ (looped : ℕ × ℕ).
    cond (is_within s.points looped && clicks s.points looped)
    (Some (ClickingLoop n (loop_jump s.points looped) (loop_step s.points looped))) None)
    s.looped
