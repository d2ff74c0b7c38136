-- Samples that are clipped, silent, or away from zero.
use Rattle.std.specs.Prelude.{ℕ, ℤ, pos, Bool, cond, ◌==◌, ◌&&◌, ◌||◌, ◌+◌, ◌+ℤ◌, not, nat_lt, nat_le, unsigned_abs}
use Rattle.std.specs.Prelude.{int_div}
use Rattle.std.specs.Prelude.{List, [], ◌∷◌, length, map, Option, Some, None}
use Rattle.std.specs.Int.{w16, cast_signed}
use Rattle.std.specs.List.{fold, list_all, sum_by}
use Rattle.bank_parts.specs.declared.parts.Sample.{Sample}
use Rattle.show_findings.specs.declared.finding.Finding.{Finding}
use Rattle.show_findings.specs.declared.finding.Finding.TheVariants.{ClippedSample, SilentSample, OffsetSample}

-- ---- silent samples

-- there are points, and all are 0
abbrev pub is_silent : List ℕ → Bool
is_silent points = not (length points == 0) && list_all (λ p. p == 0) points

abbrev pub silent_sample : ℕ → Sample → Option Finding
silent_sample n s = cond (is_silent s.points) (Some (SilentSample n)) None

-- ---- clipped samples

-- one more point before runs of equal points, each given by the point and its number of points
abbrev pub before_runs : ℕ → List (ℕ × ℕ) → List (ℕ × ℕ)
before_runs p [] = (p, 1) ∷ []
before_runs p (r ∷ rs) = cond (p == r.0) ((p, r.1 + 1) ∷ rs) ((p, 1) ∷ r ∷ rs)

-- the runs of equal neighbouring points
abbrev pub runs : List ℕ → List (ℕ × ℕ)
runs [] = []
runs (p ∷ ps) = before_runs p (runs ps)

-- the ends of the scale: the words of 32,767 and of -32,768
abbrev pub is_end : ℕ → Bool
is_end p = p == 32767 || p == 32768

-- a run of at least three points at an end of the scale is clipped
abbrev pub clipped_in : ℕ × ℕ → ℕ
clipped_in run = cond (is_end run.0 && nat_le 3 run.1) run.1 0

-- the number of clipped points
abbrev pub clipped_points : List ℕ → ℕ
clipped_points points = sum_by clipped_in (runs points)

abbrev pub clipped_sample : ℕ → Sample → Option Finding
clipped_sample n s =
    cond (nat_lt 0 (clipped_points s.points)) (Some (ClippedSample n (clipped_points s.points))) None

-- ---- the mean

-- the sum of the points, which are signed
abbrev pub sum_of : List ℕ → ℤ
sum_of points = fold ◌+ℤ◌ (pos 0) (map (cast_signed w16) points)

-- their mean, rounded toward zero
abbrev pub mean_of : List ℕ → ℤ
mean_of points = int_div (sum_of points) (pos (length points))

-- at least 1,000 points, with a mean above 328 or below -328
abbrev pub has_offset : List ℕ → Bool
has_offset points = nat_le 1000 (length points) && nat_lt 328 (unsigned_abs (mean_of points))

abbrev pub offset_sample : ℕ → Sample → Option Finding
offset_sample n s = cond (has_offset s.points) (Some (OffsetSample n (mean_of s.points))) None
