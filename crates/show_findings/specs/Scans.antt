-- What one pass over points finds.
use Rattle.std.specs.Prelude.{ℕ, pos, cond, ◌==◌, ◌+◌, ◌*◌, ◌%◌, ◌^◌, ◌-◌, ◌+ℤ◌, ◌&&◌, not, min, nat_lt, nat_le}
use Rattle.std.specs.Prelude.{bit_xor}
use Rattle.std.specs.Prelude.{List, length, map, ℤ, neg_ℤ, ◌≤ℤ◌, int_div, unsigned_abs, Option, Some, None}
use Rattle.std.specs.Int.{w16, w64, cast_signed, int_wrap}
use Rattle.std.specs.List.{fold}
use Rattle.bank_parts.specs.declared.parts.Sample.{Sample}
use Rattle.show_findings.specs.declared.finding.Finding.{Finding}
use Rattle.show_findings.specs.declared.finding.Finding.TheVariants.{OffsetSample}
use Rattle.show_findings.specs.declared.points.PointFacts.{PointFacts}
use Rattle.show_findings.specs.declared.points.PointScan.{PointScan}
use Rattle.show_findings.specs.declared.points.Clips.{Clips}
use Rattle.show_findings.specs.Points.{is_end}

-- a sum of 32 bits, saturated
abbrev pub saturated : ℕ → ℕ
saturated n = min n (2 ^ 32 - 1)

-- ---- clipped points

-- after the end of a run
abbrev pub ended : Clips → Clips
ended c = record c { clipped = cond (nat_le 3 c.run) (saturated (c.clipped + c.run)) c.clipped; run = 0 }

-- after a point at an end of the scale
abbrev pub end_more : Clips → ℕ → Clips
end_more c p =
    let before = cond (nat_lt 0 c.run && not (c.end == p)) (ended c) c in
    record before { run = saturated (before.run + 1); end = p }

abbrev pub clips_more : Clips → ℕ → Clips
clips_more c p = cond (is_end p) (end_more c p) (cond (nat_lt 0 c.run) (ended c) c)

-- ---- all

-- the hash FNV-1a of one more number
abbrev pub mixed : ℕ → ℕ → ℕ
mixed hash n = bit_xor hash n * 1099511628211 % 2 ^ 64

abbrev pub scan_start : PointScan
scan_start = record { sum = pos 0; hash = 14695981039346656037; clips = record { clipped = 0; run = 0; end = 0 } }

abbrev pub scan_more : PointScan → ℕ → PointScan
scan_more s p = record {
  sum = int_wrap w64 (s.sum +ℤ cast_signed w16 p);
  hash = mixed s.hash p;
  clips = clips_more s.clips p;
}

-- what is found when this number of points has been scanned
abbrev pub facts_in : PointScan → ℕ → PointFacts
facts_in s count = record { count = count; sum = s.sum; clipped = (ended s.clips).clipped; hash = s.hash }

-- what points show
abbrev pub facts_of : List ℕ → PointFacts
facts_of points = facts_in (fold scan_more scan_start points) (length points)

abbrev pub facts_of_samples : List Sample → List PointFacts
facts_of_samples samples = map (λ (s : Sample). facts_of s.points) samples

-- ---- what the facts of points show

-- a number is at most so far from 0
abbrev pub IsNear : ℤ → ℕ → Type 0
IsNear z n = (neg_ℤ (pos n) ≤ℤ z) × (z ≤ℤ pos n)

abbrev pub offset_in : ℕ → PointFacts → Option Finding
offset_in n f =
    cond (nat_le 1000 f.count && nat_lt 328 (unsigned_abs (int_div f.sum (pos f.count))))
    (Some (OffsetSample n (int_div f.sum (pos f.count)))) None
