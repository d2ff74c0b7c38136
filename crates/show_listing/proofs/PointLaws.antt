-- The number of all points.
use Rattle.std.proofs.Common.{◌≡◌, ◌+◌, ◌*◌, List, [], ◌∷◌, length, arith}
use Rattle.std.proofs.lemmas.List.Sums.{sum_by-cons}
use Rattle.bank_parts.specs.declared.parts.Sample.{Sample}
use Rattle.bank_parts.specs.Valid.{point_total}
use Rattle.show_listing.specs.Listing.{point_count}

-- the points in a file are these, and the zero points after each sample
pub file_points : (samples : List Sample) → point_total samples ≡ point_count samples + 46 * length samples
file_points [] = omega arith
file_points (s ∷ samples) =
    let a = sum_by-cons (λ (x : Sample). length x.points) s samples in
    let b = sum_by-cons (λ (x : Sample). length x.points + 46) s samples in
    let c = file_points samples in
    omega (arith, a, b, c)
