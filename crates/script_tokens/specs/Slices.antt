-- Bytes split over several slices.
use Rattle.std.specs.Prelude.{ℕ, List}
use Rattle.std.specs.Borrow.{Bor}
use Rattle.std.specs.List.{flat_map}

-- the bytes of slices, one slice after another
abbrev pub all_bytes : List (Bor (List ℕ)) → List ℕ
all_bytes slices = flat_map (λ slice. slice.now) slices
