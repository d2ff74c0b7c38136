-- Bytes in slices, read from the first byte on.
use Rattle.std.specs.Prelude.{ℕ, List, ◌++◌, length}
use Rattle.sample_view.specs.Pieces.{joined_bytes}
use Rattle.bank_equality.specs.declared.points.Unread.{Unread}

-- the unread bytes
abbrev pub remaining_bytes : Unread → List ℕ
remaining_bytes unread = unread.first.now ++ joined_bytes unread.others.now

-- how many slices are still unread as a whole
abbrev pub remaining_slices : Unread → ℕ
remaining_slices unread = length unread.others.now
