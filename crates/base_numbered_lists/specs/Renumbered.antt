-- The numbers of a list's members after an insertion, a removal or a move.
use Rattle.std.specs.Prelude.{ℕ, ◌+◌, ◌-◌, ◌==◌, nat_lt, nat_le, ◌&&◌, if◌then◌else◌}
use Rattle.base_numbered_lists.specs.declared.renumbering.Renumbering.{Renumbering}
use Rattle.base_numbered_lists.specs.declared.renumbering.Renumbering.TheVariants.{Insertion, Removal, Move}

-- The new number of the member that had number x.
abbrev pub renumbered : Renumbering → ℕ → ℕ
renumbered (Insertion i) x = if nat_le i x then x + 1 else x
renumbered (Removal i) x = if nat_lt i x then x - 1 else x
renumbered (Move i j) x =
    if x == i then j
    else (if nat_lt i x && nat_le x j then x - 1
    else (if nat_le j x && nat_lt x i then x + 1 else x))
