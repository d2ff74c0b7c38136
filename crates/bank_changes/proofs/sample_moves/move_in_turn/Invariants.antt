use Rattle.std.proofs.Common.{◌≡◌, ◌≤◌, drop, length}
use Rattle.std.specs.Prelude.{vec_len, vec_capacity}
use Rattle.bank_changes.proofs.SampleMoveLaws.{IsMovedSoFar}
use Rattle.bank_changes.proofs.sample_moves.move_in_turn.Given as goal

-- the moves so far are done, and there is room for the other names
abbrev pub invariant-loop-change : goal.invariant-loop-change
invariant-loop-change l =
    IsMovedSoFar l.fn.parts l.parts l.names.items l.moves (drop l.change-index l.moves)
    × (vec_len l.names ≡ l.change-index) × (length l.moves ≤ vec_capacity l.names)
