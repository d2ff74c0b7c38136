-- Edits that move samples, one after another.
use Rattle.std.proofs.Common.{◌≡◌, List, [], ◌∷◌, map, refl}
use Rattle.bank_parts.specs.declared.parts.Parts.{Parts}
use Rattle.bank_changes.specs.declared.sample_moves.SampleMove.{SampleMove}
use Rattle.bank_changes.specs.Samples.{sample_moved}
use Rattle.bank_changes.specs.SampleMoves.{samples_moved}
use Rattle.bank_edits.specs.MoveEdits.{move_edit}
use Rattle.bank_edits.specs.Runs.{after_all}

pub moves_after : (b : Parts) (ms : List SampleMove) → after_all b (map move_edit ms) ≡ samples_moved b ms
moves_after b [] = refl
moves_after b (m ∷ ms) = moves_after (sample_moved b m.from m.to) ms
