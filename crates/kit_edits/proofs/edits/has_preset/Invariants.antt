use Rattle.std.proofs.Common.{◌≡◌, drop}
use Rattle.std.specs.List.{list_any}
use Rattle.kit_edits.specs.Members.{has_preset}
use Rattle.kit_edits.proofs.SearchLaws.{passes}
use Rattle.kit_edits.proofs.edits.has_preset.Given as goal

-- none of the presets so far has the numbers
abbrev pub invariant-loop-i : goal.invariant-loop-i
invariant-loop-i l = has_preset l.presets l.numbers ≡ list_any (passes l.numbers) (drop l.i l.presets)
