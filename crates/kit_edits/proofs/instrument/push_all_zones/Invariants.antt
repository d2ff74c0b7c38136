use Rattle.std.proofs.Common.{◌≡◌, ◌++◌, drop}
use Rattle.std.specs.List.{flat_map}
use Rattle.kit_edits.specs.Zones.{row_zones}
use Rattle.kit_edits.proofs.instrument.push_all_zones.Given as goal

-- the zones so far and those of the remaining rows are all zones
abbrev pub invariant-loop-row : goal.invariant-loop-row
invariant-loop-row l =
    l.made.items ++ flat_map (row_zones l.numbered) (drop l.row-index l.rows)
    ≡ l.fn.made.items ++ flat_map (row_zones l.numbered) l.rows
