use Rattle.std.proofs.Common.{◌≡◌, ◌≤◌, ◌-◌, drop}
use Rattle.std.specs.List.{find}
use Rattle.zone_select.specs.Select.{has_preset_numbers}
use Rattle.zone_select.proofs.pairs.first_preset.Given as goal

-- none of the presets before this one has the note's numbers
abbrev pub invariant-loop-preset : goal.invariant-loop-preset
invariant-loop-preset l =
    record {
      left : find (has_preset_numbers l.note) l.bank.presets
          ≡ find (has_preset_numbers l.note) (drop l.preset l.bank.presets);
      within : l.preset ≤ l.count;
    }

abbrev pub decreases-loop-preset : goal.decreases-loop-preset
decreases-loop-preset l = l.count - l.preset
