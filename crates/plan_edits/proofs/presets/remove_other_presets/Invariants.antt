use Rattle.std.proofs.Common.{◌≡◌}
use Rattle.plan_edits.specs.Keeping.{KeepsNotes}
use Rattle.plan_edits.proofs.presets.remove_other_presets.Given as goal

abbrev pub invariant-loop-preset : goal.invariant-loop-preset
invariant-loop-preset l = record {
  first : l.draft.first ≡ l.fn.draft.first;
  keeps : KeepsNotes l.fn.kept.keys l.fn.draft.bank l.draft.bank;
}
