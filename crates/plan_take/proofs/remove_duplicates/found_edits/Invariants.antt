use Rattle.std.specs.Prelude.{◌≡◌}
use Rattle.zone_select.specs.Alike.{AreAlike}
use Rattle.plan_take.proofs.remove_duplicates.found_edits.Given as goal

abbrev pub invariant-loop-pass : goal.invariant-loop-pass
invariant-loop-pass l = (l.draft.first ≡ l.fn.bank) × AreAlike l.fn.bank l.draft.bank
