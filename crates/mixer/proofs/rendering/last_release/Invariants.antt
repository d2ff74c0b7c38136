use Rattle.std.proofs.Common.{◌≡◌, ◌≤◌, max}
use Rattle.zone_select.specs.Select.{selected}
use Rattle.mixer.specs.Render as whole
use Rattle.mixer.proofs.Selected.{voices_of}
use Rattle.mixer.proofs.rendering.last_release.Given as goal

-- the maximum of this and the releases of the remaining pairs is the longest release
abbrev pub invariant-loop-pair : goal.invariant-loop-pair
invariant-loop-pair l = record {
  can_next : (goal.iterator-loop-pair).can_next l.pair-iterator;
  is_finite : (goal.iterator-loop-pair).is_finite l.pair-iterator;
  left : max l.last (whole.last_release (voices_of l.bank l.note l.pair-iterator))
      ≡ whole.last_release (selected l.bank l.note);
  most : l.last ≤ 4480284;
}
