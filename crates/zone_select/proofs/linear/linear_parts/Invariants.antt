use Rattle.std.proofs.Common.{◌≡◌, ◌*◌, pos, ◌+ℤ◌, ◌≤ℤ◌, take}
use Rattle.std.specs.List.{fold}
use Rattle.zone_select.specs.Amounts.{linear_part, linear_sources}
use Rattle.zone_select.specs.ZoneSettings.{settings_of}
use Rattle.zone_select.proofs.linear.linear_parts.Given as goal

-- the contributions of the sources so far
abbrev pub invariant-loop-source : goal.invariant-loop-source
invariant-loop-source l = record {
  added : l.sum
      ≡ fold
      (λ s source.
      s
      +ℤ linear_part l.key l.velocity (settings_of l.zones.instrument) (settings_of l.zones.preset)
      l.operator source)
      (pos 0) (take l.source-index l.source-items);
  items : l.source-items ≡ linear_sources;
  low : pos 0 ≤ℤ (l.sum +ℤ pos (65536 * l.source-index));
  high : l.sum ≤ℤ pos (65536 * l.source-index);
}
