use Rattle.std.proofs.Common.{length}
use Rattle.std.specs.Ordering.{nat_cmp}
use Rattle.std.specs.BTreeMap.{get}
use Rattle.show_findings.specs.Presets.{repeated}
use Rattle.show_findings.proofs.GatherLaws.{Options}
use Rattle.show_findings.proofs.FirstLaws.{Firsts}
use Rattle.show_findings.proofs.hidden.push_repeated.Given as goal

-- the map has the first index of each earlier key, and the remaining indexes are still to be added
abbrev pub invariant-loop-index : goal.invariant-loop-index
invariant-loop-index l = record {
  found : Options (repeated l.keys) (length l.keys) l.initial.found.items l.found.items l.index;
  firsts : Firsts l.keys l.index (λ q. get nat_cmp l.firsts q);
}
