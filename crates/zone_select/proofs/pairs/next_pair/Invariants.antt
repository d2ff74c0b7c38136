use Rattle.std.proofs.Common.{◌≡◌, ◌<◌, ◌-◌, IfSome}
use Rattle.std.specs.Option.{option_map_or}
use Rattle.zone_select.specs.Remaining.{remaining_pairs}
use Rattle.zone_select.proofs.pairs.next_pair.Given as goal

-- no pair before this position remained
abbrev pub invariant-loop-next : goal.invariant-loop-next
invariant-loop-next l = record {
  left : remaining_pairs l.bank l.note l.preset l.next l.instrument_zone
      ≡ remaining_pairs l.bank l.note l.preset l.fn.first l.from;
  within : IfSome l.next (λ k. k < 65535);
}

abbrev pub decreases-loop-next : goal.decreases-loop-next
decreases-loop-next l = option_map_or (λ k. 65535 - k) l.next 0
