use Rattle.std.proofs.Common.{◌≡◌, map, take}
use Rattle.file_host.proofs.CheckLaws.{IsNoneOf}
use Rattle.file_host.proofs.checks.check_apart.Given as goal

-- the output is one file with none of those so far
abbrev pub invariant-loop-other : goal.invariant-loop-other
invariant-loop-other g l = record {
  apart : IsNoneOf (g.H.Host.world l.fn.host) l.output (map (λ other. other.now) (take l.other-index l.others));
  stays : g.H.Host.world l.host ≡ g.H.Host.world l.fn.host;
}
