use Rattle.std.proofs.Common.{◌≡◌}
use Rattle.std.specs.List.{flat_map}
use Rattle.base_outputs.proofs.OutputLaws.{Putting}
use Rattle.mixer.specs.Events.{after_block, block}
use Rattle.wave_file.specs.Wave.{sample_bytes}
use Rattle.live_sessions.specs.Meters.{metered}
use Rattle.live_sessions.proofs.frames.put_frames.Given as goal

-- the blocks so far were put, and the remaining blocks give the rest
abbrev pub invariant-loop-left : goal.invariant-loop-left
invariant-loop-left g l = record {
  put : Putting g.P.Write.contents l.fn.output l.output (flat_map sample_bytes (block l.fn.player l.fn.count))
      (flat_map sample_bytes (block l.player l.left));
  played : after_block l.player l.left ≡ after_block l.fn.player l.fn.count;
  measured : metered l.meter (block l.player l.left) ≡ metered l.fn.meter (block l.fn.player l.fn.count);
}

abbrev pub decreases-loop-left : goal.decreases-loop-left
decreases-loop-left g l = l.left
