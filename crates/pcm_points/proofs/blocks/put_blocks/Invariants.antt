use Rattle.std.proofs.Common.{◌≡◌, ◌≤◌, ◌<◌, ◌+◌, ◌*◌, ◌/◌, ◌++◌, ℕ, length, get_or}
use Rattle.std.specs.List.{flat_map}
use Rattle.sample_view.specs.Words.{word_bytes}
use Rattle.pcm_points.specs.Points.{channel_words}
use Rattle.pcm_points.proofs.blocks.put_blocks.Given as goal

-- the points so far, followed by those of the remaining frames, are all points, and there is room for them
abbrev pub invariant-loop-rest : goal.invariant-loop-rest
invariant-loop-rest l = record {
  all :
      l.points.items ++ flat_map word_bytes (channel_words l.fn.encoding l.channels l.channel l.rest)
      ≡ l.initial.points.items ++ flat_map word_bytes (channel_words l.fn.encoding l.channels l.channel l.bytes);
  room : l.points.len + length l.rest / l.frame_size * 2 ≤ l.points.cap;
  bytes : (k : ℕ) → get_or l.rest k 0 < 256;
}

abbrev pub decreases-loop-rest : goal.decreases-loop-rest
decreases-loop-rest l = length l.rest
