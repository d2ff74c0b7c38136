use Rattle.std.proofs.Common.{◌≡◌, ◌≤◌, ◌+◌, ◌*◌, ◌/◌, ◌++◌, length}
use Rattle.std.specs.List.{flat_map}
use Rattle.sample_view.specs.Words.{word_bytes}
use Rattle.pcm_points.specs.Points.{channel_words}
use Rattle.pcm_points.proofs.channel.put_frames.Given as goal

-- the points so far, followed by those of the remaining frames, are all points, and there is room for them
abbrev pub invariant-loop-rest : goal.invariant-loop-rest
invariant-loop-rest l = record {
  all :
      l.points.items ++ flat_map word_bytes (channel_words l.encoding l.channels l.channel l.rest)
      ≡ l.initial.points.items ++ flat_map word_bytes (channel_words l.encoding l.channels l.channel l.bytes);
  room : l.points.len + length l.rest / l.frame_size * 2 ≤ l.points.cap;
}

abbrev pub decreases-loop-rest : goal.decreases-loop-rest
decreases-loop-rest l = length l.rest
