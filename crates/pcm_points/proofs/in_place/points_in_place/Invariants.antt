use Rattle.std.proofs.Common.{◌≡◌, ◌≤◌, ◌-◌, ◌++◌, length, take, drop}
use Rattle.std.specs.List.{flat_map}
use Rattle.sample_view.specs.Words.{word_bytes}
use Rattle.pcm_points.specs.Points.{channel_words}
use Rattle.pcm_points.proofs.in_place.points_in_place.Given as goal

-- the points written so far, followed by those of the remaining frames, are all points
abbrev pub invariant-loop-read : goal.invariant-loop-read
invariant-loop-read l = record {
  all :
      take l.written l.bytes
      ++ flat_map word_bytes (channel_words l.encoding l.channels l.channel (drop l.read l.bytes))
      ≡ flat_map word_bytes (channel_words l.encoding l.channels l.channel l.initial.bytes);
  behind : l.written ≤ l.read;
  size : l.size ≡ length l.bytes;
  within : l.read ≤ l.size;
}

abbrev pub decreases-loop-read : goal.decreases-loop-read
decreases-loop-read l = l.size - l.read
