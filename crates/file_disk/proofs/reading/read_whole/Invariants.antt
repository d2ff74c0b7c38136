use Rattle.std.proofs.Common.{◌≡◌, ◌≤◌, ◌-◌, vec_len}
use Rattle.file_disk.specs.Inputs.{most_read, ReadsOn}
use Rattle.file_disk.proofs.reading.read_whole.Given as goal

-- the bytes are those read of the file
abbrev pub invariant-loop-device : goal.invariant-loop-device
invariant-loop-device g l = record {
  within : vec_len l.bytes ≤ most_read;
  read : ReadsOn (g.D.Device.unread l.fn.device) (g.D.Device.unread l.device) l.bytes.items;
  stays : g.D.Device.world l.device ≡ g.D.Device.world l.fn.device;
}

abbrev pub decreases-loop-device : goal.decreases-loop-device
decreases-loop-device g l = most_read - vec_len l.bytes
